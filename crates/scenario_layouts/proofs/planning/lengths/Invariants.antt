use Rattle.std.proofs.Common.{◌≡◌, length, take}
use Rattle.placement_apart.specs.Apart.{AreLengths}
use Rattle.scenario_layouts.proofs.planning.lengths.Given as goal

abbrev pub invariant-loop-source : goal.invariant-loop-source
invariant-loop-source l = record {
  many : length l.lens ≡ l.source-index;
  lengths : AreLengths (take l.source-index l.sources) l.lens;
}
