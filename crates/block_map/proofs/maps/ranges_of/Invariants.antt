use Rattle.std.proofs.Common.{◌≡◌, ◌≤◌, map, take, None}
use Rattle.std.specs.Prelude.{All}
use Rattle.block_map.specs.Maps.{run_of}
use Rattle.block_map.proofs.maps.ranges_of.Given as goal

abbrev pub invariant-loop-run : goal.invariant-loop-run
invariant-loop-run l = record {
  runs : map run_of l.ranges ≡ take l.run-index l.runs;
  filled : All (λ r. r.first ≤ r.last) l.ranges;
  bare : All (λ r. r.digest ≡ None) l.ranges;
}
