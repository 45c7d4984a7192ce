use Rattle.std.proofs.Common.{◌≡◌, drop}
use Rattle.std.specs.List.{fold}
use Rattle.conf_keys.specs.Holes.{with_hole}
use Rattle.conf_keys.proofs.partitions.add_holes.Given as goal

abbrev pub invariant-loop-word : goal.invariant-loop-word
invariant-loop-word l = fold with_hole l.initial.holes l.words ≡ fold with_hole l.holes (drop l.word-index l.words)
