use Rattle.std.proofs.Common.{◌≡◌, take}
use Rattle.outside.specs.Counts.{NoneFell}
use Rattle.placement_apart.specs.Apart.{AreLengths}
use Rattle.image_plan.proofs.Lengths.{Read}
use Rattle.image_plan.proofs.measuring.lengths.Given as goal

-- so many are measured
abbrev pub invariant-loop-k : goal.invariant-loop-k
invariant-loop-k g l =
    let files = g.F.Files in
    record {
      none_fell : NoneFell (files.counts l.fn.files) (files.counts l.files);
      same_files : files.file l.files ≡ files.file l.fn.files;
      lengths : AreLengths (take l.k l.sources) l.lens;
      read : files.told → Read (files.file l.fn.files) l.sources l.lens l.k;
    }
