use Rattle.std.proofs.Common.{◌≡◌, ◌+◌, ◌-◌, ◌<◌, ◌≤◌, length, take, drop}
use Rattle.outside.specs.Counts.{NoneFell}
use Rattle.outside.specs.Files.{IsThere, bytes_of}
use Rattle.outside.proofs.reading.fill.Given as goal

-- so much is read, of a file that is there
abbrev pub invariant-loop-done : goal.invariant-loop-done
invariant-loop-done g l =
    let files = g.F.Files in
    record {
      within : l.done ≤ length l.buf;
      none_fell : NoneFell (files.counts l.fn.files) (files.counts l.files);
      same_files : files.file l.files ≡ files.file l.fn.files;
      there : files.told → 0 < l.done → IsThere (files.file l.fn.files) l.name (l.off + l.done ≤ length (bytes_of (files.file l.fn.files) l.name));
      same : files.told → take l.done l.buf ≡ take l.done (drop l.off (bytes_of (files.file l.fn.files) l.name));
    }

abbrev pub decreases-loop-done : goal.decreases-loop-done
decreases-loop-done g l = length l.initial.buf - l.done
