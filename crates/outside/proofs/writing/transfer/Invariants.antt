use Rattle.std.proofs.Common.{◌≡◌, ◌-◌, ◌≤◌, length, Ok}
use Rattle.outside.specs.Counts.{NoneFell}
use Rattle.outside.specs.Files.{OthersStay}
use Rattle.outside.specs.Reading.{span_of}
use Rattle.outside.specs.Writing.{Transfers}
use Rattle.outside.proofs.writing.transfer.Given as goal

-- so much of the run is copied, and no other file has changed
abbrev pub invariant-loop-done : goal.invariant-loop-done
invariant-loop-done g l =
    let files = g.F.Files in
    record {
      within : l.done ≤ l.from.len;
      room : l.room ≡ length l.buf;
      none_fell : NoneFell (files.counts l.fn.files) (files.counts l.files);
      others : OthersStay l.target (files.file l.fn.files) (files.file l.files);
      there : files.told → Transfers (span_of (files.file l.fn.files l.source) l.from.at l.done) l.target l.to (files.file l.fn.files) (files.file l.files) (Ok tt);
    }

abbrev pub decreases-loop-done : goal.decreases-loop-done
decreases-loop-done g l = l.from.len - l.done
