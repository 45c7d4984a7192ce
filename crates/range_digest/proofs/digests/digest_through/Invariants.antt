use Rattle.std.proofs.Common.{◌-◌, ◌≡◌, ◌≤◌, length, IsOkAnd}
use Rattle.sha2.specs.Hashers.{Holds256}
use Rattle.outside.specs.Counts.{NoneFell}
use Rattle.outside.specs.Reading.{span_of}
use Rattle.range_digest.proofs.digests.digest_through.Given as goal

-- so much of the span is hashed
abbrev pub invariant-loop-done : goal.invariant-loop-done
invariant-loop-done g l =
    let files = g.F.Files in
    record {
      within : l.done ≤ l.span.len;
      room : l.room ≡ length l.buf;
      none_fell : NoneFell (files.counts l.fn.files) (files.counts l.files);
      same_files : files.file l.files ≡ files.file l.fn.files;
      unasked : l.done ≡ 0 → l.files ≡ l.fn.files;
      hashed : files.told → IsOkAnd (span_of (files.file l.fn.files l.name) l.span.at l.done) (Holds256 l.hasher);
    }

abbrev pub decreases-loop-done : goal.decreases-loop-done
decreases-loop-done g l = l.span.len - l.done
