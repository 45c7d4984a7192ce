use Rattle.std.proofs.Common.{◌≡◌, length}
use Rattle.outside.specs.Counts.{NoneFell}
use Rattle.outside.specs.Files.{OthersStay}
use Rattle.image_parts.proofs.Holes.{IsAmong, PutsUpTo}
use Rattle.image_parts.proofs.putting.put_pieces.Given as goal

-- what is needed before the end of the last hole is put
abbrev pub invariant-loop-hole : goal.invariant-loop-hole
invariant-loop-hole g l =
    let files = g.F.Files in
    record {
      room : length l.buf ≡ length l.fn.buf;
      among : IsAmong l.part.holes l.hole-index l.from;
      none_fell : NoneFell (files.counts l.fn.files) (files.counts l.files);
      others : OthersStay l.image (files.file l.fn.files) (files.file l.files);
      puts : files.told → PutsUpTo (files.file l.fn.files l.source) l.part l.from l.image (files.file l.fn.files) (files.file l.files);
    }
