use Rattle.std.proofs.Common.{◌≡◌, length}
use Rattle.outside.specs.Counts.{NoneFell}
use Rattle.outside.specs.Files.{IsThere, OthersStay, bytes_of}
use Rattle.image_parts.specs.Files.{PutsParts}
use Rattle.image_parts.proofs.putting.put_parts.Given as goal

-- so many partitions are put
abbrev pub invariant-loop-k : goal.invariant-loop-k
invariant-loop-k g l =
    let files = g.F.Files in
    record {
      room : length l.buf ≡ length l.fn.buf;
      none_fell : NoneFell (files.counts l.fn.files) (files.counts l.files);
      others : OthersStay l.image (files.file l.fn.files) (files.file l.files);
      sized : files.told → IsThere (files.file l.files) l.image (length (bytes_of (files.file l.files) l.image) ≡ length (bytes_of (files.file l.fn.files) l.image));
      puts : files.told → PutsParts l.parts l.k l.image (files.file l.fn.files) (files.file l.files);
    }
