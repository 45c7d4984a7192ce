use Rattle.std.proofs.Common.{◌-◌, ◌≡◌, ◌≤◌}
use Rattle.outside.specs.Counts.{NoneFell}
use Rattle.outside.specs.Files.{bytes_of}
use Rattle.sparse_reader.specs.Chunks.{IsCursor}
use Rattle.sparse_reader.specs.Tally.{IsTally, tally_in}
use Rattle.sparse_reader.proofs.TallyLemmas.{tallied}
use Rattle.sparse_reader.proofs.tally.read_tally.Given as goal

-- the chunks before the cursor are counted, and what the file has is said by those behind it
abbrev pub invariant-loop-cursor : goal.invariant-loop-cursor
invariant-loop-cursor g l =
    let files = g.F.Files in
    let bytes = bytes_of (files.file l.fn.files) l.from in
    record {
      none_fell : NoneFell (files.counts l.fn.files) (files.counts l.files);
      same_files : files.file l.files ≡ files.file l.fn.files;
      within : l.cursor.chunk ≤ l.header.chunks;
      cursor : IsCursor l.cursor;
      tally : IsTally l.cursor.chunk l.tally;
      left : files.told → tally_in bytes l.header ≡ tallied bytes l.header.block (l.header.chunks - l.cursor.chunk) l.cursor l.tally;
    }

abbrev pub decreases-loop-cursor : goal.decreases-loop-cursor
decreases-loop-cursor g l = l.header.chunks - l.cursor.chunk
