use Rattle.std.proofs.Common.{◌≡◌, ◌-◌, ◌≤◌, length}
use Rattle.outside.specs.Counts.{NoneFell}
use Rattle.outside.specs.Files.{IsThere, OthersStay, bytes_of}
use Rattle.sparse_chunks.specs.Progress.{IsProgress, done_after, end_after}
use Rattle.sparse_writer.specs.Answers.{IsSoFar}
use Rattle.sparse_writer.proofs.writing.put_blocks.Given as goal

-- so many blocks are written
abbrev pub invariant-loop-files : goal.invariant-loop-files
invariant-loop-files g l =
    let files = g.F.Files in
    record {
      progress : IsProgress l.block l.progress;
      within : done_after l.progress.last ≤ l.blocks;
      buffer : length l.buf ≡ length l.fn.buf;
      none_fell : NoneFell (files.counts l.fn.files) (files.counts l.files);
      others : OthersStay l.to (files.file l.fn.files) (files.file l.files);
      there : files.told → IsThere (files.file l.files) l.to (end_after l.block l.progress.last ≡ length (bytes_of (files.file l.files) l.to));
      so_far : files.told → IsSoFar l.cover l.block l.size (files.file l.fn.files l.from) l.fn.progress (bytes_of (files.file l.fn.files) l.to) →
          IsSoFar l.cover l.block l.size (files.file l.fn.files l.from) l.progress (bytes_of (files.file l.files) l.to);
    }

abbrev pub decreases-loop-files : goal.decreases-loop-files
decreases-loop-files g l = l.blocks - done_after l.progress.last
