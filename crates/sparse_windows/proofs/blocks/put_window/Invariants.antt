use Rattle.std.proofs.Common.{◌≡◌, ℕ, ◌+◌, ◌-◌, ◌*◌, ◌≤◌, List, length, take, drop}
use Rattle.base_fields.specs.declared.spans.Span.{Span}
use Rattle.outside.specs.Counts.{NoneFell}
use Rattle.outside.specs.Files.{IsThere, OthersStay, bytes_of}
use Rattle.sparse_chunks.specs.Progress.{IsProgress, IsWritten, done_after, end_after}
use Rattle.sparse_cover.specs.Stretches.{AreMet}
use Rattle.sparse_text.specs.Blocks.{padded}
use Rattle.sparse_windows.proofs.blocks.put_window.Given as goal

-- so many blocks are written
abbrev pub invariant-loop-files : goal.invariant-loop-files
invariant-loop-files g l =
    let files = g.F.Files in
    record {
      progress : IsProgress l.block l.progress;
      begins : l.first ≤ done_after l.progress.last;
      within : done_after l.progress.last ≤ l.first + l.count;
      none_fell : NoneFell (files.counts l.fn.files) (files.counts l.files);
      others : OthersStay l.to (files.file l.fn.files) (files.file l.files);
      there : files.told → IsThere (files.file l.files) l.to (end_after l.block l.progress.last ≡ length (bytes_of (files.file l.files) l.to));
      written : files.told → (image : List ℕ) (cover : List Span) → AreMet cover l.block l.first l.count →
          l.window ≡ take (l.count * l.block) (drop (l.first * l.block) (padded image l.block)) →
          IsWritten image cover l.block l.fn.progress (bytes_of (files.file l.fn.files) l.to) → IsWritten image cover l.block l.progress (bytes_of (files.file l.files) l.to);
    }

abbrev pub decreases-loop-files : goal.decreases-loop-files
decreases-loop-files g l = l.first + l.count - done_after l.progress.last
