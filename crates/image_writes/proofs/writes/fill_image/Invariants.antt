use Rattle.std.proofs.Common.{◌≡◌, ℕ, ◌-◌, ◌<◌, ◌≤◌, length}
use Rattle.outside.specs.Counts.{NoneFell}
use Rattle.outside.specs.Files.{OthersStay}
use Rattle.image_writes.specs.Images.{Serves}
use Rattle.image_writes.proofs.writes.fill_image.Given as goal

-- so many bytes are put
abbrev pub invariant-loop-done : goal.invariant-loop-done
invariant-loop-done g l =
    let files = g.F.Files in
    record {
      within : l.done ≤ l.size;
      room : l.room ≡ length l.buf;
      none_fell : NoneFell (files.counts l.fn.files) (files.counts l.files);
      others : OthersStay l.name (files.file l.fn.files) (files.file l.files);
      filled : files.told → Serves (λ (o : ℕ). l.byte) (λ (o : ℕ). o < l.done) l.name (files.file l.fn.files) (files.file l.files);
    }

abbrev pub decreases-loop-done : goal.decreases-loop-done
decreases-loop-done g l = l.size - l.done
