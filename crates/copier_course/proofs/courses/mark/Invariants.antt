use Rattle.std.proofs.Common.{◌≡◌, ◌≢◌, ℕ, ◌<◌, length, slice_index}
use Rattle.journal_format.specs.Journals.{IsMarked}
use Rattle.copier_course.proofs.courses.mark.Given as goal

-- so many units are marked
abbrev pub invariant-loop-k : goal.invariant-loop-k
invariant-loop-k l = record {
  size : length l.units ≡ length l.fn.units;
  marked : (i : ℕ) → i < l.k-index → IsMarked l.units (slice_index l.ks i);
  others : (x : ℕ) → ((i : ℕ) → i < l.k-index → slice_index l.ks i ≢ x) → slice_index l.units x ≡ slice_index l.fn.units x;
}
