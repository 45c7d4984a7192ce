-- The marks that a copier keeps, and those of its journal.
use Rattle.std.proofs.Common.{◌≡◌, ℕ, ◌+◌, ◌<◌, ◌≤◌, List, [], ◌∷◌, length, get_or, take, drop, inl, inr, refl, sym, subst, ap, ⊎_elim, ◌∙◌, arith}
use Rattle.std.proofs.lemmas.Bool.{cases_eq, cases_lt}
use Rattle.std.proofs.lemmas.List.{ext_get_or, get_or-drop, get_or-set_other, get_or-set_same, get_or-take, length-drop, length-set, length-take-le}
use Rattle.std.specs.Prelude.{Contains, map, slice_index, slice_set}
use Rattle.bench.specs.Disk.{Torn}
use Rattle.bench.proofs.DiskLemmas.{torn_at_so}
use Rattle.journal_format.specs.Journals.{IsHeld, IsMarked, IsOpenedFor, IsWindow, range_mark, unit_mark, window_of}
use Rattle.journal_format.specs.declared.jobs.JobId.{JobId}
use Rattle.journal_format.proofs.JournalLemmas.{window_1, window_2}
use Rattle.copy_journal.proofs.KeptOpened.{mark_behind, torn_behind, window_kept}
use Rattle.copy_states.specs.Along.{IsPositionOn}
use Rattle.copy_states.specs.Jobs.{IsChecked, IsJobOf, IsRecorded}
use Rattle.copy_laws.proofs.Marks.{contains_or_not, mark_of}
use Rattle.copy_laws.specs.Marks.{MarksTorn}
use Rattle.copier_course.proofs.Positions.{position_so}
use Rattle.copier_course.specs.Courses.{AreMarkedIn, IsCopyJob, IsCourse, position_of}
use Rattle.copier_course.specs.declared.courses.Course.{Course}
use Rattle.copier_course.specs.declared.jobs.CopyJob.{CopyJob}
use Rattle.copier_moves.specs.Fitting.{KeepsMarks}

-- ---- mark by mark
mark_at : (at n k : ℕ) (marks j : List ℕ) → marks ≡ take n (drop at j) → k < n → slice_index marks k ≡ slice_index j (at + k)
mark_at at n k marks j is below = ap (λ (l : List ℕ). get_or l k 0) is ∙ get_or-take n (drop at j) k 0 below ∙ get_or-drop at j k 0

marks_from : (at n : ℕ) (marks j : List ℕ) → length marks ≡ n → at + n ≤ length j →
    ((k : ℕ) → k < n → slice_index marks k ≡ slice_index j (at + k)) → marks ≡ take n (drop at j)
marks_from at n marks j long inside each =
    let size : length (take n (drop at j)) ≡ n = length-take-le n (drop at j) (omega (arith, length-drop at j)) in
    ext_get_or 0 marks (take n (drop at j)) (long ∙ sym size) (λ k h.
    let below : k < n = omega (arith, h, long) in
    each k below ∙ sym (get_or-take n (drop at j) k 0 below ∙ get_or-drop at j k 0))

module _ (id : JobId) (j : List ℕ) (c : Course) (opened : IsOpenedFor id j) (keeps : KeepsMarks id j c) where
  pub unit_is : (k : ℕ) → k < id.units → (IsMarked c.units k → IsRecorded id k j) × (IsRecorded id k j → IsMarked c.units k)
  unit_is k below =
      let same : slice_index c.units k ≡ slice_index j (unit_mark k) = mark_at 80 id.units k c.units j keeps.units below in (
        λ is. record { opened = opened; mark = sym same ∙ is },
        λ is. same ∙ is.mark,
      )

  pub range_is : (r : ℕ) → r < id.ranges → (IsMarked c.ranges r → IsChecked id r j) × (IsChecked id r j → IsMarked c.ranges r)
  range_is r below =
      let same : slice_index c.ranges r ≡ slice_index j (range_mark id r) = mark_at (80 + id.units) id.ranges r c.ranges j keeps.ranges below in (
        λ is. record { opened = opened; mark = sym same ∙ is },
        λ is. same ∙ is.mark,
      )

-- the copier's position by the journal
pub position_on : (job : CopyJob) (c : Course) (j : List ℕ) → IsCopyJob job → IsCourse job c → IsOpenedFor job.id j →
    KeepsMarks job.id j c → IsPositionOn job.id job.map j c.window (position_of c)
position_on job c j is course opened keeps =
    position_so job.id job.map (IsMarked c.units) (IsMarked c.ranges) (λ k. IsRecorded job.id k j) (λ r. IsChecked job.id r j)
    c.window (position_of c) is.of_map (unit_is job.id j c opened keeps) (range_is job.id j c opened keeps) course.position

-- ---- a change of both
-- units are recorded
pub marks_recorded : (id : JobId) (j new : List ℕ) (ks : List ℕ) (c d : Course) → IsOpenedFor id new → KeepsMarks id j c →
    length c.units ≡ id.units → MarksTorn ks j new → ((k : ℕ) → Contains ks k → IsMarked new (unit_mark k)) →
    ((k : ℕ) → Contains ks k → k < id.units) →
    AreMarkedIn ks c.units d.units → d.ranges ≡ c.ranges → d.window ≡ c.window → IsHeld j → KeepsMarks id new d
marks_recorded id j new ks c d opened keeps long torn marked among_units are ranges window held = record {
  units = marks_from 80 id.units d.units new (are.size ∙ long) (omega (arith, opened.long)) (λ k below. elim (contains_or_not ks k) [
    | inl among ↦ are.marked k among ∙ sym (marked k among)
    | inr out ↦
        let kept : slice_index new (unit_mark k) ≡ slice_index j (unit_mark k) = torn.same (unit_mark k) (λ place. let it = mark_of ks (unit_mark k) place in out (subst (λ (n : ℕ). Contains ks n) (omega (arith, it.2)) it.1)) in
        are.others k out ∙ mark_at 80 id.units k c.units j keeps.units below ∙ sym kept
  ]);
  ranges = ranges ∙ keeps.ranges ∙ same_tail;
  window = window ∙ keeps.window ∙ sym (window_kept j new (torn_at_so torn (λ place mark. mark_behind ks place mark)) held);
}
  where
    same_tail : take id.ranges (drop (80 + id.units) j) ≡ take id.ranges (drop (80 + id.units) new)
    same_tail =
        let long_j : 80 + id.units + id.ranges ≤ length j = omega (arith, opened.long, torn.size) in
        marks_from (80 + id.units) id.ranges (take id.ranges (drop (80 + id.units) j)) new
        (length-take-le id.ranges (drop (80 + id.units) j) (omega (arith, length-drop (80 + id.units) j)))
        (omega (arith, opened.long))
        (λ r below.
        let kept : slice_index new (80 + id.units + r) ≡ slice_index j (80 + id.units + r) = torn.same (80 + id.units + r) (λ place. let it = mark_of ks (80 + id.units + r) place in let low : it.0 < id.units = among_units it.0 it.1 in absurd (omega (arith, it.2, low))) in
        mark_at (80 + id.units) id.ranges r (take id.ranges (drop (80 + id.units) j)) j refl below ∙ sym kept)

-- the range's mark is written
pub marks_checked : (id : JobId) (j new : List ℕ) (r : ℕ) (c d : Course) → IsOpenedFor id j → IsOpenedFor id new →
    KeepsMarks id j c → length c.ranges ≡ id.ranges → r < id.ranges → Torn (range_mark id r) 1 j new →
    IsMarked new (range_mark id r) → d.units ≡ c.units → d.ranges ≡ slice_set c.ranges r 0x44 → d.window ≡ c.window →
    KeepsMarks id new d
marks_checked id j new r c d was opened keeps long there torn marked units ranges window = record {
  units = units ∙ marks_from 80 id.units c.units new (ap (λ (l : List ℕ). length l) keeps.units ∙ length-take-le id.units (drop 80 j) (omega (arith, length-drop 80 j, was.long))) (omega (arith, opened.long)) (λ k below.
      mark_at 80 id.units k c.units j keeps.units below ∙ sym (torn.below (80 + k) (omega (arith, below))));
  ranges = ranges ∙ marks_from (80 + id.units) id.ranges (slice_set c.ranges r 0x44) new (length-set c.ranges r 0x44 ∙ long) (omega (arith, opened.long)) (λ k below. elim (cases_eq k r) [
    | inl same ↦ subst (λ (n : ℕ). slice_index (slice_set c.ranges r 0x44) n ≡ slice_index new (80 + id.units + n)) (sym same) (get_or-set_same c.ranges r 0x44 0 (omega (arith, there, long)) ∙ sym marked)
    | inr other ↦ get_or-set_other c.ranges r k 0x44 0 other ∙ mark_at (80 + id.units) id.ranges k c.ranges j keeps.ranges below ∙ sym (off_mark k other)
  ]);
  window = window ∙ keeps.window ∙ sym (window_kept j new (torn_behind (range_mark id r) 1 j new (omega arith) torn) was.held);
}
  where
    off_mark : (k : ℕ) → (k ≡ r → ⊥) → slice_index new (80 + id.units + k) ≡ slice_index j (80 + id.units + k)
    off_mark k other = elim (cases_lt k r) [
      | inl less ↦ torn.below (80 + id.units + k) (omega (arith, less))
      | inr more ↦ torn.above (80 + id.units + k) (omega (arith, more, other))
    ]

-- a held journal has a window
pub window_is : (j : List ℕ) → IsHeld j → IsWindow (window_of j)
window_is j held = ⊎_elim
    (λ one. subst IsWindow (sym (window_1 j one)) (omega arith, omega arith))
    (λ two. subst IsWindow (sym (window_2 j two.0)) two.1) held.version
