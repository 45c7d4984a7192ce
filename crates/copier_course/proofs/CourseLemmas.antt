-- The courses of a copier, by the units of its job.
use Rattle.std.proofs.Common.{◌≡◌, ◌⊎◌, ℕ, ◌+◌, ◌<◌, ◌≤◌, List, [], ◌∷◌, length, inl, inr, refl, sym, ap, ◌∙◌, arith}
use Rattle.std.proofs.lemmas.Bool.{cases_eq, cases_lt}
use Rattle.std.specs.Prelude.{slice_index, slice_set}
use Rattle.block_map.specs.Units.{Cut, first_of}
use Rattle.journal_format.specs.Journals.{IsMarked, IsWindow}
use Rattle.copy_states.specs.Along.{IsPresent}
use Rattle.copier_course.proofs.Positions.{at_first, first_within, marked_set, none_at_end}
use Rattle.copier_course.specs.Courses.{IsBehind, IsCopyJob, IsCourse, first_in, position_of}
use Rattle.copier_course.specs.declared.courses.Course.{Course}
use Rattle.copier_course.specs.declared.jobs.CopyJob.{CopyJob}

-- the number behind a range's last unit
pub end_within : (job : CopyJob) (r first count : ℕ) → IsCopyJob job → r < job.id.ranges → first ≡ first_of job.units.rows r →
    first_of job.units.rows (r + 1) ≡ first_of job.units.rows r + count → first + count ≤ job.id.units
end_within job r first count is there from next =
    let same : first_of job.units.rows (r + 1) ≡ first_in job (r + 1) = ap (λ (x : Cut). first_of x.rows (r + 1)) is.cut in
    let within : first_in job (r + 1) ≤ job.id.units = first_within job.id job.map (r + 1) is.of_map (omega (arith, there)) in
    omega (arith, same, within, from, next)

-- the first range that isn't checked
pub present_from : (marks : List ℕ) (n r : ℕ) → r ≤ n → ((k : ℕ) → k < r → IsMarked marks k) → (r < n → ¬ IsMarked marks r) →
    IsPresent (IsMarked marks) n r
present_from marks n r within all found = record { within = within; before = all; unchecked = found }

-- a course at the first unit of the first range that isn't checked
pub course_at_first : (job : CopyJob) (c : Course) → IsCopyJob job → length c.units ≡ job.id.units → length c.ranges ≡ job.id.ranges →
    IsWindow c.window → IsPresent (IsMarked c.ranges) job.id.ranges c.range → c.unit ≡ first_in job c.range → c.pending ≡ [] → IsCourse job c
course_at_first job c is units ranges window present unit none = record {
  units = units;
  ranges = ranges;
  window = window;
  position = at_first job.id job.map (IsMarked c.units) (IsMarked c.ranges) c.window (position_of c) is.of_map present unit none window.0;
}

-- a range is recorded, and those behind it up to the next one that isn't are
pub present_after : (old new : List ℕ) (n r next : ℕ) → length old ≡ n → r < n → ((k : ℕ) → k < r → IsMarked old k) →
    r + 1 ≤ next → next ≤ n → ((k : ℕ) → r + 1 ≤ k → k < next → IsMarked new k) → (next < n → ¬ IsMarked new next) →
    new ≡ slice_set old r 0x44 → IsPresent (IsMarked new) n next
present_after old new n r next long there before low within all found is = record {
  within = within;
  before = λ k less. elim (cases_lt r k) [
    | inl behind ↦ all k (omega (arith, behind)) less
    | inr upto ↦ ap (λ (l : List ℕ). slice_index l k) is ∙ marked_set old r k (omega (arith, there, long)) (now k upto)
  ];
  unchecked = found;
}
  where
    now : (k : ℕ) → k ≤ r → (k ≡ r) ⊎ (slice_index old k ≡ 0x44)
    now k upto = elim (cases_eq k r) [
      | inl same ↦ inl same
      | inr other ↦ inr (before k (omega (arith, upto, other)))
    ]

-- behind a range's last unit no unit is in the window
pub none_pending : (job : CopyJob) (c : Course) → IsCourse job c → IsBehind job c → c.pending ≡ []
none_pending job c course behind =
    empty c.pending (none_at_end job.id job.map (IsMarked c.units) (IsMarked c.ranges) c.window (position_of c) course.position behind.there behind.end)
  where
    empty : (ks : List ℕ) → length ks ≡ 0 → ks ≡ []
    empty [] none = refl
    empty (k ∷ ks) none = absurd (omega (arith, none))
