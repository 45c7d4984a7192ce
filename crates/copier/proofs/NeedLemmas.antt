-- Where a copier stands, by what it is to do next.
use Rattle.std.proofs.Common.{◌≡◌, ℕ, ◌+◌, ◌-◌, ◌<◌, ◌≤◌, Bool, true, false, nat_eq, refl, arith, if◌then◌else◌}
use Rattle.std.proofs.lemmas.Bool.Decides.{nat_tests}
use Rattle.std.specs.Prelude.{slice_index}
use Rattle.journal_format.specs.Journals.{IsMarked}
use Rattle.copier_course.specs.Courses.{Checks, IsBehind, IsCopyJob, IsCourse, IsInside, first_in, need_of}
use Rattle.copier_course.specs.declared.courses.Course.{Course}
use Rattle.copier_course.specs.declared.jobs.CopyJob.{CopyJob}
use Rattle.copier_course.specs.declared.jobs.Need.{Need}
use Rattle.copier_course.specs.declared.jobs.Need.TheVariants as need
use Rattle.copier_moves.proofs.PutLemmas.{inside_below}

-- ---- of the tests alone
abbrev chosen : Bool → Bool → Bool → ℕ → ℕ → Need
chosen a b m r k = if a then need.Done else if b then need.Range r else if m then need.Kept k else need.Unit k

unit_chosen : (a b m : Bool) (r k j : ℕ) → chosen a b m r k ≡ need.Unit j → (a ≡ false) × (b ≡ false) × (m ≡ false) × (k ≡ j)
unit_chosen true b m r k j is = let never : ⊥ = cc in absurd never
unit_chosen false true m r k j is = let never : ⊥ = cc in absurd never
unit_chosen false false true r k j is = let never : ⊥ = cc in absurd never
unit_chosen false false false r k j is = let same : k ≡ j = cc in (refl, refl, refl, same)

kept_chosen : (a b m : Bool) (r k j : ℕ) → chosen a b m r k ≡ need.Kept j → (a ≡ false) × (b ≡ false) × (m ≡ true) × (k ≡ j)
kept_chosen true b m r k j is = let never : ⊥ = cc in absurd never
kept_chosen false true m r k j is = let never : ⊥ = cc in absurd never
kept_chosen false false true r k j is = let same : k ≡ j = cc in (refl, refl, refl, same)
kept_chosen false false false r k j is = let never : ⊥ = cc in absurd never

range_chosen : (a b m : Bool) (r k j : ℕ) → chosen a b m r k ≡ need.Range j → (a ≡ false) × (b ≡ true) × (r ≡ j)
range_chosen true b m r k j is = let never : ⊥ = cc in absurd never
range_chosen false true m r k j is = let same : r ≡ j = cc in (refl, refl, same)
range_chosen false false true r k j is = let never : ⊥ = cc in absurd never
range_chosen false false false r k j is = let never : ⊥ = cc in absurd never

done_chosen : (a b m : Bool) (r k : ℕ) → chosen a b m r k ≡ need.Done → a ≡ true
done_chosen true b m r k is = refl
done_chosen false true m r k is = let never : ⊥ = cc in absurd never
done_chosen false false true r k is = let never : ⊥ = cc in absurd never
done_chosen false false false r k is = let never : ⊥ = cc in absurd never

failed_chosen : (a b m : Bool) (r k : ℕ) → chosen a b m r k ≡ need.Failed → ⊥
failed_chosen true b m r k is = cc
failed_chosen false true m r k is = cc
failed_chosen false false true r k is = cc
failed_chosen false false false r k is = cc

same_number : (a b : ℕ) → nat_eq a b ≡ true → a ≡ b
same_number a b is = grind (arith, nat_tests)

other_number : (a b : ℕ) → nat_eq a b ≡ false → a ≡ b → ⊥
other_number a b is same = grind (arith, nat_tests)

-- ---- of a course
pub record IsUnitNext (job : CopyJob) (c : Course) (k : ℕ) : Type 0 where
  pub inside : IsInside job c
  pub unmarked : ¬ IsMarked c.units c.unit
  pub number : c.unit ≡ k

pub record IsKeptNext (job : CopyJob) (c : Course) (k : ℕ) : Type 0 where
  pub inside : IsInside job c
  pub marked : IsMarked c.units c.unit
  pub number : c.unit ≡ k

pub record IsRangeNext (job : CopyJob) (c : Course) (r : ℕ) : Type 0 where
  pub behind : IsBehind job c
  pub number : c.range ≡ r

module _ (job : CopyJob) (c : Course) (course : IsCourse job c) where
  in_a_range : nat_eq c.range job.id.ranges ≡ false → c.range < job.id.ranges
  in_a_range is =
      let within : c.range ≤ job.id.ranges = course.position.present.within in
      let other = other_number c.range job.id.ranges is in
      omega (arith, within, other)

  inside_of : nat_eq c.range job.id.ranges ≡ false → nat_eq c.unit (first_in job (c.range + 1)) ≡ false → IsInside job c
  inside_of first second =
      let there = in_a_range first in
      let high : c.unit ≤ first_in job (c.range + 1) = course.position.high there in
      let other = other_number c.unit (first_in job (c.range + 1)) second in
      record { there = there; below = omega (arith, high, other) }

  pub unit_next : (k : ℕ) → need_of job c ≡ need.Unit k → IsUnitNext job c k
  unit_next k is =
      let tests = unit_chosen (nat_eq c.range job.id.ranges) (nat_eq c.unit (first_in job (c.range + 1))) (nat_eq (slice_index c.units c.unit) 0x44) c.range c.unit k is in
      record {
        inside = inside_of tests.0 tests.1;
        unmarked = other_number (slice_index c.units c.unit) 0x44 tests.2;
        number = tests.3;
      }

  pub kept_next : (k : ℕ) → need_of job c ≡ need.Kept k → IsKeptNext job c k
  kept_next k is =
      let tests = kept_chosen (nat_eq c.range job.id.ranges) (nat_eq c.unit (first_in job (c.range + 1))) (nat_eq (slice_index c.units c.unit) 0x44) c.range c.unit k is in
      record {
        inside = inside_of tests.0 tests.1;
        marked = same_number (slice_index c.units c.unit) 0x44 tests.2;
        number = tests.3;
      }

  pub range_next : (r : ℕ) → need_of job c ≡ need.Range r → IsRangeNext job c r
  range_next r is =
      let tests = range_chosen (nat_eq c.range job.id.ranges) (nat_eq c.unit (first_in job (c.range + 1))) (nat_eq (slice_index c.units c.unit) 0x44) c.range c.unit r is in
      record {
        behind = record { there = in_a_range tests.0; end = same_number c.unit (first_in job (c.range + 1)) tests.1 };
        number = tests.2;
      }

  pub done_next : need_of job c ≡ need.Done → c.range ≡ job.id.ranges
  done_next is = same_number c.range job.id.ranges (done_chosen (nat_eq c.range job.id.ranges) (nat_eq c.unit (first_in job (c.range + 1))) (nat_eq (slice_index c.units c.unit) 0x44) c.range c.unit is)

  pub never_failed : need_of job c ≡ need.Failed → ⊥
  never_failed is = failed_chosen (nat_eq c.range job.id.ranges) (nat_eq c.unit (first_in job (c.range + 1))) (nat_eq (slice_index c.units c.unit) 0x44) c.range c.unit is

  -- ---- how much is left
  pub unit_fewer : (d : Course) → IsCopyJob job → IsInside job c → d.unit ≡ c.unit + 1 → d.range ≡ c.range →
      (job.id.units - d.unit) + (job.id.ranges - d.range) < (job.id.units - c.unit) + (job.id.ranges - c.range)
  unit_fewer d is inside unit range =
      let below : c.unit < job.id.units = inside_below job c is course inside in
      omega (arith, below, unit, range)

  pub range_fewer : (d : Course) → IsBehind job c → IsCourse job d → Checks c d → c.unit ≤ d.unit →
      (job.id.units - d.unit) + (job.id.ranges - d.range) < (job.id.units - c.unit) + (job.id.ranges - c.range)
  range_fewer d behind next checks unit =
      let there : c.range < job.id.ranges = behind.there in
      let later : c.range < d.range = checks.later in
      let within : d.range ≤ job.id.ranges = next.position.present.within in
      omega (arith, there, later, within, unit)
