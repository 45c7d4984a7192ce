-- What the answer of a step shows of the outcome of its run.
use Rattle.std.proofs.Common.{◌≡◌, ◌≢◌, ℕ, ◌+◌, ◌-◌, ◌<◌, ◌≤◌, List, length, drop, max, min, inl, inr, refl, subst, ap, ◌∙◌, arith, length-drop, length-take}
use Rattle.std.proofs.lemmas.Bool.{cases_eq, cases_lt}
use Rattle.std.specs.Prelude.{IfSome, None, Option, Some}
use Rattle.base_fields.specs.declared.spans.Span.{Span}
use Rattle.span_cover.proofs.Spans.{has_in, in_has}
use Rattle.bench.specs.declared.Dev.TheVariants.{Journal, Target}
use Rattle.bench.specs.Disk.{Disk}
use Rattle.block_map.specs.Maps.{digest_in, part_of}
use Rattle.block_map.specs.Units.{first_of}
use Rattle.block_map.specs.declared.maps.Range.{Range}
use Rattle.block_map.proofs.Index.{first_rises, one_range}
use Rattle.block_map.proofs.Numbering.{unit_is, units_apart}
use Rattle.journal_format.specs.Journals.{IsMarked}
use Rattle.copy_laws.proofs.UnitBytes.{in_range_below, rows_length, some_unit}
use Rattle.copy_states.specs.Along.{IsPositionOn}
use Rattle.copy_states.specs.Jobs.{IsChecked, IsInRange, IsRangeAt, IsRecorded, IsUnitAt, SameIn}
use Rattle.copy_states.specs.Outcomes.{EndsDiffering, EndsDone, EndsShort, HasNeeds, IsFirst, IsLeft, Needs, Passes}
use Rattle.copy_states.specs.Starts.{HasMixed, IsIdle, MixedGives, Pair}
use Rattle.copier_course.specs.Courses.{IsBehind, IsCopyJob, IsCourse, IsInside, position_of, rows_in}
use Rattle.copier_course.specs.declared.courses.Course.{Course}
use Rattle.copier_course.specs.declared.jobs.CopyJob.{CopyJob}
use Rattle.copier_moves.proofs.EndLemmas.{range_there}
use Rattle.copier_moves.proofs.MarkLemmas.{position_on, unit_is as mark_is}
use Rattle.copier_moves.specs.Fitting.{IsFitting}
use Rattle.copier_moves.specs.Moves.{IsAlong}
use Rattle.copier.proofs.SourceLemmas.{one_span}
use Rattle.copier.specs.Ends.{AreRight}

-- what reads as a part of an image that has it all is all there
all_there : (u : Span) (from image : List ℕ) → u.at + u.len ≤ length image → 0 < u.len → SameIn u from image → u.at + u.len ≤ length from
all_there u from image inside filled same =
    let one : length (part_of u image) ≡ min u.len (length image - u.at) = length-take u.len (drop u.at image) ∙ ap (λ (n : ℕ). min u.len n) (length-drop u.at image) in
    let other : length (part_of u from) ≡ min u.len (length from - u.at) = length-take u.len (drop u.at from) ∙ ap (λ (n : ℕ). min u.len n) (length-drop u.at from) in
    let size : length (part_of u image) ≡ length (part_of u from) = ap (λ (l : List ℕ). length l) same in
    omega (arith, one, other, size, inside, filled)

module _ (job : CopyJob) (c : Course) (is : IsCopyJob job) (course : IsCourse job c) (a : Disk) (fits : IsFitting job c a) (s : List ℕ) (start : Pair) (along : IsAlong job (Some s) start c a) where
  on_journal : IsPositionOn job.id job.map (a.reads Journal) c.window (position_of c)
  on_journal = position_on job c (a.reads Journal) is course fits.opened fits.marks

  -- a unit that isn't recorded at the start is idle where its range is left
  idle_in : (r k : ℕ) → IsLeft job.id start r → IsInRange job.id job.map k r → (¬ IsRecorded job.id k start.journal) → IsIdle job.id job.map start k
  idle_in r k left mine unrecorded = record {
    there = in_range_below job.id job.map k r is.of_map mine;
    unrecorded = unrecorded;
    unchecked = λ x other checked.
        let same : x ≡ r = one_range (rows_in job) k x r other mine in
        left.unchecked (subst (λ (n : ℕ). IsChecked job.id n start.journal) same checked);
  }

  -- ---- a range that is left, and each unit of which is passed
  module _ (r : ℕ) (left : IsLeft job.id start r) (passed : (k : ℕ) → IsInRange job.id job.map k r → k < c.unit) where
    has_needs : HasNeeds job.id job.map s start r
    has_needs o needs =
        let from = along.copied needs.number needs.span needs.idle (passed needs.number needs.mine) needs.is in
        let inside = in_has needs.span o needs.has in
        omega (arith, from.there, inside.1)

    has_mixed : HasMixed job.id job.map s start r (a.reads Target)
    has_mixed = record {
      kept = λ k u mine at recorded.
          let unit = unit_is job.map job.id.unit k u is.of_map.map (some_unit job.id job.map is.of_map) at in
          let same : SameIn u start.target (a.reads Target) = along.others k (in_range_below job.id job.map k r is.of_map mine) (λ idle. idle.unrecorded recorded) u at in
          record { there = all_there u start.target (a.reads Target) (omega (arith, fits.room, unit.end)) unit.filled same; same = same };
      written = λ k u mine at unrecorded. along.copied k u (idle_in r k left mine unrecorded) (passed k mine) at;
    }

  -- ---- the ranges before the present one
  earlier_passed : (r : ℕ) → r < c.range → (k : ℕ) → IsInRange job.id job.map k r → k < c.unit
  earlier_passed r less k mine =
      let rise : first_of (rows_in job) (r + 1) ≤ first_of (rows_in job) c.range = first_rises (rows_in job) (r + 1) c.range (omega arith) in
      omega (arith, rise, mine.to, course.position.low)

  passes_before : AreRight job a → (r : ℕ) → r < c.range → IsLeft job.id start r → Passes job.id job.map s start r
  passes_before right r less left = record {
    needs = has_needs r left (earlier_passed r less);
    digest = λ range at. by_digest range at range.digest refl;
  }
    where
      by_digest : (range : Range) → IsRangeAt job.map r range → (digest : Option (List ℕ)) → range.digest ≡ digest → IfSome digest (λ want. MixedGives job.id job.map s start r want want)
      by_digest range at None none = tt
      by_digest range at (Some want) stated = record {
        range = range;
        image = a.reads Target;
        is = at;
        stated = stated;
        mixed = has_mixed r left (earlier_passed r less);
        computed = subst (λ (d : Option (List ℕ)). IfSome d (λ digest. digest ≡ digest_in job.map (a.reads Target) range)) stated (right r range at (along.before r less left.there));
      }

  -- where each range is passed, the run is done
  pub ends_done : AreRight job a → c.range ≡ job.id.ranges → EndsDone job.id job.map s start
  ends_done right end r left = passes_before right r (omega (arith, left.there, end)) left

  -- ---- the present range
  is_left : c.range < job.id.ranges → IsLeft job.id start c.range
  is_left there = record {
    there = there;
    unchecked = λ checked. on_journal.present.unchecked there ((along.behind c.range (omega arith) there).1 checked);
  }

  is_first : AreRight job a → c.range < job.id.ranges → IsFirst job.id job.map s start c.range
  is_first right there = record { left = is_left there; before = λ r less left. passes_before right r less left }

  pub ends_differing : AreRight job a → IsBehind job c → (want got : List ℕ) → ((range : Range) → IsRangeAt job.map c.range range → range.digest ≡ Some want) →
      ((range : Range) → IsRangeAt job.map c.range range → got ≡ digest_in job.map (a.reads Target) range) → want ≢ got → EndsDiffering job.id job.map s start c.range want got
  ends_differing right behind want got stated computed differs =
      let passed : (k : ℕ) → IsInRange job.id job.map k c.range → k < c.unit = λ k mine. omega (arith, mine.to, behind.end) in
      let range = range_there job c.range (omega (arith, is.of_map.ranges, behind.there)) in
      record {
        first = is_first right behind.there;
        needs = has_needs c.range (is_left behind.there) passed;
        mixed = record {
          range = range.0;
          image = a.reads Target;
          is = range.1;
          stated = stated range.0 range.1;
          mixed = has_mixed c.range (is_left behind.there) passed;
          computed = computed range.0 range.1;
        };
        differs = differs;
      }

  -- ---- the present unit
  module _ (inside : IsInside job c) (unmarked : ¬ IsMarked c.units c.unit) (u : Span) (at_unit : IsUnitAt job.id job.map c.unit u) (filled : 0 < u.len) where
    mine : IsInRange job.id job.map c.unit c.range
    mine = record {
      there = omega (arith, rows_length job.id job.map, is.of_map.ranges, inside.there);
      from = course.position.low;
      to = inside.below;
    }

    below : c.unit < job.id.units
    below = in_range_below job.id job.map c.unit c.range is.of_map mine

    idle : IsIdle job.id job.map start c.unit
    idle = idle_in c.range c.unit (is_left inside.there) mine (λ recorded. unmarked ((mark_is job.id (a.reads Journal) c fits.opened fits.marks c.unit below).1 (along.kept c.unit below recorded)))

    -- the first of its bytes that lacks is the first that the range needs
    least_needed : (at : ℕ) → length s < u.at + u.len → at ≡ max u.at (length s) → (o : ℕ) → Needs job.id job.map start c.range o → o < at → o < length s
    least_needed at short is_at o needs less =
        let its = in_has needs.span o needs.has in
        elim (cases_lt needs.number c.unit) [
          | inl earlier ↦ let from = along.copied needs.number needs.span needs.idle earlier needs.is in omega (arith, from.there, its.1)
          | inr later ↦ elim (cases_eq needs.number c.unit) [
            | inl same ↦
                let one : needs.span ≡ u = one_span job.id job.map c.unit needs.span u (subst (λ (k : ℕ). IsUnitAt job.id job.map k needs.span) same needs.is) at_unit in
                omega (arith, ap (λ (v : Span). v.at) one, its.0, less, is_at)
            | inr other ↦
                let gap : u.at + u.len ≤ needs.span.at = units_apart job.map job.id.unit c.unit needs.number u needs.span is.of_map.map (some_unit job.id job.map is.of_map) (omega (arith, later, other)) at_unit needs.is in
                absurd (omega (arith, gap, its.0, less, is_at, short, filled))
          ]
        ]

    pub ends_short : AreRight job a → (at : ℕ) → length s < u.at + u.len → at ≡ max u.at (length s) → EndsShort job.id job.map s start at
    ends_short right at short is_at = record {
      range = c.range;
      first = is_first right inside.there;
      needed = record { number = c.unit; span = u; idle = idle; mine = mine; is = at_unit; has = has_in u at (omega (arith, is_at)) (omega (arith, is_at, short, filled)) };
      lacks = omega (arith, is_at);
      least = least_needed at short is_at;
    }
