-- The positions that a copier goes through, by what is recorded.
use Rattle.std.proofs.Common.{◌≡◌, ◌⊎◌, ℕ, ◌+◌, ◌<◌, ◌≤◌, List, [], ◌∷◌, length, get_or, inl, inr, sym, subst, ⊎_elim, ap, ◌∙◌, arith, length-append}
use Rattle.std.proofs.lemmas.Bool.{cases_eq, cases_lt}
use Rattle.std.proofs.lemmas.Grind.{get_or_default_zero}
use Rattle.std.proofs.lemmas.List.{get_or-set_other, get_or-set_same, take_all}
use Rattle.std.proofs.lemmas.List.Elements.{All-contains, All-nil, All-push, Contains-append_left, Contains-append_right, Contains-get_or}
use Rattle.std.proofs.lemmas.List.Quantifiers.{all_pairs_push}
use Rattle.std.specs.Prelude.{All, AllPairs, Contains, slice_index, slice_set}
use Rattle.base_fields.specs.declared.spans.Span.{Span}
use Rattle.block_map.proofs.Index.{first_rises}
use Rattle.block_map.specs.Maps.{range_span}
use Rattle.block_map.specs.Pieces.{pieces}
use Rattle.block_map.specs.Units.{first_of, joined, units_by_range}
use Rattle.block_map.specs.declared.maps.BlockMap.{BlockMap}
use Rattle.block_map.specs.declared.maps.Range.{Range}
use Rattle.journal_format.specs.declared.jobs.JobId.{JobId}
use Rattle.copy_laws.proofs.UnitBytes.{rows_length}
use Rattle.copy_laws.specs.Steps.{closed, joined_window, passed, taken}
use Rattle.copy_states.specs.Along.{IsPosition, IsPresent, Position}
use Rattle.copy_states.specs.Jobs.{IsInRange, IsJobOf}

-- ---- the numbers of first units
-- behind the last range it is the number of units
pub first_at_end : (id : JobId) (m : BlockMap) → IsJobOf id m → first_of (units_by_range m id.unit) id.ranges ≡ id.units
first_at_end id m job =
    let rows : List (List Span) = units_by_range m id.unit in
    let all : length rows ≡ id.ranges = rows_length id m ∙ sym job.ranges in
    ap (λ (l : List (List Span)). length (joined l)) (take_all id.ranges rows (omega (arith, all))) ∙ sym job.units

pub first_within : (id : JobId) (m : BlockMap) (r : ℕ) → IsJobOf id m → r ≤ id.ranges → first_of (units_by_range m id.unit) r ≤ id.units
first_within id m r job within =
    let rise : first_of (units_by_range m id.unit) r ≤ first_of (units_by_range m id.unit) id.ranges = first_rises (units_by_range m id.unit) r id.ranges within in
    omega (arith, rise, first_at_end id m job)

-- ---- the window
AllPairs-nil : AllPairs (λ (k later : ℕ). k < later) []
AllPairs-nil i j d less below = absurd (omega (arith, below))

-- ---- positions
module _ (id : JobId) (m : BlockMap) (recorded checked : ℕ → Type 0) (w : ℕ) (p : Position) where
  -- the first unit of a range
  pub at_first : IsJobOf id m → IsPresent checked id.ranges p.range → p.unit ≡ first_of (units_by_range m id.unit) p.range →
      p.window ≡ [] → 0 < w → IsPosition id m recorded checked w p
  at_first job present first none some = record {
    present = present;
    low = omega (arith, first);
    high = λ there. let rise : first_of (units_by_range m id.unit) p.range ≤ first_of (units_by_range m id.unit) (p.range + 1) = first_rises (units_by_range m id.unit) p.range (p.range + 1) (omega arith) in omega (arith, first, rise);
    end = λ last. first ∙ ap (λ (r : ℕ). first_of (units_by_range m id.unit) r) last ∙ first_at_end id m job;
    passed = λ k mine less. absurd (omega (arith, mine.from, first));
    ascends = subst (λ (ks : List ℕ). AllPairs (λ k later. k < later) ks) (sym none) AllPairs-nil;
    few = omega (arith, ap (λ (ks : List ℕ). length ks) none);
    window = subst (λ (ks : List ℕ). All (λ k. IsInRange id m k p.range × (k < p.unit) × (¬ recorded k)) ks) (sym none) (All-nil _);
    more = λ filled. absurd (omega (arith, ap (λ (ks : List ℕ). length ks) none));
  }

  module _ (at : IsPosition id m recorded checked w p) (there : p.range < id.ranges) where
    -- a number below the present one is one of the window's, or is recorded
    is_open : (k : ℕ) → Contains p.window k → IsInRange id m k p.range × (k < p.unit) × (¬ recorded k)
    is_open k among = All-contains (λ x. IsInRange id m x p.range × (x < p.unit) × (¬ recorded x)) p.window k at.window among

    -- the window with the present unit ascends
    pub joined_ascends : AllPairs (λ k later. k < later) (joined_window p)
    joined_ascends = all_pairs_push (λ k later. k < later) p.window p.unit at.ascends (λ k d below. (is_open (get_or p.window k d) (Contains-get_or p.window k d below)).1)

    module _ (mine : IsInRange id m p.unit p.range) where
      -- its numbers are of the range
      pub joined_open : (¬ recorded p.unit) → All (λ k. IsInRange id m k p.range × (k < p.unit + 1) × (¬ recorded k)) (joined_window p)
      joined_open unrecorded =
          let wider : All (λ k. IsInRange id m k p.range × (k < p.unit + 1) × (¬ recorded k)) p.window = λ i d below. let it = is_open (get_or p.window i d) (Contains-get_or p.window i d below) in (it.0, omega (arith, it.1), it.2) in
          All-push (λ k. IsInRange id m k p.range × (k < p.unit + 1) × (¬ recorded k)) p.window p.unit wider (mine, omega arith, unrecorded)

      -- the unit joins the window
      pub taken_position : (¬ recorded p.unit) → length p.window + 1 < w →
          (k : ℕ) → IsInRange id m k p.range → p.unit + 1 ≤ k → (¬ recorded k) →
          IsPosition id m recorded checked w (taken p)
      taken_position unrecorded room next next_mine behind next_unrecorded = record {
        present = at.present;
        low = omega (arith, at.low);
        high = λ below. omega (arith, mine.to);
        end = λ last. absurd (omega (arith, last, there));
        passed = λ k its less. elim (cases_eq p.unit k) [
          | inl same ↦ inr (Contains-append_right p.window (p.unit ∷ []) k (0, omega arith, same))
          | inr other ↦ ⊎_elim (λ is. inl is) (λ among. inr (Contains-append_left p.window (p.unit ∷ []) k among)) (at.passed k its (omega (arith, other)))
        ];
        ascends = joined_ascends;
        few = omega (arith, length-append p.window (p.unit ∷ []));
        window = joined_open unrecorded;
        more = λ filled. (next, next_mine, behind, next_unrecorded);
      }

      -- it is recorded
      pub kept_position : recorded p.unit → IsPosition id m recorded checked w (passed p)
      kept_position is = record {
        present = at.present;
        low = omega (arith, at.low);
        high = λ below. omega (arith, mine.to);
        end = λ last. absurd (omega (arith, last, there));
        passed = λ k its less. elim (cases_eq p.unit k) [
          | inl same ↦ inl (subst recorded same is)
          | inr other ↦ at.passed k its (omega (arith, other))
        ];
        ascends = at.ascends;
        few = at.few;
        window = λ i d below. let it = is_open (get_or p.window i d) (Contains-get_or p.window i d below) in (it.0, omega (arith, it.1), it.2);
        more = λ filled. let it = at.more filled in elim (cases_eq p.unit it.0) [
          | inl same ↦ absurd (it.3 (subst recorded same is))
          | inr other ↦ (it.0, it.1, omega (arith, it.2, other), it.3)
        ];
      }

      -- the window is recorded with it
      pub closed_position : (now : ℕ → Type 0) → ((k : ℕ) → recorded k → now k) → ((k : ℕ) → Contains (joined_window p) k → now k) →
          IsPosition id m now checked w (closed p)
      closed_position now still marked = record {
        present = at.present;
        low = omega (arith, at.low);
        high = λ below. omega (arith, mine.to);
        end = λ last. absurd (omega (arith, last, there));
        passed = λ k its less. elim (cases_eq p.unit k) [
          | inl same ↦ inl (marked k (Contains-append_right p.window (p.unit ∷ []) k (0, omega arith, same)))
          | inr other ↦ ⊎_elim (λ is. inl (still k is)) (λ among. inl (marked k (Contains-append_left p.window (p.unit ∷ []) k among))) (at.passed k its (omega (arith, other)))
        ];
        ascends = AllPairs-nil;
        few = omega (arith, at.few);
        window = All-nil _;
        more = λ filled. absurd (omega (arith, filled));
      }

    -- behind a range's last unit the window is empty, and each unit is recorded
    pub none_at_end : p.unit ≡ first_of (units_by_range m id.unit) (p.range + 1) → length p.window ≡ 0
    none_at_end end = elim (cases_eq (length p.window) 0) [
      | inl none ↦ none
      | inr some ↦ let it = at.more (omega (arith, some)) in absurd (omega (arith, it.1.to, it.2, end))
    ]

    pub all_at_end : p.unit ≡ first_of (units_by_range m id.unit) (p.range + 1) → (k : ℕ) → IsInRange id m k p.range → recorded k
    all_at_end end k its = ⊎_elim (λ is. is) (λ among. absurd (omega (arith, among.1, none_at_end end))) (at.passed k its (omega (arith, its.to, end)))

-- ---- other words for the same
pub position_so : (id : JobId) (m : BlockMap) (recorded checked now_recorded now_checked : ℕ → Type 0) (w : ℕ) (p : Position) →
    IsJobOf id m →
    ((k : ℕ) → k < id.units → (recorded k → now_recorded k) × (now_recorded k → recorded k)) →
    ((r : ℕ) → r < id.ranges → (checked r → now_checked r) × (now_checked r → checked r)) →
    IsPosition id m recorded checked w p → IsPosition id m now_recorded now_checked w p
position_so id m recorded checked now_recorded now_checked w p job units ranges at =
    let below : (k r : ℕ) → IsInRange id m k r → k < id.units = λ k r mine.
    let rise : first_of (units_by_range m id.unit) (r + 1) ≤ first_of (units_by_range m id.unit) id.ranges = first_rises (units_by_range m id.unit) (r + 1) id.ranges (omega (arith, mine.there, rows_length id m, job.ranges)) in
    omega (arith, rise, first_at_end id m job, mine.to) in
    record {
      present = record {
        within = at.present.within;
        before = λ earlier less. (ranges earlier (omega (arith, at.present.within))).0 (at.present.before earlier less);
        unchecked = λ there is. at.present.unchecked there ((ranges p.range there).1 is);
      };
      low = at.low;
      high = at.high;
      end = at.end;
      passed = λ k mine less. ⊎_elim (λ is. inl ((units k (below k p.range mine)).0 is)) (λ among. inr among) (at.passed k mine less);
      ascends = at.ascends;
      few = at.few;
      window = λ i d less.
          let it = All-contains (λ x. IsInRange id m x p.range × (x < p.unit) × (¬ recorded x)) p.window (get_or p.window i d) at.window (Contains-get_or p.window i d less) in
          (it.0, it.1, λ is. it.2 ((units (get_or p.window i d) (below (get_or p.window i d) p.range it.0)).1 is));
      more = λ filled. let it = at.more filled in (it.0, it.1, it.2, λ is. it.3 ((units it.0 (below it.0 p.range it.1)).1 is));
    }

-- ---- a mark that is set
pub marked_set : (units : List ℕ) (k x : ℕ) → k < length units → (x ≡ k) ⊎ (slice_index units x ≡ 0x44) → slice_index (slice_set units k 0x44) x ≡ 0x44
marked_set units k x room there = elim (cases_eq x k) [
  | inl same ↦ subst (λ (n : ℕ). slice_index (slice_set units k 0x44) n ≡ 0x44) (sym same) (get_or-set_same units k 0x44 0 room)
  | inr other ↦ ⊎_elim (λ same. absurd (other same)) (λ is. get_or-set_other units k x 0x44 0 other ∙ is) there
]
