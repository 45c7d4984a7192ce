-- A journal beside another that differs in some marks alone.
use Rattle.std.proofs.Common.{◌≡◌, ◌⊎◌, ℕ, ◌<◌, List, [], ◌∷◌, length, get_or, zero, suc, inl, inr, sym, ◌∙◌, arith}
use Rattle.std.proofs.lemmas.Bool.{cases_eq}
use Rattle.std.proofs.lemmas.Grind.{get_or_default_zero}
use Rattle.std.proofs.lemmas.List.{get_or-map, length-map}
use Rattle.std.proofs.lemmas.Option.{slice_get_within}
use Rattle.std.specs.Prelude.{Option, None, Some, IfSome, Contains, map, slice_index}
use Rattle.base_fields.specs.declared.spans.Span.{Span}
use Rattle.block_map.specs.declared.maps.BlockMap.{BlockMap}
use Rattle.block_map.specs.declared.maps.Range.{Range}
use Rattle.journal_format.specs.Journals.{IsOpenedFor, range_mark, unit_mark}
use Rattle.journal_format.specs.declared.jobs.JobId.{JobId}
use Rattle.journal_format.proofs.JournalLemmas.{SameBelow, same_opened}
use Rattle.copy_states.specs.Jobs.{AreRecorded, HasFrom, IsChecked, IsInRange, IsJobOf, IsRangeAt, IsRecorded, IsUnchecked, IsUnitAt}
use Rattle.copy_states.specs.Standing.{CheckedAreRecorded, CheckedAreRight, HasItsDigest, RecordedAreCopied}
use Rattle.copy_laws.proofs.UnitBytes.{in_range_below, range_below, unit_below}

-- ---- members of a list
pub contains_or_not : (ks : List ℕ) (k : ℕ) → Contains ks k ⊎ ¬ Contains ks k
contains_or_not [] k = inr (λ c. absurd (omega (arith, c.1)))
contains_or_not (y ∷ ks) k = elim (cases_eq y k) [
  | inl same ↦ inl (0, omega arith, same)
  | inr other ↦ elim (contains_or_not ks k) [
    | inl there ↦ inl (suc there.0, omega (arith, there.1), there.2)
    | inr out ↦ inr (λ c. not_in y ks k other out c.0 c.1 c.2)
  ]
]
  where
    not_in : (y : ℕ) (ks : List ℕ) (k : ℕ) → (y ≡ k → ⊥) → (¬ Contains ks k) → (i : ℕ) → i < length (y ∷ ks) → get_or (y ∷ ks) i k ≡ k → ⊥
    not_in y ks k other out zero below is = other is
    not_in y ks k other out (suc i) below is = out (i, omega arith, is)

-- the place of one of the marks of units is that of a unit among them
pub mark_of : (ks : List ℕ) (place : ℕ) → Contains (map unit_mark ks) place → (k : ℕ) × Contains ks k × (unit_mark k ≡ place)
mark_of ks place c =
    let i : ℕ = c.0 in
    let below : i < length ks = omega (arith, c.1, length-map ks unit_mark) in
    (get_or ks i 0, (i, below, get_or_default_zero ks i (get_or ks i 0) below), sym (get_or-map unit_mark ks i 0 place below) ∙ c.2)

-- ---- a change of marks
-- the journal has the same length, the same bytes in front of the marks, and the same marks but for these of units and
-- of ranges
pub record MarkChange (id : JobId) (units ranges : ℕ → Type 0) (j new : List ℕ) : Type 0 where
  pub size : length new ≡ length j
  pub head : SameBelow 80 j new
  pub unit : (k : ℕ) → k < id.units → ¬ units k → slice_index new (unit_mark k) ≡ slice_index j (unit_mark k)
  pub range : (r : ℕ) → r < id.ranges → ¬ ranges r → slice_index new (range_mark id r) ≡ slice_index j (range_mark id r)

module _ (id : JobId) (units ranges : ℕ → Type 0) (j new : List ℕ) (change : MarkChange id units ranges j new) where
  pub opened_before : IsOpenedFor id new → IsOpenedFor id j
  opened_before opened = same_opened id new j (sym change.size) (λ k h. sym (change.head k h)) opened

  pub opened_after : IsOpenedFor id j → IsOpenedFor id new
  opened_after opened = same_opened id j new change.size change.head opened

  pub recorded_before : (k : ℕ) → k < id.units → ¬ units k → IsRecorded id k new → IsRecorded id k j
  recorded_before k below out recorded = record { opened = opened_before recorded.opened; mark = sym (change.unit k below out) ∙ recorded.mark }

  pub recorded_after : (k : ℕ) → k < id.units → ¬ units k → IsRecorded id k j → IsRecorded id k new
  recorded_after k below out recorded = record { opened = opened_after recorded.opened; mark = change.unit k below out ∙ recorded.mark }

  pub checked_before : (r : ℕ) → r < id.ranges → ¬ ranges r → IsChecked id r new → IsChecked id r j
  checked_before r below out checked = record { opened = opened_before checked.opened; mark = sym (change.range r below out) ∙ checked.mark }

  pub checked_after : (r : ℕ) → r < id.ranges → ¬ ranges r → IsChecked id r j → IsChecked id r new
  checked_after r below out checked = record { opened = opened_after checked.opened; mark = change.range r below out ∙ checked.mark }

-- ---- what it keeps, part by part
pub digests_kept : (id : JobId) (m : BlockMap) (units ranges : ℕ → Type 0) (t j new : List ℕ) → IsJobOf id m → MarkChange id units ranges j new → ((r : ℕ) → ranges r ⊎ ¬ ranges r) → ((r : ℕ) (range : Range) → ranges r → IsRangeAt m r range → HasItsDigest m t range) → CheckedAreRight id m t j → CheckedAreRight id m t new
digests_kept id m units ranges t j new job change is_one fine right r range is checked =
    elim (is_one r) [
      | inl one ↦ fine r range one is
      | inr out ↦ right r range is (checked_before id units ranges j new change r (omega (arith, job.ranges, slice_get_within m.ranges r range is)) out checked)
    ]

pub bytes_kept : (id : JobId) (m : BlockMap) (source : Option (List ℕ)) (units ranges : ℕ → Type 0) (t j new : List ℕ) → IsJobOf id m → MarkChange id units ranges j new → ((k : ℕ) → units k ⊎ ¬ units k) → IfSome source (λ s. (k : ℕ) (u : Span) → units k → IsUnitAt id m k u → HasFrom u s t) → RecordedAreCopied id m source t j → RecordedAreCopied id m source t new
bytes_kept id m None units ranges t j new job change is_one fine bytes = bytes
bytes_kept id m (Some s) units ranges t j new job change is_one fine bytes =
    λ k u is recorded. elim (is_one k) [
      | inl one ↦ fine k u one is
      | inr out ↦ bytes k u is (recorded_before id units ranges j new change k (unit_below id m k u job is) out recorded)
    ]

pub marks_kept : (id : JobId) (m : BlockMap) (units ranges : ℕ → Type 0) (j new : List ℕ) → IsJobOf id m → MarkChange id units ranges j new → ((r : ℕ) → ranges r ⊎ ¬ ranges r) → ((r : ℕ) → ranges r → AreRecorded id m r j) → ((k : ℕ) → units k → IsUnchecked id m k j) → ((k r : ℕ) → units k → IsInRange id m k r → ¬ ranges r) → CheckedAreRecorded id m j → CheckedAreRecorded id m new
marks_kept id m units ranges j new job change is_one all unchecked other marks r checked k mine =
    let below : k < id.units = in_range_below id m k r job mine in
    elim (is_one r) [
      | inl one ↦ recorded_after id units ranges j new change k below (λ among. other k r among mine one) (all r one k mine)
      | inr out ↦
          let before : IsChecked id r j = checked_before id units ranges j new change r (range_below id m k r job mine) out checked in
          recorded_after id units ranges j new change k below (λ among. unchecked k among r mine before) (marks r before k mine)
    ]
