-- What writes of marks keep, what stands of itself, and what stands at the end.
use Rattle.std.proofs.Common.{◌≡◌, ◌⊎◌, ℕ, ◌+◌, ◌-◌, ◌<◌, ◌≤◌, List, [], length, get_or, inl, inr, refl, true, sym, ap, subst, arith}
use Rattle.std.proofs.lemmas.Bool.{cases_eq, cases_lt}
use Rattle.std.proofs.lemmas.List.{take_all}
use Rattle.std.proofs.lemmas.Option.{slice_get_within}
use Rattle.std.specs.Prelude.{Option, None, Some, IfSome, IsTrue, Contains, slice_get, slice_index}
use Rattle.base_fields.specs.declared.spans.Span.{Span}
use Rattle.span_cover.specs.Cover.{has}
use Rattle.span_cover.proofs.Spans.{in_has}
use Rattle.block_map.specs.Maps.{is_mapped}
use Rattle.block_map.specs.Units.{first_of, joined, units_by_range, units_of}
use Rattle.block_map.specs.declared.maps.BlockMap.{BlockMap}
use Rattle.block_map.proofs.Index.{first_next, first_rises, one_range}
use Rattle.block_map.proofs.Numbering.{mapped_found}
use Rattle.journal_format.specs.Journals.{IsOpenedFor, range_mark, unit_mark}
use Rattle.journal_format.specs.declared.jobs.JobId.{JobId}
use Rattle.copy_states.specs.Jobs.{AreRecorded, HasFrom, IsChecked, IsInRange, IsJobOf, IsRecorded, IsUnitAt}
use Rattle.copy_states.specs.Standing.{IsByteOf, RecordedAreCopied}
use Rattle.copy_laws.specs.Marks.{CheckingKeepsStanding, ClearingKeepsStanding, DoneIsCopied, FirstStart, ForeignStands, MarksTorn, NewStands, RangeMarkTorn, RecordingKeepsStanding, RowTorn, UnheldStands}
use Rattle.copy_laws.proofs.Bytes.{byte_of_part}
use Rattle.copy_laws.proofs.Marks.{MarkChange, bytes_kept, contains_or_not, digests_kept, mark_of, marks_kept}
use Rattle.copy_laws.proofs.UnitBytes.{in_range_below, range_below, range_found, rows_length, some_unit, unit_below}

-- ---- the events as changes of marks
pub recording_changes : (id : JobId) (ks j new : List ℕ) → MarksTorn ks j new → ((k : ℕ) → Contains ks k → k < id.units) → MarkChange id (λ k. Contains ks k) (λ r. ⊥) j new
recording_changes id ks j new torn below = record {
  size = torn.size;
  head = λ k h. torn.same k (λ c. let it = mark_of ks k c in absurd (omega (arith, it.2)));
  unit = λ k h out. torn.same (unit_mark k) (λ c. let it = mark_of ks (unit_mark k) c in let same : it.0 ≡ k = omega (arith, it.2) in out (subst (λ (n : ℕ). Contains ks n) same it.1));
  range = λ r h out. torn.same (range_mark id r) (λ c. let it = mark_of ks (range_mark id r) c in let low : it.0 < id.units = below it.0 it.1 in absurd (omega (arith, it.2)));
}

pub checking_changes : (id : JobId) (r : ℕ) (j new : List ℕ) → RangeMarkTorn id r j new → MarkChange id (λ k. ⊥) (λ x. x ≡ r) j new
checking_changes id r j new torn = record {
  size = torn.size;
  head = λ k h. torn.below k (omega arith);
  unit = λ k h out. torn.below (unit_mark k) (omega arith);
  range = λ x h out. elim (cases_lt x r) [
    | inl less ↦ torn.below (range_mark id x) (omega arith)
    | inr more ↦ torn.above (range_mark id x) (omega (arith, out))
  ];
}

-- the units of a range are those from its first to the next range's
in_row : (id : JobId) (m : BlockMap) (k r : ℕ) → r < length (units_by_range m id.unit) → first_of (units_by_range m id.unit) r ≤ k → k < first_of (units_by_range m id.unit) r + length (get_or (units_by_range m id.unit) r []) → IsInRange id m k r
in_row id m k r there low high = record { there = there; from = low; to = omega (arith, first_next (units_by_range m id.unit) r [] there) }

row_below : (id : JobId) (m : BlockMap) (r : ℕ) → IsJobOf id m → r < length (units_by_range m id.unit) → first_of (units_by_range m id.unit) r + length (get_or (units_by_range m id.unit) r []) ≤ id.units
row_below id m r job there =
    let rows : List (List Span) = units_by_range m id.unit in
    let n : ℕ = length (get_or rows r []) in
    elim (cases_lt 0 n) [
      | inl some ↦
          let last : first_of rows r + n - 1 < id.units = in_range_below id m (first_of rows r + n - 1) r job (in_row id m (first_of rows r + n - 1) r there (omega arith) (omega arith)) in
          omega arith
      | inr none ↦ let rise : first_of rows r ≤ first_of rows (length rows) = first_rises rows r (length rows) (omega arith) in
          let end : first_of rows (length rows) ≡ length (joined rows) = ap (λ (l : List (List Span)). length (joined l)) (take_all (length rows) rows (omega arith)) in
          omega (arith, job.units)
    ]

pub clearing_changes : (id : JobId) (m : BlockMap) (r : ℕ) (j new : List ℕ) → IsJobOf id m → RowTorn id m r j new → r < id.ranges → MarkChange id (λ k. IsInRange id m k r) (λ x. ⊥) j new
clearing_changes id m r j new job torn below =
    let rows : List (List Span) = units_by_range m id.unit in
    let there : r < length rows = omega (arith, job.ranges, rows_length id m) in
    record {
      size = torn.size;
      head = λ k h. torn.below k (omega arith);
      unit = λ k h out. elim (cases_lt k (first_of rows r)) [
        | inl less ↦ torn.below (unit_mark k) (omega arith)
        | inr low ↦ elim (cases_lt k (first_of rows r + length (get_or rows r []))) [
          | inl high ↦ absurd (out (in_row id m k r there low high))
          | inr more ↦ torn.above (unit_mark k) (omega arith)
        ]
      ];
      range = λ x h out. torn.above (range_mark id x) (let most = row_below id m r job there in omega (arith, most));
    }

-- whether a unit is in a range
pub in_range_or_not : (id : JobId) (m : BlockMap) (r k : ℕ) → r < length (units_by_range m id.unit) → IsInRange id m k r ⊎ ¬ IsInRange id m k r
in_range_or_not id m r k there =
    let rows : List (List Span) = units_by_range m id.unit in
    elim (cases_lt k (first_of rows r)) [
      | inl less ↦ inr (λ mine. absurd (omega (arith, mine.from)))
      | inr low ↦ elim (cases_lt k (first_of rows (r + 1))) [
        | inl high ↦ inl (record { there = there; from = low; to = high })
        | inr more ↦ inr (λ mine. absurd (omega (arith, mine.to)))
      ]
    ]

pub none_of : (r : ℕ) → ⊥ ⊎ ¬ ⊥
none_of r = inr (λ never. never)

pub no_units_of : (source : Option (List ℕ)) (P : List ℕ → ℕ → Span → Type 0) → IfSome source (λ s. (k : ℕ) (u : Span) → ⊥ → P s k u)
no_units_of None P = tt
no_units_of (Some s) P = λ k u never. absurd never

-- ---- what they keep
pub recording_keeps_standing : RecordingKeepsStanding
recording_keeps_standing id m source ks t j new job torn below unchecked copied standing =
    let change : MarkChange id (λ k. Contains ks k) (λ r. ⊥) j new = recording_changes id ks j new torn below in
    record {
      digests = digests_kept id m (λ k. Contains ks k) (λ r. ⊥) t j new job change none_of (λ r range never is. absurd never) standing.digests;
      bytes = bytes_kept id m source (λ k. Contains ks k) (λ r. ⊥) t j new job change (contains_or_not ks) copied standing.bytes;
      marks = marks_kept id m (λ k. Contains ks k) (λ r. ⊥) j new job change none_of (λ r never. absurd never) unchecked (λ k r among mine never. never) standing.marks;
    }

pub checking_keeps_standing : CheckingKeepsStanding
checking_keeps_standing id m source r t j new job torn below right recorded standing =
    let change : MarkChange id (λ k. ⊥) (λ x. x ≡ r) j new = checking_changes id r j new torn in
    record {
      digests = digests_kept id m (λ k. ⊥) (λ x. x ≡ r) t j new job change (λ x. cases_eq x r) (λ x range one is. right range (subst (λ (n : ℕ). slice_get m.ranges n ≡ Some range) one is)) standing.digests;
      bytes = bytes_kept id m source (λ k. ⊥) (λ x. x ≡ r) t j new job change none_of (no_units_of source (λ s k u. IsUnitAt id m k u → HasFrom u s t)) standing.bytes;
      marks = marks_kept id m (λ k. ⊥) (λ x. x ≡ r) j new job change (λ x. cases_eq x r) (λ x one. subst (λ (n : ℕ). AreRecorded id m n j) (sym one) recorded) (λ k never. absurd never) (λ k x never mine. absurd never) standing.marks;
    }

all_copied : (id : JobId) (m : BlockMap) (source : Option (List ℕ)) (r : ℕ) (t j : List ℕ) → AreRecorded id m r j → RecordedAreCopied id m source t j → IfSome source (λ s. (k : ℕ) (u : Span) → IsInRange id m k r → IsUnitAt id m k u → HasFrom u s t)
all_copied id m None r t j recorded bytes = bytes
all_copied id m (Some s) r t j recorded bytes = λ k u mine is. bytes k u is (recorded k mine)

pub clearing_keeps_standing : ClearingKeepsStanding
clearing_keeps_standing id m source r t j new job torn below recorded unchecked standing =
    let change : MarkChange id (λ k. IsInRange id m k r) (λ x. ⊥) j new = clearing_changes id m r j new job torn below in
    let there : r < length (units_by_range m id.unit) = omega (arith, job.ranges, rows_length id m) in
    record {
      digests = digests_kept id m (λ k. IsInRange id m k r) (λ x. ⊥) t j new job change none_of (λ x range never is. absurd never) standing.digests;
      bytes = bytes_kept id m source (λ k. IsInRange id m k r) (λ x. ⊥) t j new job change (λ k. in_range_or_not id m r k there) (all_copied id m source r t j recorded standing.bytes) standing.bytes;
      marks = marks_kept id m (λ k. IsInRange id m k r) (λ x. ⊥) j new job change none_of (λ x never. absurd never)
          (λ k among x mine checked. unchecked (subst (λ (n : ℕ). IsChecked id n j) (one_range (units_by_range m id.unit) k x r mine among) checked))
          (λ k x among mine never. never) standing.marks;
    }

-- ---- what stands of itself
nothing_copied : (id : JobId) (m : BlockMap) (source : Option (List ℕ)) (t j : List ℕ) → ((k : ℕ) → k < id.units → ¬ IsRecorded id k j) → IsJobOf id m → RecordedAreCopied id m source t j
nothing_copied id m None t j never job = tt
nothing_copied id m (Some s) t j never job = λ k u is recorded. absurd (never k (unit_below id m k u job is) recorded)

nothing_opened : (id : JobId) (m : BlockMap) (source : Option (List ℕ)) (t j : List ℕ) → (¬ IsOpenedFor id j) → RecordedAreCopied id m source t j
nothing_opened id m None t j never = tt
nothing_opened id m (Some s) t j never = λ k u is recorded. absurd (never recorded.opened)

pub foreign_stands : ForeignStands
foreign_stands id m source t j never = record {
  digests = λ r range is checked. absurd (never checked.opened);
  bytes = nothing_opened id m source t j never;
  marks = λ r checked. absurd (never checked.opened);
}

pub unheld_stands : UnheldStands
unheld_stands id m source t j never = foreign_stands id m source t j (λ opened. never opened.held)

pub new_stands : NewStands
new_stands id m source t j job none = record {
  digests = λ r range is checked. absurd (none (id.units + r) (omega (arith, job.ranges, slice_get_within m.ranges r range is)) (subst (λ (n : ℕ). slice_index j n ≡ 0x44) (omega arith) checked.mark));
  bytes = nothing_copied id m source t j (λ k below recorded. none k (omega arith) recorded.mark) job;
  marks = λ r checked k mine. absurd (none (id.units + r) (omega (arith, range_below id m k r job mine)) (subst (λ (n : ℕ). slice_index j n ≡ 0x44) (omega arith) checked.mark));
}

pub first_start : FirstStart
first_start id m source t j never = record {
  standing = unheld_stands id m source t j never;
  rest = record { size = refl; bytes = λ o off. refl };
}

-- ---- done
mapped_copied : (id : JobId) (m : BlockMap) (source : Option (List ℕ)) (t j : List ℕ) → IsJobOf id m → ((k r : ℕ) → IsInRange id m k r → IsRecorded id k j) → RecordedAreCopied id m source t j → IfSome source (λ s. (o : ℕ) → IsTrue (is_mapped m o) → IsByteOf s t o)
mapped_copied id m None t j job all bytes = tt
mapped_copied id m (Some s) t j job all bytes = λ o mapped.
    let found : (k : ℕ) × (u : Span) × (slice_get (units_of m id.unit) k ≡ Some u) × (has u o ≡ true) = mapped_found m id.unit o job.map (some_unit id m job) mapped in
    let k : ℕ = found.0 in
    let u : Span = found.1 in
    let place : (r : ℕ) × IsInRange id m k r = range_found id m k u found.2 in
    let from : HasFrom u s t = bytes k u found.2 (all k place.0 place.1) in
    let inside : (u.at ≤ o) × (o < u.at + u.len) = in_has u o found.3 in
    record { there = omega (arith, from.there, inside.1); same = byte_of_part u s t o inside.0 inside.1 from.there from.same }

pub done_is_copied : DoneIsCopied
done_is_copied id m source before t j job checked since = record {
  checked = checked;
  digests = λ r range is. since.standing.digests r range is (checked r (omega (arith, job.ranges, slice_get_within m.ranges r range is)));
  bytes = mapped_copied id m source t j job (λ k r mine. since.standing.marks r (checked r (range_below id m k r job mine)) k mine) since.standing.bytes;
}
