-- What holds at the opening of a run, and what a write of the gate keeps.
use Rattle.std.proofs.Common.{◌≡◌, ℕ, ◌+◌, ◌<◌, ◌≤◌, List, [], length, inl, inr, refl, sym, subst, ⊎_elim, ◌∙◌, arith}
use Rattle.std.proofs.lemmas.Bool.{cases_eq, cases_lt}
use Rattle.std.proofs.lemmas.List.Elements.{All-nil}
use Rattle.std.specs.Prelude.{All, Contains, Option, None, Some, IfSome, slice_index}
use Rattle.base_fields.specs.declared.spans.Span.{Span}
use Rattle.block_map.specs.Units.{first_of, units_by_range}
use Rattle.block_map.specs.declared.maps.BlockMap.{BlockMap}
use Rattle.block_map.proofs.Index.{first_rises}
use Rattle.journal_format.specs.declared.jobs.JobId.{JobId}
use Rattle.journal_format.proofs.JournalLemmas.{same_held, same_opened}
use Rattle.copy_states.specs.Along.{Position}
use Rattle.copy_states.specs.Jobs.{HasFrom, IsInRange, IsJobOf, IsUnitAt}
use Rattle.copy_states.specs.Starts.{IsIdle, Pair}
use Rattle.copy_laws.specs.Opening.{ClosingKeepsStanding, IsAtOpening, MarksKeepOwn, NewHasSameMarks, OpeningIsAlong, SameMarks}
use Rattle.copy_laws.proofs.Events.{no_units_of, none_of, unheld_stands}
use Rattle.copy_laws.proofs.Marks.{MarkChange, bytes_kept, digests_kept, marks_kept}
use Rattle.copy_laws.proofs.UnitBytes.{number_found, range_below}

pub new_has_same_marks : NewHasSameMarks
new_has_same_marks id old new unheld none = record {
  units = λ k below. (λ recorded. absurd (none k (omega arith) recorded.mark), λ recorded. absurd (unheld recorded.opened.held));
  ranges = λ r below. (λ checked. absurd (none (id.units + r) (omega arith) (subst (λ (n : ℕ). slice_index new n ≡ 0x44) (omega arith) checked.mark)), λ checked. absurd (unheld checked.opened.held));
}

-- no idle unit stands before the first range that isn't checked
none_before : (id : JobId) (m : BlockMap) (start : Pair) (p : Position) (j : List ℕ) → IsJobOf id m → SameMarks id start.journal j → IsAtOpening id m p j → (k : ℕ) → IsIdle id m start k → k < p.unit → ⊥
none_before id m start p j job same at_start k idle less =
    let rows : List (List Span) = units_by_range m id.unit in
    let place : (r : ℕ) × IsInRange id m k r = number_found id m k job idle.there in
    let r : ℕ = place.0 in
    let below : r < id.ranges = range_below id m k r job place.1 in
    elim (cases_lt r p.range) [
      | inl earlier ↦ idle.unchecked r place.1 ((same.ranges r below).0 (at_start.present.before r earlier))
      | inr later ↦ let rise : first_of rows p.range ≤ first_of rows r = first_rises rows p.range r later in omega (arith, place.1.from, at_start.unit)
    ]

none_copied : (id : JobId) (m : BlockMap) (source : Option (List ℕ)) (start : Pair) (n : ℕ) (t : List ℕ) → ((k : ℕ) → IsIdle id m start k → k < n → ⊥) → IfSome source (λ s. (k : ℕ) (u : Span) → IsIdle id m start k → k < n → IsUnitAt id m k u → HasFrom u s t)
none_copied id m None start n t none = tt
none_copied id m (Some s) start n t none = λ k u idle less is. absurd (none k idle less)

pub opening_is_along : OpeningIsAlong
opening_is_along id m source start w p j job some same at_start =
    let none : (k : ℕ) → IsIdle id m start k → k < p.unit → ⊥ = none_before id m start p j job same at_start in
    let empty : (k : ℕ) → ¬ Contains p.window k = λ k among. let among_none : Contains [] k = subst (λ (ks : List ℕ). Contains ks k) at_start.window among in absurd (omega (arith, among_none.1)) in
    record {
      few = subst (λ (ks : List ℕ). length ks < w) (sym at_start.window) some;
      window = subst (λ (ks : List ℕ). All (λ k. IsIdle id m start k × (k < p.unit) × IsInRange id m k p.range) ks) (sym at_start.window) (All-nil _);
      last = λ k o among less idle passed. absurd (empty o among);
      recorded = λ k idle less. absurd (none k idle less);
      copied = none_copied id m source start p.unit start.target none;
      unrecorded = λ k idle past recorded. idle.unrecorded ((same.units k idle.there).0 recorded);
      unwritten = λ k idle past u is. refl;
      others = λ k below busy u is. refl;
      kept = λ k below recorded. (same.units k below).1 recorded;
      before = λ r less below. at_start.present.before r less;
      behind = λ r more below. same.ranges r below;
    }

-- ---- the gate
pub marks_keep_own : MarksKeepOwn
marks_keep_own id j new size head own =
    ⊎_elim (λ unheld. inl (λ held. unheld (same_held new j (omega (arith, held.long)) (λ k h. sym (head k h)) held))) (λ opened. inr (same_opened id j new size head opened)) own

pub closing_keeps_standing : ClosingKeepsStanding
closing_keeps_standing id m source t j new job held torn standing =
    elim (cases_eq (slice_index new 8) 0x47) [
      | inr shut ↦ unheld_stands id m source t new (λ still. shut still.gate)
      | inl gate ↦
          let all : (k : ℕ) → slice_index new k ≡ slice_index j k = λ k. elim (cases_lt k 8) [
            | inl front ↦ torn.below k front
            | inr from ↦ elim (cases_eq k 8) [
              | inl there ↦ subst (λ (n : ℕ). slice_index new n ≡ slice_index j n) (sym there) (gate ∙ sym held.gate)
              | inr past ↦ torn.above k (omega (arith, past))
            ]
          ] in
          let change : MarkChange id (λ k. ⊥) (λ r. ⊥) j new = record { size = torn.size; head = λ k h. all k; unit = λ k h out. all _; range = λ r h out. all _ } in
          record {
            digests = digests_kept id m (λ k. ⊥) (λ r. ⊥) t j new job change none_of (λ r range never is. absurd never) standing.digests;
            bytes = bytes_kept id m source (λ k. ⊥) (λ r. ⊥) t j new job change none_of (no_units_of source (λ s k u. IsUnitAt id m k u → HasFrom u s t)) standing.bytes;
            marks = marks_kept id m (λ k. ⊥) (λ r. ⊥) j new job change none_of (λ r never. absurd never) (λ k never. absurd never) (λ k r never mine. absurd never) standing.marks;
          }
    ]
