-- What holds of a copier at the end of a range.
use Rattle.std.proofs.Common.{◌≡◌, ℕ, ◌+◌, ◌<◌, ◌≤◌, List, [], length, inl, inr, sym, subst, ⊎_elim, arith}
use Rattle.std.proofs.lemmas.Bool.{cases_eq, cases_lt}
use Rattle.std.proofs.lemmas.List.Elements.{All-nil}
use Rattle.std.specs.Prelude.{All, Contains, Option, None, Some, IfSome}
use Rattle.base_fields.specs.declared.spans.Span.{Span}
use Rattle.block_map.specs.Units.{first_of, units_by_range}
use Rattle.block_map.specs.declared.maps.BlockMap.{BlockMap}
use Rattle.block_map.proofs.Index.{first_rises, one_range}
use Rattle.block_map.proofs.Numbering.{unit_is}
use Rattle.journal_format.specs.declared.jobs.JobId.{JobId}
use Rattle.copy_states.specs.Along.{Along, Position}
use Rattle.copy_states.specs.Jobs.{HasFrom, IsChecked, IsInRange, IsJobOf, IsUnchecked, IsUnitAt}
use Rattle.copy_states.specs.Starts.{IsIdle, Pair}
use Rattle.copy_laws.specs.Opening.{IsAtOpening}
use Rattle.copy_laws.specs.Ranges.{CheckedIsAlong, EndHasMixed, IsAtEnd}
use Rattle.copy_laws.proofs.Events.{checking_changes}
use Rattle.copy_laws.proofs.Marks.{MarkChange, checked_after, checked_before, recorded_after, recorded_before}
use Rattle.copy_laws.proofs.UnitBytes.{in_range_below, number_found, range_below, some_unit}

pub end_has_mixed : EndHasMixed
end_has_mixed id m s start w p t j job long along position end = record {
  kept = λ k u mine is recorded.
      let unit = unit_is m id.unit k u job.map (some_unit id m job) is in
      record { there = omega (arith, long, unit.end); same = along.others k (in_range_below id m k p.range job mine) (λ idle. idle.unrecorded recorded) u is };
  written = λ k u mine is unrecorded.
      let unchecked : IsUnchecked id m k start.journal = λ r other checked.
      let same : r ≡ p.range = one_range (units_by_range m id.unit) k r p.range other mine in
      let at_start : IsChecked id p.range start.journal = subst (λ (n : ℕ). IsChecked id n start.journal) same checked in
      position.present.unchecked end.there ((along.behind p.range (omega arith) end.there).1 at_start) in
      let idle : IsIdle id m start k = record { there = in_range_below id m k p.range job mine; unrecorded = unrecorded; unchecked = unchecked } in
      along.copied k u idle (omega (arith, mine.to, end.end)) is;
}

-- an idle unit before the next position is before this one
idle_before : (id : JobId) (m : BlockMap) (source : Option (List ℕ)) (start : Pair) (w : ℕ) (p next : Position) (t j j_new : List ℕ) → IsJobOf id m → Along id m source start w p t j → IsAtEnd id m p → MarkChange id (λ k. ⊥) (λ x. x ≡ p.range) j j_new → IsAtOpening id m next j_new → (k : ℕ) → IsIdle id m start k → k < next.unit → k < p.unit
idle_before id m source start w p next t j j_new job along end change opening k idle less =
    let rows : List (List Span) = units_by_range m id.unit in
    elim (cases_lt k p.unit) [
      | inl before ↦ before
      | inr past ↦
          let place : (r : ℕ) × IsInRange id m k r = number_found id m k job idle.there in
          let r : ℕ = place.0 in
          let below : r < id.ranges = range_below id m k r job place.1 in
          elim (cases_lt p.range r) [
            | inr early ↦ let rise : first_of rows (r + 1) ≤ first_of rows (p.range + 1) = first_rises rows (r + 1) (p.range + 1) (omega arith) in absurd (omega (arith, place.1.to, end.end))
            | inl later ↦ elim (cases_lt r next.range) [
              | inr far ↦ let rise : first_of rows next.range ≤ first_of rows r = first_rises rows next.range r far in absurd (omega (arith, place.1.from, opening.unit))
              | inl near ↦
                  let checked : IsChecked id r j = checked_before id (λ x. ⊥) (λ x. x ≡ p.range) j j_new change r below (λ same. omega (arith, same)) (opening.present.before r near) in
                  absurd (idle.unchecked r place.1 ((along.behind r (omega arith) below).0 checked))
            ]
          ]
    ]

source_before : (id : JobId) (m : BlockMap) (source : Option (List ℕ)) (start : Pair) (n next : ℕ) (t : List ℕ) → ((k : ℕ) → IsIdle id m start k → k < next → k < n) → IfSome source (λ s. (k : ℕ) (u : Span) → IsIdle id m start k → k < n → IsUnitAt id m k u → HasFrom u s t) → IfSome source (λ s. (k : ℕ) (u : Span) → IsIdle id m start k → k < next → IsUnitAt id m k u → HasFrom u s t)
source_before id m None start n next t before copied = tt
source_before id m (Some s) start n next t before copied = λ k u idle less is. copied k u idle (before k idle less) is

pub checked_is_along : CheckedIsAlong
checked_is_along id m source start w p next t j j_new job along position end empty torn checked opening =
    let rows : List (List Span) = units_by_range m id.unit in
    let change : MarkChange id (λ k. ⊥) (λ x. x ≡ p.range) j j_new = checking_changes id p.range j j_new torn in
    let before : (k : ℕ) → IsIdle id m start k → k < next.unit → k < p.unit = idle_before id m source start w p next t j j_new job along end change opening in
    let none : (k : ℕ) → ¬ Contains p.window k = λ k among. let among_none : Contains [] k = subst (λ (ks : List ℕ). Contains ks k) empty among in absurd (omega (arith, among_none.1)) in
    let none_next : (k : ℕ) → ¬ Contains next.window k = λ k among. let among_none : Contains [] k = subst (λ (ks : List ℕ). Contains ks k) opening.window among in absurd (omega (arith, among_none.1)) in
    let within : next.range ≤ id.ranges = opening.present.within in
    let on : p.range < next.range = elim (cases_lt p.range next.range) [
      | inl less ↦ less
      | inr back ↦ elim (cases_eq next.range p.range) [
        | inl same ↦ absurd (opening.present.unchecked (omega (arith, end.there, same)) (subst (λ (n : ℕ). IsChecked id n j_new) (sym same) checked))
        | inr other ↦
            let still : IsChecked id next.range j = along.before next.range (omega (arith, other)) (omega (arith, end.there)) in
            absurd (opening.present.unchecked (omega (arith, end.there)) (checked_after id (λ x. ⊥) (λ x. x ≡ p.range) j j_new change next.range (omega (arith, end.there)) other still))
      ]
    ] in
    let far : first_of rows (p.range + 1) ≤ first_of rows next.range = first_rises rows (p.range + 1) next.range (omega arith) in
    let more : p.unit ≤ next.unit = omega (arith, end.end, opening.unit) in
    record {
      few = subst (λ (ks : List ℕ). length ks < w) (sym opening.window) (omega (arith, along.few));
      window = subst (λ (ks : List ℕ). All (λ k. IsIdle id m start k × (k < next.unit) × IsInRange id m k next.range) ks) (sym opening.window) (All-nil _);
      last = λ k o among less idle passed. absurd (none_next o among);
      recorded = λ k idle less. ⊎_elim (λ is. inl (recorded_after id (λ x. ⊥) (λ x. x ≡ p.range) j j_new change k idle.there (λ never. never) is)) (λ among. absurd (none k among)) (along.recorded k idle (before k idle less));
      copied = source_before id m source start p.unit next.unit t before along.copied;
      unrecorded = λ k idle past is. along.unrecorded k idle (omega arith) (recorded_before id (λ x. ⊥) (λ x. x ≡ p.range) j j_new change k idle.there (λ never. never) is);
      unwritten = λ k idle past. along.unwritten k idle (omega arith);
      others = along.others;
      kept = λ k below is. recorded_after id (λ x. ⊥) (λ x. x ≡ p.range) j j_new change k below (λ never. never) (along.kept k below is);
      before = λ r less below. opening.present.before r less;
      behind = λ r later below.
          let other : r ≡ p.range → ⊥ = λ same. omega (arith, same) in (
            λ is. (along.behind r (omega arith) below).0 (checked_before id (λ x. ⊥) (λ x. x ≡ p.range) j j_new change r below other is),
            λ is. checked_after id (λ x. ⊥) (λ x. x ≡ p.range) j j_new change r below other ((along.behind r (omega arith) below).1 is),
          );
    }
