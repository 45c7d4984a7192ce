-- Two cases by hand, of a copy of three bytes.
use Rattle.std.proofs.Common.{◌≡◌, ℕ, ◌+◌, List, [], ◌∷◌, refl, sym, ap, subst, ◌∙◌, arith}
use Rattle.std.specs.Prelude.{Some, slice_get, slice_index}
use Rattle.base_fields.specs.declared.spans.Span.{Span}
use Rattle.block_map.specs.Pieces.{pieces}
use Rattle.block_map.specs.Units.{IsRangeOf, joined, units_by_range, units_of}
use Rattle.journal_format.specs.declared.jobs.JobId.{JobId}
use Rattle.copy_states.specs.Jobs.{IsChecked, IsInRange, IsUnitAt}
use Rattle.copy_laws.specs.Small.{SmallIsCopied, SmallIsInOrder, small_map}

small_unit : Span
small_unit = record { at = 0; len = 3 }

small_rows : units_by_range small_map 65536 ≡ (small_unit ∷ []) ∷ []
unfolding pieces small_unit
small_rows = refl

unit_at : (id : JobId) → id.unit ≡ 65536 → IsUnitAt id small_map 0 (record { at = 0; len = 3 })
unfolding small_unit
unit_at id e = subst (λ (n : ℕ). slice_get (units_of small_map n) 0 ≡ Some small_unit) (sym e) (ap (λ (rows : List (List Span)). slice_get (joined rows) 0) small_rows)

in_range : (id : JobId) → id.unit ≡ 65536 → IsInRange id small_map 0 0
in_range id e = subst (λ (n : ℕ). IsRangeOf (units_by_range small_map n) 0 0) (sym e) (subst (λ (rows : List (List Span)). IsRangeOf rows 0 0) (sym small_rows) (record { there = omega arith; from = omega arith; to = omega arith }))

pub small_is_copied : SmallIsCopied
small_is_copied id t j unit opened mark standing = (standing.bytes 0 (record { at = 0; len = 3 }) (unit_at id unit) (record { opened = opened; mark = mark })).same

pub small_is_in_order : SmallIsInOrder
small_is_in_order id t j unit units opened mark unmarked standing =
    let place : 80 + id.units + 0 ≡ 81 = omega arith in
    let checked : IsChecked id 0 j = record { opened = opened; mark = ap (λ (n : ℕ). slice_index j n) place ∙ mark } in
    unmarked (standing.marks 0 checked 0 (in_range id unit)).mark
