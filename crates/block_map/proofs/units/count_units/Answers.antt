use Rattle.std.proofs.Common.{◌≡◌, ◌+◌, ℕ, length, map, List, ap, sym, ◌∙◌, arith, take}
use Rattle.std.proofs.lemmas.List.{take_all}
use Rattle.base_fields.specs.declared.spans.Span.{Span}
use Rattle.block_map.specs.declared.maps.Range.{Range}
use Rattle.block_map.specs.Maps.{range_span}
use Rattle.block_map.specs.Pieces.{pieces}
use Rattle.block_map.specs.Units.{joined}
use Rattle.block_map.proofs.Index.{rows_more}
use Rattle.block_map.proofs.units.count_units.Goals as goal

pub overflow_add-count : goal.overflow_add-count
overflow_add-count c =
    let many : length c.as_slice-range-items.result.now ≡ length c.args.map.now.ranges = ap (λ (l : List Range). length l) c.as_slice-range-items.ensures in
    omega (arith, c.loop-range.invariant.few, c.pieces_in-count.ensures.few, c.bytes_of.ensures.end, c.requires.map.size, c.requires.map.few, c.requires.unit)

pub loop-range-preserved : goal.loop-range-preserved
loop-range-preserved c = record {
  exact =
      ap (λ (n : ℕ). n + c.pieces_in-count.result) c.loop-range.invariant.exact
      ∙ ap (λ (n : ℕ). length (joined (map (λ (r : Range). pieces c.args.unit (range_span c.args.map.now r)) (take c.loop-range.range-index c.as_slice-range-items.result.now))) + n)
      (c.pieces_in-count.ensures.exact ∙ ap (λ (s : Span). length (pieces c.args.unit s)) c.bytes_of.ensures.exact)
      ∙ sym (rows_more (λ (r : Range). pieces c.args.unit (range_span c.args.map.now r)) c.as_slice-range-items.result.now c.loop-range.range-index _ c.loop-range-test.true);
  few = omega (arith, c.loop-range.invariant.few, c.pieces_in-count.ensures.few, c.bytes_of.ensures.end, c.requires.map.size, c.requires.unit);
}

pub returns : goal.returns
returns c =
    c.loop-range.invariant.exact
    ∙ ap (λ (l : List Range). length (joined (map (λ (r : Range). pieces c.args.unit (range_span c.args.map.now r)) l)))
    (take_all c.loop-range.range-index c.as_slice-range-items.result.now (omega arith) ∙ c.as_slice-range-items.ensures)
