use Rattle.std.proofs.Common.{◌≡◌, List, length, map, refl, sym, subst, ap, ◌∙◌, arith}
use Rattle.std.proofs.lemmas.List.{length-map}
use Rattle.base_fields.specs.declared.spans.Span.{Span}
use Rattle.span_cover.specs.Cover.{AreTouchedRuns}
use Rattle.block_map.specs.Maps.{run_of}
use Rattle.block_map.proofs.Runs.{is_map, runs_bounded}
use Rattle.block_map.proofs.maps.BlockMap.from_cover.Goals as goal

pub ranges_of-requires-clause-bounded : goal.ranges_of-requires-clause-bounded
ranges_of-requires-clause-bounded c =
    runs_bounded c.args.cover.now c.as_slice.result.now c.args.size c.args.block
    (subst (λ (runs : List Span). AreTouchedRuns c.args.cover.now c.args.size c.args.block runs) (sym c.as_slice.ensures) c.in_ok-runs.ensures.touched)
    (omega (arith, c.requires.block.not_below)) c.requires.size

pub returns-clause-map : goal.returns-clause-map
returns-clause-map c =
    let same : map run_of c.in_ok-ranges.ranges ≡ c.in_ok-runs.runs = c.in_ok-ranges.ensures.runs ∙ c.as_slice.ensures in
    let many : length c.in_ok-ranges.ranges ≡ length c.in_ok-runs.runs = sym (length-map c.in_ok-ranges.ranges run_of) ∙ ap (λ (l : List Span). length l) same in
    is_map c.args.cover.now c.args.size c.args.block _
    (record {
      same_size = refl;
      same_block = refl;
      runs = subst (λ (runs : List Span). AreTouchedRuns c.args.cover.now c.args.size c.args.block runs) (sym same) c.in_ok-runs.ensures.touched;
    })
    c.requires.size c.requires.block (omega (arith, c.in_ok-runs.ensures.few, c.requires.few))
