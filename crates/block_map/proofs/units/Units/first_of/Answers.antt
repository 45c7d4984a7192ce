use Rattle.std.proofs.Common.{◌≡◌, ◌<◌, List, length, sym, ap, subst, ◌∙◌, arith}
use Rattle.base_fields.specs.declared.spans.Span.{Span}
use Rattle.block_map.specs.Index.{rows_of}
use Rattle.block_map.specs.Units.{Cut, first_of}
use Rattle.block_map.proofs.Index.{part_first, rows_length}
use Rattle.block_map.proofs.units.Units.first_of.Goals as goal

pub returns : goal.returns
returns c =
    let view : rows_of c.self.inside.unit c.self.inside.parts.items ≡ c.args.self.now.rows = ap (λ (v : Cut). v.rows) c.self.view_is in
    let many : length c.self.inside.parts.items ≡ length c.args.self.now.rows = sym (rows_length c.self.inside.unit c.self.inside.parts.items) ∙ ap (λ (l : List (List Span)). length l) view in
    let below : c.args.r < length c.self.inside.parts.items = omega (arith, c.requires) in
    subst (λ (rows : List (List Span)). c.index.result.now.first ≡ first_of rows c.args.r) view
    (sym (part_first c.self.inside.unit c.self.inside.size c.self.inside.count c.self.inside.parts.items c.args.r c.index.result.now c.self.invariant.index below ∙ ap (λ p. p.first) (sym c.index.ensures)))
