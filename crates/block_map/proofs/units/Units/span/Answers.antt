use Rattle.std.proofs.Common.{◌+◌, ◌≤◌, ℕ, ◌∙◌, ap, subst, sym, arith}
use Rattle.std.specs.Prelude.{Some}
use Rattle.base_fields.specs.declared.spans.Span.{Span}
use Rattle.block_map.specs.Units.{Cut}
use Rattle.block_map.proofs.Index.{IsCutAt, unit_seen}
use Rattle.block_map.proofs.units.Units.span.Goals as goal

unit : (c : goal.After-struct_known-1) → IsCutAt c.self.inside.unit c.self.inside.size c.args.self.now.rows c.index-part.result.now c.args.k
unit c = unit_seen c.self.inside.unit c.self.inside.size c.self.inside.count c.self.inside.parts.items c.args.self.now.rows c.args.k c.range_of.result c.index-part.result.now c.self.invariant.index (ap (λ (v : Cut). v.rows) c.self.view_is) c.range_of.ensures.found c.requires c.index-part.ensures

pub overflow_sub-k : goal.overflow_sub-k
overflow_sub-k c = (unit c).from

pub piece_in-requires-clause-some : goal.piece_in-requires-clause-some
piece_in-requires-clause-some c = c.self.invariant.index.some

pub piece_in-requires-clause-within : goal.piece_in-requires-clause-within
piece_in-requires-clause-within c = (unit c).within

pub piece_in-requires-clause-bounded : goal.piece_in-requires-clause-bounded
piece_in-requires-clause-bounded c = (unit c).bounded

pub returns-clause-exact : goal.returns-clause-exact
returns-clause-exact c =
    let is : IsCutAt c.self.inside.unit c.self.inside.size c.args.self.now.rows c.index-part.result.now c.args.k =
    unit_seen c.self.inside.unit c.self.inside.size c.self.inside.count c.self.inside.parts.items c.args.self.now.rows c.args.k c.range_of.result c.index-part.result.now c.self.invariant.index (ap (λ (v : Cut). v.rows) c.self.view_is) c.range_of.ensures.found c.requires c.index-part.ensures in
    is.is ∙ ap (λ (s : Span). Some s) (sym c.piece_in.ensures.exact)

pub returns-clause-most : goal.returns-clause-most
returns-clause-most c =
    subst (λ (n : ℕ). c.piece_in.result.len ≤ n) (ap (λ (v : Cut). v.unit) c.self.view_is) c.piece_in.ensures.most

pub returns-clause-end : goal.returns-clause-end
returns-clause-end c =
    let is : IsCutAt c.self.inside.unit c.self.inside.size c.args.self.now.rows c.index-part.result.now c.args.k =
    unit_seen c.self.inside.unit c.self.inside.size c.self.inside.count c.self.inside.parts.items c.args.self.now.rows c.args.k c.range_of.result c.index-part.result.now c.self.invariant.index (ap (λ (v : Cut). v.rows) c.self.view_is) c.range_of.ensures.found c.requires c.index-part.ensures in
    subst (λ (n : ℕ). c.piece_in.result.at + c.piece_in.result.len ≤ n) (ap (λ (v : Cut). v.size) c.self.view_is) (omega (arith, is.end, c.piece_in.ensures.end))
