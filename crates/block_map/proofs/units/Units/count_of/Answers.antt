use Rattle.std.proofs.Common.{◌≡◌, ◌+◌, ◌<◌, ℕ, List, [], length, get_or, sym, ap, subst, ◌∙◌, arith}
use Rattle.base_fields.specs.declared.spans.Span.{Span}
use Rattle.block_map.specs.declared.units.Part.{Part}
use Rattle.block_map.specs.Index.{rows_of}
use Rattle.block_map.specs.Pieces.{pieces}
use Rattle.block_map.specs.Units.{Cut, first_of}
use Rattle.block_map.proofs.Index.{first_next, row_seen, rows_length}
use Rattle.block_map.proofs.units.Units.count_of.Goals as goal

view : (c : goal.After-pieces_in) → rows_of c.self.inside.unit c.self.inside.parts.items ≡ c.args.self.now.rows
view c = ap (λ (v : Cut). v.rows) c.self.view_is

row : (c : goal.After-pieces_in) → get_or c.args.self.now.rows c.args.r [] ≡ pieces c.self.inside.unit c.index.result.now.span
row c = row_seen c.self.inside.unit c.self.inside.parts.items c.args.self.now.rows c.args.r c.index.result.now (view c) c.requires c.index.ensures

count : (c : goal.After-pieces_in) → c.pieces_in.result ≡ length (get_or c.args.self.now.rows c.args.r [])
count c = c.pieces_in.ensures.exact ∙ ap (λ (l : List Span). length l) (sym (row c))

pub returns-clause-exact : goal.returns-clause-exact
returns-clause-exact c = count c

pub returns-clause-some : goal.returns-clause-some
returns-clause-some c =
    let many : length c.self.inside.parts.items ≡ length c.args.self.now.rows = sym (rows_length c.self.inside.unit c.self.inside.parts.items) ∙ ap (λ (l : List (List Span)). length l) (view c) in
    let filled : 0 < (get_or c.self.inside.parts.items c.args.r c.index.result.now).span.len = c.self.invariant.index.filled c.args.r c.index.result.now (omega (arith, c.requires)) in
    c.pieces_in.ensures.some (subst (λ (p : Part). 0 < p.span.len) (sym c.index.ensures) filled)

pub returns-clause-next : goal.returns-clause-next
returns-clause-next c =
    first_next c.args.self.now.rows c.args.r [] c.requires
    ∙ ap (λ (n : ℕ). first_of c.args.self.now.rows c.args.r + n) (sym (count c))
