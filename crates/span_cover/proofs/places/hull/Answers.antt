use Rattle.std.proofs.Common.{◌-◌, ◌<◌, length, sym, ◌∙◌, arith}
use Rattle.span_cover.proofs.Searching.{hull_exact, positive}
use Rattle.span_cover.proofs.places.hull.Goals as goal

pub returns-clause-exact : goal.returns-clause-exact
returns-clause-exact c o =
    let some : 0 < length c.args.near.now = positive (length c.args.near.now) (sym c.is_empty.ensures ∙ c.if-is_empty.false) in
    let filled : 0 < c.args.span.len = c.requires.filled in
    hull_exact c.args.near.now c.args.span (record { at = c.min-at.result; len = c.max-end.result - c.min-at.result }) (record { at = 0; len = 0 })
    c.requires.cover c.requires.adjoin some (omega arith) (omega arith) o
