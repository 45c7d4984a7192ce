use Rattle.std.proofs.Common.{◌+◌, get_or, arith, refl}
use Rattle.base_fields.specs.declared.spans.Span.{Span}
use Rattle.span_cover.proofs.Searching.{sides_exact}
use Rattle.span_cover.proofs.places.sides.Goals as goal

pub returns-clause-exact : goal.returns-clause-exact
returns-clause-exact c o =
    let nothing : Span = record { at = 0; len = 0 } in
    sides_exact c.args.met.now c.args.span (record { at = (get_or c.args.met.now 0 nothing).at; len = c.saturating_sub.result }) (record { at = c.args.span.at + c.args.span.len; len = c.saturating_sub-2.result }) nothing
    c.requires.cover c.requires.meet c.requires.some refl (omega arith) refl (omega arith) o
