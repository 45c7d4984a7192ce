use Rattle.std.proofs.Common.{arith, length, ◌≤◌, ◌+◌, List, ◌∙◌, sym}
use Rattle.base_fields.specs.declared.spans.Span.{Span}
use Rattle.span_cover.specs.Cover.{HasLess, IsCover}
use Rattle.span_cover.proofs.Editing.{HasLess-cut, HasLess-none, IsCover-cut, length-replaced, on_ok, settled}
use Rattle.span_cover.proofs.places.cut.Goals as goal

pub returns-then-from-to-clause-ok : goal.returns-then-from-to-clause-ok
returns-then-from-to-clause-ok c =
    let low = rw c.deref.ensures.value at c.between-from.ensures.low in
    let high = rw (c.deref.ensures.value, sym c.if-from-to.true) at c.between-from.ensures.high in
    HasLess-none c.args.spans.now.items c.args.span c.between-from.result.0 low high

pub returns-clause-cover : goal.returns-clause-cover
returns-clause-cover c =
    let old : List Span = c.args.spans.now.items in
    let sides = rw c.deref-2.ensures.value at c.sides-sides.ensures.exact in
    let order = rw c.deref.ensures.value at c.between-from.ensures.ordered in
    settled c.replace.result IsCover old c.replace.new.spans.items _ c.replace.ensures.ok c.replace.ensures.err c.requires.cover
    (IsCover-cut old c.filled.result.now c.args.span c.between-from.result.0 c.between-from.result.1 c.requires.cover order.0 order.1 c.filled.ensures.apart
    (λ o. c.filled.ensures.exact o ∙ sides o))

pub returns-clause-ok : goal.returns-clause-ok
returns-clause-ok c =
    let old : List Span = c.args.spans.now.items in
    let low = rw c.deref.ensures.value at c.between-from.ensures.low in
    let high = rw c.deref.ensures.value at c.between-from.ensures.high in
    let sides = rw c.deref-2.ensures.value at c.sides-sides.ensures.exact in
    let order = rw c.deref.ensures.value at c.between-from.ensures.ordered in
    on_ok c.replace.result (HasLess old c.args.span) c.replace.new.spans.items _ c.replace.ensures.ok
    (HasLess-cut old c.filled.result.now c.args.span c.between-from.result.0 c.between-from.result.1 order.0 low high
    (λ o. c.filled.ensures.exact o ∙ sides o))

pub returns-clause-few : goal.returns-clause-few
returns-clause-few c =
    let old : List Span = c.args.spans.now.items in
    let order = rw c.deref.ensures.value at c.between-from.ensures.ordered in
    settled c.replace.result (λ l. length l ≤ length old + 1) old c.replace.new.spans.items _ c.replace.ensures.ok c.replace.ensures.err (omega arith)
    (omega (arith, order.0, c.if-from-to.false, c.filled.ensures.few, length-replaced old c.filled.result.now c.between-from.result.0 c.between-from.result.1 order.0 order.1))
