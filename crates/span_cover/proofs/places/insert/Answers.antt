use Rattle.std.proofs.Common.{arith, length, ◌≤◌, ◌+◌, List, [], ◌∷◌}
use Rattle.base_fields.specs.declared.spans.Span.{Span}
use Rattle.span_cover.specs.Cover.{HasMore, IsCover}
use Rattle.span_cover.proofs.Editing.{HasMore-inserted, IsCover-inserted, length-replaced, on_ok, settled}
use Rattle.span_cover.proofs.places.insert.Goals as goal

pub returns-clause-cover : goal.returns-clause-cover
returns-clause-cover c =
    let old : List Span = c.args.spans.now.items in
    let low = rw c.deref.ensures.value at c.between-from.ensures.low in
    let high = rw c.deref.ensures.value at c.between-from.ensures.high in
    let exact = rw c.deref-2.ensures.value at c.hull-whole.ensures.exact in
    let order = rw c.deref.ensures.value at c.between-from.ensures.ordered in
    settled c.replace.result IsCover old c.replace.new.spans.items _ c.replace.ensures.ok c.replace.ensures.err c.requires.cover
    (IsCover-inserted old c.args.span c.hull-whole.result c.between-from.result.0 c.between-from.result.1 c.requires.cover c.requires.bounded order.0 order.1 low high c.hull-whole.ensures.filled exact)

pub returns-clause-ok : goal.returns-clause-ok
returns-clause-ok c =
    let old : List Span = c.args.spans.now.items in
    let exact = rw c.deref-2.ensures.value at c.hull-whole.ensures.exact in
    let order = rw c.deref.ensures.value at c.between-from.ensures.ordered in
    on_ok c.replace.result (HasMore old c.args.span) c.replace.new.spans.items _ c.replace.ensures.ok
    (HasMore-inserted old c.args.span c.hull-whole.result c.between-from.result.0 c.between-from.result.1 order.0 exact)

pub returns-clause-few : goal.returns-clause-few
returns-clause-few c =
    let old : List Span = c.args.spans.now.items in
    let order = rw c.deref.ensures.value at c.between-from.ensures.ordered in
    settled c.replace.result (λ l. length l ≤ length old + 1) old c.replace.new.spans.items _ c.replace.ensures.ok c.replace.ensures.err (omega arith)
    (omega (arith, length-replaced old (c.hull-whole.result ∷ []) c.between-from.result.0 c.between-from.result.1 order.0 order.1))
