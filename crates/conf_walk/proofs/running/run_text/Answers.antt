use Rattle.std.proofs.Common.{◌∙◌, sym}
use Rattle.std.proofs.lemmas.Result.{err_from_is_err_and}
use Rattle.conf_walk.specs.Stack.{rest_walked}
use Rattle.conf_walk.proofs.Refusals.{refuses-along}
use Rattle.conf_walk.proofs.RunLemmas.{end-refused, ends}
use Rattle.conf_walk.proofs.running.run_text.Goals as goal

pub returns-in_err-behind-clause-leads : goal.returns-in_err-behind-clause-leads
returns-in_err-behind-clause-leads c = λ included.
    let p = err_from_is_err_and c.from_residual.result c.from_residual.ensures.1 in
    let wanted = rest_walked included c.args.vars.now c.args.text c.args.reading in
    let left = rest_walked included c.args.vars.now c.loop-token.text c.loop-token.reading in
    rw (p.1, p.2) (refuses-along wanted left c.in_err-behind.field-0.0 (c.loop-token.invariant.same included) (c.in_err-behind.ensures.leads included))

pub returns-in_err-end_text-clause-leads : goal.returns-in_err-end_text-clause-leads
returns-in_err-end_text-clause-leads c = λ included.
    let p = err_from_is_err_and c.from_residual-in_err-end_text.result c.from_residual-in_err-end_text.ensures.1 in
    let wanted = rest_walked included c.args.vars.now c.args.text c.args.reading in
    let left = rest_walked included c.args.vars.now c.loop-token.text c.loop-token.reading in
    rw (p.1, p.2) (refuses-along wanted left c.in_err-end_text.field-0.0 (c.loop-token.invariant.same included)
    (end-refused included c.args.vars.now c.loop-token.text c.loop-token.reading c.in_err-end_text.field-0.0 (sym c.in_default.ensures) c.loop-token.invariant.holds.within c.in_err-end_text.ensures.err c.in_err-end_text.ensures.fault))

pub returns-clause-leads : goal.returns-clause-leads
returns-clause-leads c = λ included.
    c.loop-token.invariant.same included
    ∙ ends included c.args.vars.now c.loop-token.text c.loop-token.reading (sym c.in_default.ensures) c.loop-token.invariant.holds.within c.in_ok-end_text.ensures.ok
