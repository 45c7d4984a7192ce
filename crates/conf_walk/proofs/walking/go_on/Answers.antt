use Rattle.std.proofs.Common.{◌≡◌, ◌-◌, [], ◌∷◌, ◌++◌, length, ◌∙◌, ap, subst}
use Rattle.std.proofs.lemmas.Result.{err_from_is_err_and}
use Rattle.conf_walk.specs.Stack.{Stops, left_then, rest_walked, stack_walked, then_walked}
use Rattle.base_fields.specs.Results.{◌>>=◌}
use Rattle.conf_walk.specs.Walk.{text_walked}
use Rattle.conf_walk.specs.declared.running.Stop.TheVariants.{Includes}
use Rattle.conf_walk.proofs.Refusals.{refuses-along}
use Rattle.conf_walk.proofs.StackLemmas.{stack-ended, stack-includes}
use Rattle.conf_walk.proofs.WalkLemmas.{top-ended, top-includes-at, top-refused}
use Rattle.conf_walk.proofs.walking.go_on.Goals as goal

pub returns-in_err-stop-clause-leads : goal.returns-in_err-stop-clause-leads
returns-in_err-stop-clause-leads g c = λ told.
    let vars = c.args.vars.now in
    let file = g.F.Files.file c.args.files.now in
    let texts = c.args.stack.now.items in
    let p = err_from_is_err_and c.from_residual.result c.from_residual.ensures.1 in
    rw (p.1, p.2) (top-refused vars file texts c.args.text c.args.reading c.in_err-stop.field-0.0 (c.in_err-stop.ensures.leads (text_walked vars file (8 - length texts))))

pub enter-requires : goal.enter-requires
enter-requires g c =
    let text = c.args.text in
    let reading = c.args.reading in
    let next = c.in-Includes.text in
    let before = c.in-Includes.before in
    let stops : Stops text reading (Includes next c.in-Includes.name before) = subst (Stops text reading) c.in-Includes.is c.in_ok-stop.ensures.stops in
    rw c.in_ok-push-in-Includes.ensures.ok (stack-includes c.args.stack.now.items text next reading before c.requires stops.0 stops.1 stops.2)

pub returns-in_err-after-in-Includes-clause-leads : goal.returns-in_err-after-in-Includes-clause-leads
returns-in_err-after-in-Includes-clause-leads g c = λ told.
    let vars = c.args.vars.now in
    let file = g.F.Files.file c.args.files.now in
    let texts = c.args.stack.now.items in
    let more = c.push.new.stack.items in
    let next = c.in-Includes.text in
    let name = c.in-Includes.name.text in
    let said = c.text.result.now in
    let before = c.in-Includes.before in
    let included = text_walked vars file (8 - length texts) in
    let leads : rest_walked included vars c.args.text c.args.reading ≡ (included name before >>= rest_walked included vars next) = c.in_ok-stop.ensures.leads included ∙ ap (left_then included vars) c.in-Includes.is in
    let here : stack_walked vars file (texts ++ c.args.text ∷ []) c.args.reading ≡ then_walked vars file more said before =
    top-includes-at vars file texts more c.args.text next name said c.args.reading before c.in_ok-push-in-Includes.ensures.ok c.text.ensures leads in
    let p = err_from_is_err_and c.from_residual-in_err-after-in-Includes.result c.from_residual-in_err-after-in-Includes.ensures.1 in
    rw (p.1, p.2) (refuses-along (stack_walked vars file (texts ++ c.args.text ∷ []) c.args.reading) (then_walked vars file more said before) c.in_err-after-in-Includes.field-0.0 here (c.in_err-after-in-Includes.ensures.leads told vars))

pub returns-in-Ended-clause-stack : goal.returns-in-Ended-clause-stack
returns-in-Ended-clause-stack g c =
    stack-ended c.args.stack.now.items c.args.text c.args.reading c.in-Ended.after c.requires (subst (Stops c.args.text c.args.reading) c.in-Ended.is c.in_ok-stop.ensures.stops)

pub returns-in-Ended-clause-leads : goal.returns-in-Ended-clause-leads
returns-in-Ended-clause-leads g c = λ told.
    let vars = c.args.vars.now in
    let file = g.F.Files.file c.args.files.now in
    let texts = c.args.stack.now.items in
    let included = text_walked vars file (8 - length texts) in
    top-ended vars file texts c.args.text c.args.reading c.in-Ended.after (c.in_ok-stop.ensures.leads included ∙ ap (left_then included vars) c.in-Ended.is)

pub returns-in_ok-after-in-Includes-clause-leads : goal.returns-in_ok-after-in-Includes-clause-leads
returns-in_ok-after-in-Includes-clause-leads g c = λ told.
    let vars = c.args.vars.now in
    let file = g.F.Files.file c.args.files.now in
    let texts = c.args.stack.now.items in
    let more = c.push.new.stack.items in
    let next = c.in-Includes.text in
    let name = c.in-Includes.name.text in
    let said = c.text.result.now in
    let before = c.in-Includes.before in
    let included = text_walked vars file (8 - length texts) in
    let leads : rest_walked included vars c.args.text c.args.reading ≡ (included name before >>= rest_walked included vars next) = c.in_ok-stop.ensures.leads included ∙ ap (left_then included vars) c.in-Includes.is in
    let here : stack_walked vars file (texts ++ c.args.text ∷ []) c.args.reading ≡ then_walked vars file more said before =
    top-includes-at vars file texts more c.args.text next name said c.args.reading before c.in_ok-push-in-Includes.ensures.ok c.text.ensures leads in
    here ∙ c.in_ok-after-in-Includes.ensures.leads told vars
