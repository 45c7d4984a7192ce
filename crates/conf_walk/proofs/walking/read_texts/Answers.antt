use Rattle.std.proofs.lemmas.Result.{err_from_is_err_and}
use Rattle.conf_walk.specs.Stack.{then_walked}
use Rattle.conf_texts.specs.Texts.{nothing_read}
use Rattle.conf_walk.specs.Walk.{nestings, text_walked}
use Rattle.conf_walk.proofs.Refusals.{refuses-along}
use Rattle.conf_walk.proofs.WalkLemmas.{all-refused, first-walked}
use Rattle.conf_walk.proofs.walking.read_texts.Goals as goal

pub returns-in_err-reading-clause-answers : goal.returns-in_err-reading-clause-answers
returns-in_err-reading-clause-answers g c = λ told.
    let vars = c.args.vars.now in
    let name = c.args.name.now in
    let file = g.F.Files.file c.args.files.now in
    let fault = c.in_err-reading.field-0.0 in
    let p = err_from_is_err_and c.from_residual.result c.from_residual.ensures.1 in
    let first = first-walked vars file name c.new-stack.result.items c.new.result c.new-stack.ensures.items c.new.ensures in
    rw (p.1, p.2) (all-refused vars file name fault
    (refuses-along (text_walked vars file nestings name nothing_read) (then_walked vars file c.new-stack.result.items name c.new.result) fault first (c.in_err-reading.ensures.leads told vars)))
