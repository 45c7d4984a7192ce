use Rattle.std.proofs.Common.{arith}
use Rattle.std.proofs.lemmas.Result.{err_from_is_err_and}
use Rattle.conf_walk.specs.Stack.{IsOpen, begun}
use Rattle.conf_walk.proofs.StackLemmas.{stack-enters}
use Rattle.conf_walk.proofs.WalkLemmas.{enters, opening-refused}
use Rattle.conf_walk.proofs.walking.enter.Goals as goal

pub returns-in_err-source-clause-leads : goal.returns-in_err-source-clause-leads
returns-in_err-source-clause-leads g c = λ told vars.
    let p = err_from_is_err_and c.from_residual.result c.from_residual.ensures.1 in
    rw (p.1, p.2) (opening-refused vars (g.F.Files.file c.args.files.now) c.args.stack.now.items c.args.name.now c.args.reading c.in_err-source.field-0.0 c.len.result (omega (arith, c.len.ensures))
    c.in_err-source.ensures.deep (c.in_err-source.ensures.answers told))

pub returns-clause-stack : goal.returns-clause-stack
returns-clause-stack g c =
    let source = c.in_ok-source.source in
    let open-text : IsOpen (begun source) = record {
      stands = c.in_ok-source.ensures.stands;
      within = omega arith;
      count = omega (arith, c.in_ok-source.ensures.count, c.in_ok-source.ensures.limit);
      depth = omega arith;
    } in
    rw (c.in_ok-after.ensures.pushed, c.in_ok-after.ensures.made)
    (stack-enters c.args.stack.now.items source c.args.reading c.requires (omega (arith, c.len.ensures, c.in_ok-source.ensures.few)) open-text c.in_ok-source.ensures.limit c.in_ok-source.ensures.count)

pub returns-clause-leads : goal.returns-clause-leads
returns-clause-leads g c = λ told vars.
    rw (c.in_ok-after.ensures.pushed, c.in_ok-after.ensures.made)
    (enters vars (g.F.Files.file c.args.files.now) c.args.stack.now.items c.args.name.now c.args.reading c.in_ok-source.source (omega (arith, c.len.ensures, c.in_ok-source.ensures.few)) (c.in_ok-source.ensures.answers told c.in_ok-source.ensures.few))
