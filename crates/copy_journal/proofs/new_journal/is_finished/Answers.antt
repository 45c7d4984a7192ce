use Rattle.bench.specs.declared.Dev.TheVariants.{Journal}
use Rattle.copy_journal.proofs.GateLemmas.{finished_is}
use Rattle.copy_journal.proofs.new_journal.is_finished.Goals as goal

pub returns-clause-exact : goal.returns-clause-exact
returns-clause-exact g c told =
    let matches = c.is_for.ensures.0 c.if-not-is_for.false in
    finished_is c.args.id.now ((g.B.Bench.disk c.args.bench.now).reads Journal) c.args.found.now c.in_ok-all.all (c.requires.found told) matches (c.in_ok-all.ensures.exact told)
