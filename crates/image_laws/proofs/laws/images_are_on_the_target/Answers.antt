use Rattle.image_laws.proofs.OnTarget.{built_on, chains_put, copies_have}
use Rattle.image_laws.proofs.laws.images_are_on_the_target.Goals as goal

pub returns-clause-copy : goal.returns-clause-copy
returns-clause-copy g c = copies_have

pub returns-clause-built : goal.returns-clause-built
returns-clause-built g c = built_on

pub returns-clause-chain : goal.returns-clause-chain
returns-clause-chain g c told = chains_put g.B.Bench.disk g.met.B.Bench.only_now (g.met.B.Bench.reads_leave told)
