use Rattle.copy_chains.proofs.CopyLemmas.{copied_images}
use Rattle.copy_chains.proofs.laws.copied_images_are_on_the_target.Goals as goal

pub returns : goal.returns
returns g c told = copied_images g.B.Bench.disk g.met.B.Bench.only_now (g.met.B.Bench.reads_leave told)
