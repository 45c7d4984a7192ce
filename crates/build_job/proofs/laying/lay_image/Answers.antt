use Rattle.build_job.proofs.Laid.{laid_builds}
use Rattle.build_job.proofs.laying.lay_image.Goals as goal

pub returns-in-Ok-compose-clause-built : goal.returns-in-Ok-compose-clause-built
returns-in-Ok-compose-clause-built g c = λ told all.
    let file = g.F.Files.file in
    laid_builds all c.args.spec.now c.in-Ok.layout (file c.args.files.now) (file c.plan_image.new.files)
    (file c.compose.new.files) c.requires.kind (c.in-Ok.ensures.said told) c.in-Ok.ensures.layout
    c.in-Ok.ensures.same_files (c.in-Ok-compose.ensures.made told) (c.in-Ok-compose.ensures.reads_back told)
    c.in-Ok-compose.ensures.others
