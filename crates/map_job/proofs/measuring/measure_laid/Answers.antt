use Rattle.std.proofs.Common.{◌≡◌, Err, refl, rules}
use Rattle.map_job.proofs.Measures.{laid_measured}
use Rattle.map_job.proofs.measuring.measure_laid.Goals as goal

pub returns-in_err-size-clause-image : goal.returns-in_err-size-clause-image
returns-in_err-size-clause-image g c =
    let same : c.from_residual.result ≡ Err c.in_err-size.field-0.0 = search rules in
    rw same (c.in_err-size.ensures.image)

pub returns-clause-measured : goal.returns-clause-measured
returns-clause-measured g c = λ told.
    let file = g.F.Files.file in
    laid_measured (file c.args.files.now) (file c.plan_image.new.files) c.args.number c.args.spec.now c.in-Ok.layout _
    c.in_ok-size.size (c.in-Ok.ensures.said told) c.in-Ok.ensures.same_files (c.in_ok-size.ensures.exact told)
    (search rules) refl c.in_ok-cover.ensures.covered
