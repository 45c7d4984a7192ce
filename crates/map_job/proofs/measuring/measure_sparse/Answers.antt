use Rattle.std.proofs.Common.{◌≡◌, Err, rules}
use Rattle.map_job.proofs.measuring.measure_sparse.Goals as goal

pub returns-in_err-measured-clause-cause : goal.returns-in_err-measured-clause-cause
returns-in_err-measured-clause-cause g c =
    let counts = g.F.Files.counts in
    let same : c.from_residual-in_err-measured.result ≡ Err c.in_err-measured.field-0.0 = search rules in
    rw same (c.in_err-measured.ensures.shown (counts c.args.files.now) (counts c.length_of.new.files))
