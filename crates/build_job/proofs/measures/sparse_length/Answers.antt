use Rattle.std.proofs.Common.{◌≡◌, Err, rules}
use Rattle.build_job.proofs.measures.sparse_length.Goals as goal

pub returns-in_err-len-2-clause-cause : goal.returns-in_err-len-2-clause-cause
returns-in_err-len-2-clause-cause g c =
    let counts = g.F.Files.counts in
    let same : c.from_residual-in_err-len-2.result ≡ Err c.in_err-len-2.field-0.0 = search rules in
    rw same (c.in_err-len-2.ensures.shown (counts c.args.files.now) (counts c.length_of.new.files))
