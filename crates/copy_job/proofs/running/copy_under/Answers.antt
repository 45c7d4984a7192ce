use Rattle.std.proofs.Common.{Err, Ok}
use Rattle.copy_job.proofs.LookLemmas.{held_then, marks_looked, marks_then, narrow_looked, narrow_then, opens_then, outcome_then, own_looked, own_then, since_looked, since_then}
use Rattle.copy_job.proofs.RunLemmas.{run_caused}
use Rattle.copy_run.proofs.AnswerLemmas.{none_fell_yet}
use Rattle.copy_job.proofs.running.copy_under.Goals as goal

pub returns-in-Err-clause-since : goal.returns-in-Err-clause-since
returns-in-Err-clause-since g c told =
    since_looked g.F.Files.told (g.F.Files.file c.args.files.now c.args.job.now.source) c.args.job.now c.attach_both.ensures.looked

pub returns-in-Err-clause-narrow : goal.returns-in-Err-clause-narrow
returns-in-Err-clause-narrow g c told =
    narrow_looked g.F.Files.told (g.F.Files.file c.args.files.now c.args.job.now.source) c.args.job.now c.attach_both.ensures.looked

pub returns-in-Err-clause-own : goal.returns-in-Err-clause-own
returns-in-Err-clause-own g c told =
    own_looked c.args.job.now c.attach_both.ensures.looked

pub returns-in-Ok-copy_all-clause-since : goal.returns-in-Ok-copy_all-clause-since
returns-in-Ok-copy_all-clause-since g c told =
    since_then g.F.Files.told (g.F.Files.file c.args.files.now c.args.job.now.source) c.args.job.now c.attach_both.ensures.looked (c.copy_all.ensures.since told)

pub returns-in-Ok-copy_all-clause-narrow : goal.returns-in-Ok-copy_all-clause-narrow
returns-in-Ok-copy_all-clause-narrow g c told =
    narrow_then g.F.Files.told (g.F.Files.file c.args.files.now c.args.job.now.source) c.args.job.now c.attach_both.ensures.looked (c.copy_all.ensures.narrow told)

pub returns-in-Ok-copy_all-clause-keeps : goal.returns-in-Ok-copy_all-clause-keeps
returns-in-Ok-copy_all-clause-keeps g c told =
    marks_then g.F.Files.told (g.F.Files.file c.args.files.now c.args.job.now.source) c.args.job.now c.attach_both.ensures.looked (c.copy_all.ensures.keeps told)

pub returns-in-Ok-copy_all-clause-own : goal.returns-in-Ok-copy_all-clause-own
returns-in-Ok-copy_all-clause-own g c told =
    own_then c.args.job.now c.attach_both.ensures.looked (c.copy_all.ensures.own told)

pub returns-in-Ok-copy_all-clause-outcome : goal.returns-in-Ok-copy_all-clause-outcome
returns-in-Ok-copy_all-clause-outcome g c told =
    outcome_then g.F.Files.told (g.F.Files.file c.args.files.now c.args.job.now.source) c.args.job.now (Ok c.in-Ok-copy_all.tally) c.attach_both.ensures.looked (c.in-Ok-copy_all.ensures.outcome told)

pub returns-in-Err-copy_all-clause-since : goal.returns-in-Err-copy_all-clause-since
returns-in-Err-copy_all-clause-since g c told =
    since_then g.F.Files.told (g.F.Files.file c.args.files.now c.args.job.now.source) c.args.job.now c.attach_both.ensures.looked (c.copy_all.ensures.since told)

pub returns-in-Err-copy_all-clause-narrow : goal.returns-in-Err-copy_all-clause-narrow
returns-in-Err-copy_all-clause-narrow g c told =
    narrow_then g.F.Files.told (g.F.Files.file c.args.files.now c.args.job.now.source) c.args.job.now c.attach_both.ensures.looked (c.copy_all.ensures.narrow told)

pub returns-in-Err-copy_all-clause-keeps : goal.returns-in-Err-copy_all-clause-keeps
returns-in-Err-copy_all-clause-keeps g c told =
    marks_then g.F.Files.told (g.F.Files.file c.args.files.now c.args.job.now.source) c.args.job.now c.attach_both.ensures.looked (c.copy_all.ensures.keeps told)

pub returns-in-Err-copy_all-clause-own : goal.returns-in-Err-copy_all-clause-own
returns-in-Err-copy_all-clause-own g c told =
    own_then c.args.job.now c.attach_both.ensures.looked (c.copy_all.ensures.own told)

pub returns-in-Err-copy_all-clause-outcome : goal.returns-in-Err-copy_all-clause-outcome
returns-in-Err-copy_all-clause-outcome g c told =
    outcome_then g.F.Files.told (g.F.Files.file c.args.files.now c.args.job.now.source) c.args.job.now (Err c.in-Err-copy_all.fault) c.attach_both.ensures.looked (c.in-Err-copy_all.ensures.outcome told)

pub returns-in-Err-copy_all-clause-caused : goal.returns-in-Err-copy_all-clause-caused
returns-in-Err-copy_all-clause-caused g c =
    run_caused g.B.Bench.told c.args.job.now (g.B.Bench.disk c.copy_all.new.bench) (g.F.Files.counts c.args.files.now) (g.F.Files.counts c.args.files.now) (g.F.Files.counts c.copy_all.new.files)
    (g.B.Bench.meter c.args.bench.now) (g.B.Bench.meter c.attach_both.new.bench) (g.B.Bench.meter c.copy_all.new.bench) (none_fell_yet (g.F.Files.counts c.args.files.now))
    c.attach_both.ensures.bill.target c.attach_both.ensures.bill.journal c.in-Err-copy_all.fault c.in-Err-copy_all.ensures.cause

pub returns-in-Err-clause-keeps : goal.returns-in-Err-clause-keeps
returns-in-Err-clause-keeps g c told =
    marks_looked g.F.Files.told (g.F.Files.file c.args.files.now c.args.job.now.source) c.args.job.now c.attach_both.ensures.looked

pub returns-in-Ok-copy_all-clause-opens : goal.returns-in-Ok-copy_all-clause-opens
returns-in-Ok-copy_all-clause-opens g c told =
    opens_then c.args.job.now (Ok c.in-Ok-copy_all.tally) c.attach_both.ensures.looked (c.in-Ok-copy_all.ensures.opens told)

pub returns-in-Ok-copy_all-clause-held : goal.returns-in-Ok-copy_all-clause-held
returns-in-Ok-copy_all-clause-held g c told =
    held_then c.args.job.now c.attach_both.ensures.looked (c.copy_all.ensures.held told)

pub returns-in-Err-copy_all-clause-opens : goal.returns-in-Err-copy_all-clause-opens
returns-in-Err-copy_all-clause-opens g c told =
    opens_then c.args.job.now (Err c.in-Err-copy_all.fault) c.attach_both.ensures.looked (c.in-Err-copy_all.ensures.opens told)

pub returns-in-Err-copy_all-clause-held : goal.returns-in-Err-copy_all-clause-held
returns-in-Err-copy_all-clause-held g c told =
    held_then c.args.job.now c.attach_both.ensures.looked (c.copy_all.ensures.held told)
