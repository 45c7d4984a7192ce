-- A run from its opening to its answer.
use Rattle.std.proofs.Common.{◌≡◌, ℕ, List, sym, subst, ◌∙◌, ap, arith, rules}
use Rattle.std.specs.Prelude.{Err, IfErr, Option, Result}
use Rattle.bench.proofs.MeterLemmas.{costs_so, costs_then}
use Rattle.bench.specs.Meter.{Costs}
use Rattle.bench.specs.declared.Dev.TheVariants.{Journal, Target}
use Rattle.region_pool.specs.Buffers.{Buffers, Held, free_of}
use Rattle.copy_opening.specs.Openings.{start_of}
use Rattle.copy_stages.specs.Stages.{KeepsOwn}
use Rattle.copier.specs.Beginnings.{BeginsIn}
use Rattle.copier.specs.Copiers.{CameAlong, Fits, IsSound}
use Rattle.copier.specs.Faults.{NoneIsLeft}
use Rattle.copier.specs.declared.faults.CopyFault.{CopyFault}
use Rattle.copier_course.specs.declared.jobs.CopyJob.{CopyJob}
use Rattle.copy_run.proofs.OpenLemmas.{open_answer, open_cause, open_cleared, open_outcome}
use Rattle.copy_run.proofs.OpenLemmas.{run_cause, run_keeps, run_narrow, run_opens, run_outcome, run_own, run_since, run_tally, run_unwritten, run_work, was_opened, window_same}
use Rattle.copy_run.proofs.PoolLemmas.{run_free}
use Rattle.copy_run.proofs.ReadLemmas.{open_read}
use Rattle.copy_run.specs.Faults.{IsRunFault}
use Rattle.copy_run.specs.Runs.{OpensFor, RunHasOutcome, RunIsDone, RunKeepsSince, TellsFile}
use Rattle.copy_run.specs.declared.running.Tally.{Tally}
use Rattle.copy_run.specs.Steps.{IsLastFault, StepsAreTallied, StepsHaveOutcome, StepsStayNear, most_steps}
use Rattle.copy_run.proofs.running.copy_all.Goals as goal

pub returns-in_err-copier-clause-since : goal.returns-in_err-copier-clause-since
returns-in_err-copier-clause-since g c told =
    let job = c.args.job.now in
    λ source before is. c.«open».ensures.since told job.map source before c.requires.job.of_map

pub returns-in_err-copier-clause-narrow : goal.returns-in_err-copier-clause-narrow
returns-in_err-copier-clause-narrow g c told =
    let job = c.args.job.now in
    λ s w is its settled. c.«open».ensures.narrow told job.map s w settled

pub returns-in_err-copier-clause-keeps : goal.returns-in_err-copier-clause-keeps
returns-in_err-copier-clause-keeps g c told =
    let job = c.args.job.now in
    λ s is target journal. c.«open».ensures.keeps told job.map s journal

pub returns-in_err-copier-clause-own : goal.returns-in_err-copier-clause-own
returns-in_err-copier-clause-own g c told =
    let a = g.B.Bench.disk c.args.bench.now in
    λ each. c.«open».ensures.own told (λ j leaves. each (a.reads Target) j (g.met.B.Bench.reads_leave told c.args.bench.now Target, leaves))

pub returns-in_err-copier-clause-opens : goal.returns-in_err-copier-clause-opens
returns-in_err-copier-clause-opens g c told =
    let job = c.args.job.now in
    let a = g.B.Bench.disk c.args.bench.now in
    let fault = c.in_err-copier.field-0.0 in
    let same : c.from_residual.result ≡ Err fault = search rules in
    let old = g.B.Bench.meter c.args.bench.now in
    let new = g.B.Bench.meter c.«open».new.bench in
    let cause = c.in_err-copier.ensures.cause in
    subst (λ (r : Result Tally CopyFault). OpensFor job (a.reads Target) (a.reads Journal) r) (sym same)
    (open_answer g.B.Bench.told job (a.reads Target) (a.reads Journal) old new fault told cause)

pub returns-in_err-copier-clause-outcome : goal.returns-in_err-copier-clause-outcome
returns-in_err-copier-clause-outcome g c told =
    let told_files = g.F.Files.told in
    let job = c.args.job.now in
    let file = g.F.Files.file c.args.files.now job.source in
    let a = g.B.Bench.disk c.args.bench.now in
    let fault = c.in_err-copier.field-0.0 in
    let same : c.from_residual.result ≡ Err fault = search rules in
    let old = g.B.Bench.meter c.args.bench.now in
    let new = g.B.Bench.meter c.«open».new.bench in
    let cause = c.in_err-copier.ensures.cause in
    subst (λ (r : Result Tally CopyFault). RunHasOutcome told_files file job a r) (sym same)
    (open_outcome g.B.Bench.told told_files file job (a.reads Target) (a.reads Journal) a old new fault cause)

pub returns-in_err-copier-clause-cleared : goal.returns-in_err-copier-clause-cleared
returns-in_err-copier-clause-cleared g c told =
    let job = c.args.job.now in
    let a = g.B.Bench.disk c.args.bench.now in
    let b = g.B.Bench.disk c.«open».new.bench in
    let fault = c.in_err-copier.field-0.0 in
    let same : c.from_residual.result ≡ Err fault = search rules in
    let old = g.B.Bench.meter c.args.bench.now in
    let new = g.B.Bench.meter c.«open».new.bench in
    let cause = c.in_err-copier.ensures.cause in
    subst (λ (r : Result Tally CopyFault). IfErr r (NoneIsLeft job b)) (sym same)
    (open_cleared g.B.Bench.told job (a.reads Target) (a.reads Journal) b old new fault cause)

pub returns-in_err-copier-clause-cause : goal.returns-in_err-copier-clause-cause
returns-in_err-copier-clause-cause g c =
    let job = c.args.job.now in
    let a = g.B.Bench.disk c.args.bench.now in
    let b = g.B.Bench.disk c.«open».new.bench in
    let fault = c.in_err-copier.field-0.0 in
    let same : c.from_residual.result ≡ Err fault = search rules in
    let old = g.B.Bench.meter c.args.bench.now in
    let new = g.B.Bench.meter c.«open».new.bench in
    let cause = c.in_err-copier.ensures.cause in
    let counts = g.F.Files.counts c.args.files.now in
    subst (λ (r : Result Tally CopyFault). IfErr r (IsRunFault g.B.Bench.told job b counts counts old new)) (sym same)
    (open_cause g.B.Bench.told job (a.reads Target) (a.reads Journal) b counts old new fault cause)

pub returns-in_err-copier-clause-bill : goal.returns-in_err-copier-clause-bill
returns-in_err-copier-clause-bill g c =
    costs_so c.«open».ensures.bill (omega arith)

pub returns-clause-since : goal.returns-clause-since
returns-clause-since g c told =
    let told_files = g.F.Files.told in
    let job = c.args.job.now in
    let file = g.F.Files.file c.args.files.now job.source in
    let a = g.B.Bench.disk c.args.bench.now in
    let b = g.B.Bench.disk c.«open».new.bench in
    let e = g.B.Bench.disk c.take_steps-answer.new.bench in
    let was = c.in_ok-copier.copier.progress in
    let begun = c.in_ok-copier.ensures.begins in
    let same = begun.of_job in
    let steps = c.take_steps-answer.ensures in
    run_since told_files file job was a b e c.requires.job (c.«open».ensures.since told)
    (subst (λ (j : CopyJob). RunKeepsSince told_files (g.F.Files.file c.args.files.now j.source) j b e) same (steps.since told))

pub returns-clause-narrow : goal.returns-clause-narrow
returns-clause-narrow g c told =
    let told_files = g.F.Files.told in
    let job = c.args.job.now in
    let file = g.F.Files.file c.args.files.now job.source in
    let a = g.B.Bench.disk c.args.bench.now in
    let b = g.B.Bench.disk c.«open».new.bench in
    let e = g.B.Bench.disk c.take_steps-answer.new.bench in
    let was = c.in_ok-copier.copier.progress in
    let begun = c.in_ok-copier.ensures.begins in
    let same = begun.of_job in
    let steps = c.take_steps-answer.ensures in
    let begins : BeginsIn job was = begun.begins in
    let fits : Fits job was b = subst (λ (j : CopyJob). Fits j was b) same (c.in_ok-copier.ensures.fits told) in
    let again = c.«open».ensures.again told in
    let along : (source : Option (List ℕ)) → CameAlong job was source (start_of a) b = λ source.
    subst (λ (j : CopyJob). CameAlong j was source (start_of a) b) same (c.in_ok-copier.ensures.along told source) in
    let near : StepsStayNear told_files file job was b e =
    subst (λ (j : CopyJob). StepsStayNear told_files (g.F.Files.file c.args.files.now j.source) j was b e) same (steps.near told) in
    run_narrow told_files file job was a b e c.requires.job (c.«open».ensures.narrow told) along (window_same job was a b begins fits again) near

pub returns-clause-keeps : goal.returns-clause-keeps
returns-clause-keeps g c told =
    let told_files = g.F.Files.told in
    let job = c.args.job.now in
    let file = g.F.Files.file c.args.files.now job.source in
    let a = g.B.Bench.disk c.args.bench.now in
    let b = g.B.Bench.disk c.«open».new.bench in
    let e = g.B.Bench.disk c.take_steps-answer.new.bench in
    let was = c.in_ok-copier.copier.progress in
    let begun = c.in_ok-copier.ensures.begins in
    let same = begun.of_job in
    let steps = c.take_steps-answer.ensures in
    let along : (source : Option (List ℕ)) → CameAlong job was source (start_of a) b = λ source.
    subst (λ (j : CopyJob). CameAlong j was source (start_of a) b) same (c.in_ok-copier.ensures.along told source) in
    let near : StepsStayNear told_files file job was b e =
    subst (λ (j : CopyJob). StepsStayNear told_files (g.F.Files.file c.args.files.now j.source) j was b e) same (steps.near told) in
    run_keeps told_files file job was a b e c.requires.job (c.«open».ensures.keeps told) along near

pub returns-clause-own : goal.returns-clause-own
returns-clause-own g c told =
    let told_files = g.F.Files.told in
    let job = c.args.job.now in
    let file = g.F.Files.file c.args.files.now job.source in
    let a = g.B.Bench.disk c.args.bench.now in
    let b = g.B.Bench.disk c.«open».new.bench in
    let e = g.B.Bench.disk c.take_steps-answer.new.bench in
    let was = c.in_ok-copier.copier.progress in
    let begun = c.in_ok-copier.ensures.begins in
    let same = begun.of_job in
    let steps = c.take_steps-answer.ensures in
    run_own told_files file job was a b e c.requires.job (g.met.B.Bench.reads_leave told c.args.bench.now Target) (c.«open».ensures.own told)
    (subst (λ (j : CopyJob). KeepsOwn j.id b e) same (steps.own told))

pub returns-clause-opens : goal.returns-clause-opens
returns-clause-opens g c told =
    let job = c.args.job.now in
    let a = g.B.Bench.disk c.args.bench.now in
    let b = g.B.Bench.disk c.«open».new.bench in
    let e = g.B.Bench.disk c.take_steps-answer.new.bench in
    let was = c.in_ok-copier.copier.progress in
    let begun = c.in_ok-copier.ensures.begins in
    let same = begun.of_job in
    let answer = c.take_steps-answer.result in
    let steps = c.take_steps-answer.ensures in
    let begins : BeginsIn job was = begun.begins in
    let fits : Fits job was b = subst (λ (j : CopyJob). Fits j was b) same (c.in_ok-copier.ensures.fits told) in
    let again = c.«open».ensures.again told in
    let before = g.F.Files.counts c.args.files.now in
    let after = g.F.Files.counts c.take_steps-answer.new.files in
    let mid = g.B.Bench.meter c.«open».new.bench in
    let new = g.B.Bench.meter c.take_steps-answer.new.bench in
    let cause : IfErr answer (IsLastFault g.B.Bench.told job e before after mid new) =
    subst (λ (j : CopyJob). IfErr answer (IsLastFault g.B.Bench.told j e before after mid new)) same steps.cause in
    run_opens g.B.Bench.told job e before after mid new (a.reads Target) (a.reads Journal) answer
    (was_opened job was a b begins fits again (c.in_ok-copier.ensures.room told) (λ mode. c.in_ok-copier.ensures.new told mode)) cause

pub returns-clause-done : goal.returns-clause-done
returns-clause-done g c told =
    let e = g.B.Bench.disk c.take_steps-answer.new.bench in
    let begun = c.in_ok-copier.ensures.begins in
    let same = begun.of_job in
    let answer = c.take_steps-answer.result in
    let steps = c.take_steps-answer.ensures in
    subst (λ (j : CopyJob). RunIsDone j e answer) same (steps.done told)

pub returns-clause-tally : goal.returns-clause-tally
returns-clause-tally g c told =
    let job = c.args.job.now in
    let a = g.B.Bench.disk c.args.bench.now in
    let b = g.B.Bench.disk c.«open».new.bench in
    let was = c.in_ok-copier.copier.progress in
    let begun = c.in_ok-copier.ensures.begins in
    let same = begun.of_job in
    let answer = c.take_steps-answer.result in
    let steps = c.take_steps-answer.ensures in
    let begins : BeginsIn job was = begun.begins in
    let fits : Fits job was b = subst (λ (j : CopyJob). Fits j was b) same (c.in_ok-copier.ensures.fits told) in
    let again = c.«open».ensures.again told in
    let along : (source : Option (List ℕ)) → CameAlong job was source (start_of a) b = λ source.
    subst (λ (j : CopyJob). CameAlong j was source (start_of a) b) same (c.in_ok-copier.ensures.along told source) in
    let sound : IsSound job was = subst (λ (j : CopyJob). IsSound j was) same c.in_ok-copier.ensures.sound in
    run_tally job was a b answer c.runs_are_tallied.ensures.opened begins sound fits again (λ mode. c.in_ok-copier.ensures.new told mode) along
    (subst (λ (j : CopyJob). StepsAreTallied j was b answer) same (steps.tally told))

pub returns-clause-outcome : goal.returns-clause-outcome
returns-clause-outcome g c told =
    let told_files = g.F.Files.told in
    let job = c.args.job.now in
    let file = g.F.Files.file c.args.files.now job.source in
    let a = g.B.Bench.disk c.args.bench.now in
    let b = g.B.Bench.disk c.«open».new.bench in
    let e = g.B.Bench.disk c.take_steps-answer.new.bench in
    let was = c.in_ok-copier.copier.progress in
    let begun = c.in_ok-copier.ensures.begins in
    let same = begun.of_job in
    let answer = c.take_steps-answer.result in
    let steps = c.take_steps-answer.ensures in
    let along : (source : Option (List ℕ)) → CameAlong job was source (start_of a) b = λ source.
    subst (λ (j : CopyJob). CameAlong j was source (start_of a) b) same (c.in_ok-copier.ensures.along told source) in
    run_outcome told_files file job was a b e c.requires.job answer (c.«open».ensures.since told) along
    (subst (λ (j : CopyJob). StepsHaveOutcome told_files (g.F.Files.file c.args.files.now j.source) j was b answer) same (steps.outcome told))

pub returns-clause-cleared : goal.returns-clause-cleared
returns-clause-cleared g c told =
    let e = g.B.Bench.disk c.take_steps-answer.new.bench in
    let begun = c.in_ok-copier.ensures.begins in
    let same = begun.of_job in
    let answer = c.take_steps-answer.result in
    let steps = c.take_steps-answer.ensures in
    subst (λ (j : CopyJob). IfErr answer (NoneIsLeft j e)) same (steps.cleared told)

pub returns-clause-unwritten : goal.returns-clause-unwritten
returns-clause-unwritten g c told =
    let job = c.args.job.now in
    let a = g.B.Bench.disk c.args.bench.now in
    let e = g.B.Bench.disk c.take_steps-answer.new.bench in
    let begun = c.in_ok-copier.ensures.begins in
    let same = begun.of_job in
    let answer = c.take_steps-answer.result in
    let steps = c.take_steps-answer.ensures in
    let before = g.F.Files.counts c.args.files.now in
    let after = g.F.Files.counts c.take_steps-answer.new.files in
    let mid = g.B.Bench.meter c.«open».new.bench in
    let new = g.B.Bench.meter c.take_steps-answer.new.bench in
    let cause : IfErr answer (IsLastFault g.B.Bench.told job e before after mid new) =
    subst (λ (j : CopyJob). IfErr answer (IsLastFault g.B.Bench.told j e before after mid new)) same steps.cause in
    run_unwritten g.B.Bench.told job e before after mid new a e answer cause

pub returns-clause-held : goal.returns-clause-held
returns-clause-held g c told mode held =
    absurd (c.in_ok-copier.ensures.new told mode held)

pub returns-clause-cause : goal.returns-clause-cause
returns-clause-cause g c =
    let job = c.args.job.now in
    let e = g.B.Bench.disk c.take_steps-answer.new.bench in
    let begun = c.in_ok-copier.ensures.begins in
    let same = begun.of_job in
    let answer = c.take_steps-answer.result in
    let steps = c.take_steps-answer.ensures in
    let before = g.F.Files.counts c.args.files.now in
    let after = g.F.Files.counts c.take_steps-answer.new.files in
    let old = g.B.Bench.meter c.args.bench.now in
    let mid = g.B.Bench.meter c.«open».new.bench in
    let new = g.B.Bench.meter c.take_steps-answer.new.bench in
    let cause : IfErr answer (IsLastFault g.B.Bench.told job e before after mid new) =
    subst (λ (j : CopyJob). IfErr answer (IsLastFault g.B.Bench.told j e before after mid new)) same steps.cause in
    run_cause g.B.Bench.told job e before after mid new _ old answer c.«open».ensures.bill cause

pub returns-clause-bill : goal.returns-clause-bill
returns-clause-bill g c =
    let job = c.args.job.now in
    let begun = c.in_ok-copier.ensures.begins in
    let same = begun.of_job in
    let steps = c.take_steps-answer.ensures in
    let old = g.B.Bench.meter c.«open».new.bench in
    let new = g.B.Bench.meter c.take_steps-answer.new.bench in
    let more : Costs (most_steps job) old new = subst (λ (j : CopyJob). Costs (most_steps j) old new) same steps.bill in
    costs_so (costs_then c.«open».ensures.bill more) (run_work job c.units_are_mapped.ensures c.requires.job)

pub returns-clause-free : goal.returns-clause-free
returns-clause-free g c =
    let copier = c.in_ok-copier.copier in
    ap (λ (p : Buffers). free_of p) c.close.ensures ∙
    run_free copier c.take_steps-answer.new.copier.lease.slot c.args.pool.now c.«open».new.pool c.take_steps-answer.new.pool
    c.in_ok-copier.ensures.pool c.take_steps-answer.ensures.pool (ap (λ (l : Held). l.slot) c.take_steps-answer.ensures.lease)

pub returns-in_err-copier-clause-read : goal.returns-in_err-copier-clause-read
returns-in_err-copier-clause-read g c told =
    let fault = c.in_err-copier.field-0.0 in
    let same : c.from_residual.result ≡ Err fault = search rules in
    let job = c.args.job.now in
    let file = g.F.Files.file c.args.files.now job.source in
    let a = g.B.Bench.disk c.args.bench.now in
    subst (λ (r : Result Tally CopyFault). TellsFile file r) (sym same)
    (open_read g.B.Bench.told file job (a.reads Target) (a.reads Journal) (g.B.Bench.meter c.args.bench.now) (g.B.Bench.meter c.«open».new.bench)
    fault c.in_err-copier.ensures.cause)

pub returns-clause-read : goal.returns-clause-read
returns-clause-read g c told =
    subst (λ (j : CopyJob). TellsFile (g.F.Files.file c.args.files.now j.source) c.take_steps-answer.result) c.in_ok-copier.ensures.begins.of_job
    (c.take_steps-answer.ensures.read told)
