use Rattle.std.proofs.Common.{rules}
use Rattle.std.specs.Prelude.{IfErr}
use Rattle.answer_lines.specs.declared.answer.Report.TheVariants as report
use Rattle.bench.specs.declared.Dev.TheVariants.{Journal, Target}
use Rattle.copier.specs.Faults.{NoneIsLeft}
use Rattle.copy_job.specs.Said.{copying_said}
use Rattle.copy_run.specs.Faults.{IsRunFault}
use Rattle.copy_run.specs.Runs.{OpensFor, RunHasOutcome, RunIsDone, RunIsTallied}
use Rattle.job_answers.proofs.LineLemmas.{answer_line}
use Rattle.device_commands.proofs.CopyLemmas.{copy_completes, copy_refused, done_completes, done_says, done_tells}
use Rattle.device_commands.proofs.CopyLemmas.{fault_unwritten, refused_tells, report_is_written, unsaid_is_before, unsaid_isnt_done}
use Rattle.device_commands.proofs.copy_arm.run_copy.Goals as goal

pub returns-in-Ok-clause-answers : goal.returns-in-Ok-clause-answers
returns-in-Ok-clause-answers g c = λ told.
    done_says (copying_said (g.F.Files.file c.args.files.now) c.args.request) c.args.request c.in-Ok.tally
    c.report_copied.ensures.is.0 c.report_copied.result c.report_copied.ensures.is.1 (c.in-Ok.ensures.said told)

pub returns-in-Err-clause-answers : goal.returns-in-Err-clause-answers
returns-in-Err-clause-answers g c = λ told.
    rw (c.refuse.ensures.answer, c.answer_of_copy.ensures.answer)
    (copy_refused (g.F.Files.file c.args.files.now) c.args.request c.in-Err.fault (c.in-Err.ensures.said told) (c.in-Err.ensures.read told))

pub returns-in-Ok-clause-complete : goal.returns-in-Ok-clause-complete
returns-in-Ok-clause-complete g c = λ told steady printed target journal.
    done_completes (copying_said (g.F.Files.file c.args.files.now) c.args.request) c.args.request c.in-Ok.tally
    c.report_copied.ensures.is.0 c.report_copied.result _ _ c.report_copied.ensures.is.1 c.report_copied.ensures.answer printed
    (c.in-Ok.ensures.said told)

pub returns-in-Err-clause-complete : goal.returns-in-Err-clause-complete
returns-in-Err-clause-complete g c = λ told steady printed target journal.
    rw (c.refuse.ensures.answer, c.answer_of_copy.ensures.answer)
    (copy_completes (g.F.Files.file c.args.files.now) c.args.request (g.F.Files.counts c.args.files.now) (g.F.Files.counts c.copy_target.new.files)
    (g.B.Bench.meter c.args.bench.now) (g.B.Bench.meter c.copy_target.new.bench) c.in-Err.fault (c.in-Err.ensures.said told)
    (c.in-Err.ensures.read told) c.in-Err.ensures.cause steady target journal)

pub returns-in-Ok-clause-opened : goal.returns-in-Ok-clause-opened
returns-in-Ok-clause-opened g c = λ told known.
    done_tells (copying_said (g.F.Files.file c.args.files.now) c.args.request) (λ job. OpensFor job ((g.B.Bench.disk c.args.bench.now).reads Target) ((g.B.Bench.disk c.args.bench.now).reads Journal)) c.in-Ok.tally
    c.report_copied.ensures.is.0 c.report_copied.result c.report_copied.ensures.is.1 (c.in-Ok.ensures.opens told known)

pub returns-in-Err-clause-opened : goal.returns-in-Err-clause-opened
returns-in-Err-clause-opened g c = λ told known.
    rw (c.refuse.ensures.answer, c.answer_of_copy.ensures.answer)
    (refused_tells (copying_said (g.F.Files.file c.args.files.now) c.args.request) (λ job. OpensFor job ((g.B.Bench.disk c.args.bench.now).reads Target) ((g.B.Bench.disk c.args.bench.now).reads Journal)) c.args.request c.in-Err.fault
    (c.in-Err.ensures.said told) (c.in-Err.ensures.opens told known))

pub returns-in-Ok-clause-copied : goal.returns-in-Ok-clause-copied
returns-in-Ok-clause-copied g c = λ told known.
    done_tells (copying_said (g.F.Files.file c.args.files.now) c.args.request) (λ job. RunIsDone job (g.B.Bench.disk c.copy_target.new.bench)) c.in-Ok.tally
    c.report_copied.ensures.is.0 c.report_copied.result c.report_copied.ensures.is.1 (c.in-Ok.ensures.done told known)

pub returns-in-Err-clause-copied : goal.returns-in-Err-clause-copied
returns-in-Err-clause-copied g c = λ told known.
    rw (c.refuse.ensures.answer, c.answer_of_copy.ensures.answer)
    (refused_tells (copying_said (g.F.Files.file c.args.files.now) c.args.request) (λ job. RunIsDone job (g.B.Bench.disk c.copy_target.new.bench)) c.args.request c.in-Err.fault
    (c.in-Err.ensures.said told) (c.in-Err.ensures.done told known))

pub returns-in-Ok-clause-tallied : goal.returns-in-Ok-clause-tallied
returns-in-Ok-clause-tallied g c = λ told known.
    done_tells (copying_said (g.F.Files.file c.args.files.now) c.args.request) (λ job. RunIsTallied job (g.B.Bench.disk c.args.bench.now)) c.in-Ok.tally
    c.report_copied.ensures.is.0 c.report_copied.result c.report_copied.ensures.is.1 (c.in-Ok.ensures.tally told known)

pub returns-in-Err-clause-tallied : goal.returns-in-Err-clause-tallied
returns-in-Err-clause-tallied g c = λ told known.
    rw (c.refuse.ensures.answer, c.answer_of_copy.ensures.answer)
    (refused_tells (copying_said (g.F.Files.file c.args.files.now) c.args.request) (λ job. RunIsTallied job (g.B.Bench.disk c.args.bench.now)) c.args.request c.in-Err.fault
    (c.in-Err.ensures.said told) (c.in-Err.ensures.tally told known))

pub returns-in-Ok-clause-outcome : goal.returns-in-Ok-clause-outcome
returns-in-Ok-clause-outcome g c = λ told known.
    done_tells (copying_said (g.F.Files.file c.args.files.now) c.args.request) (λ job. RunHasOutcome g.F.Files.told (g.F.Files.file c.args.files.now job.source) job (g.B.Bench.disk c.args.bench.now)) c.in-Ok.tally
    c.report_copied.ensures.is.0 c.report_copied.result c.report_copied.ensures.is.1 (c.in-Ok.ensures.outcome told known)

pub returns-in-Err-clause-outcome : goal.returns-in-Err-clause-outcome
returns-in-Err-clause-outcome g c = λ told known.
    rw (c.refuse.ensures.answer, c.answer_of_copy.ensures.answer)
    (refused_tells (copying_said (g.F.Files.file c.args.files.now) c.args.request) (λ job. RunHasOutcome g.F.Files.told (g.F.Files.file c.args.files.now job.source) job (g.B.Bench.disk c.args.bench.now)) c.args.request c.in-Err.fault
    (c.in-Err.ensures.said told) (c.in-Err.ensures.outcome told known))

pub returns-in-Ok-clause-cleared : goal.returns-in-Ok-clause-cleared
returns-in-Ok-clause-cleared g c = λ told known.
    done_tells (copying_said (g.F.Files.file c.args.files.now) c.args.request) (λ job end. IfErr end (NoneIsLeft job (g.B.Bench.disk c.copy_target.new.bench))) c.in-Ok.tally
    c.report_copied.ensures.is.0 c.report_copied.result c.report_copied.ensures.is.1 (c.in-Ok.ensures.cleared told known)

pub returns-in-Err-clause-cleared : goal.returns-in-Err-clause-cleared
returns-in-Err-clause-cleared g c = λ told known.
    rw (c.refuse.ensures.answer, c.answer_of_copy.ensures.answer)
    (refused_tells (copying_said (g.F.Files.file c.args.files.now) c.args.request) (λ job end. IfErr end (NoneIsLeft job (g.B.Bench.disk c.copy_target.new.bench))) c.args.request c.in-Err.fault
    (c.in-Err.ensures.said told) (c.in-Err.ensures.cleared told known))

pub returns-in-Ok-clause-caused : goal.returns-in-Ok-clause-caused
returns-in-Ok-clause-caused g c = λ told.
    done_tells (copying_said (g.F.Files.file c.args.files.now) c.args.request) (λ job end. IfErr end (IsRunFault g.B.Bench.told job (g.B.Bench.disk c.copy_target.new.bench) (g.F.Files.counts c.args.files.now) (g.F.Files.counts c.copy_target.new.files) (g.B.Bench.meter c.args.bench.now) (g.B.Bench.meter c.copy_target.new.bench))) c.in-Ok.tally
    c.report_copied.ensures.is.0 c.report_copied.result c.report_copied.ensures.is.1 (c.in-Ok.ensures.caused told)

pub returns-in-Err-clause-caused : goal.returns-in-Err-clause-caused
returns-in-Err-clause-caused g c = λ told.
    rw (c.refuse.ensures.answer, c.answer_of_copy.ensures.answer)
    (refused_tells (copying_said (g.F.Files.file c.args.files.now) c.args.request) (λ job end. IfErr end (IsRunFault g.B.Bench.told job (g.B.Bench.disk c.copy_target.new.bench) (g.F.Files.counts c.args.files.now) (g.F.Files.counts c.copy_target.new.files) (g.B.Bench.meter c.args.bench.now) (g.B.Bench.meter c.copy_target.new.bench))) c.args.request c.in-Err.fault
    (c.in-Err.ensures.said told) (c.in-Err.ensures.caused told))

pub returns-in-Ok-clause-unwritten : goal.returns-in-Ok-clause-unwritten
returns-in-Ok-clause-unwritten g c = λ known unwritten.
    absurd (report_is_written (report.Copied c.in-Ok.tally.units c.in-Ok.tally.written c.in-Ok.tally.kept) c.report_copied.ensures.is.0 c.report_copied.result c.report_copied.ensures.is.1 unwritten)

pub returns-in-Err-clause-unwritten : goal.returns-in-Err-clause-unwritten
returns-in-Err-clause-unwritten g c =
    rw (c.refuse.ensures.answer, c.answer_of_copy.ensures.answer)
    (λ known unwritten. c.in-Err.ensures.unwritten known (fault_unwritten c.args.request c.in-Err.fault unwritten))

pub returns-in-Ok-clause-before : goal.returns-in-Ok-clause-before
returns-in-Ok-clause-before g c = λ told.
    unsaid_isnt_done _ (copying_said (g.F.Files.file c.args.files.now) c.args.request) (c.in-Ok.ensures.said told)

pub returns-in-Err-clause-before : goal.returns-in-Err-clause-before
returns-in-Err-clause-before g c = λ told.
    unsaid_is_before (copying_said (g.F.Files.file c.args.files.now) c.args.request) c.in-Err.fault (c.in-Err.ensures.said told)
    c.in-Err.ensures.before

pub returns-in-Ok-clause-stays : goal.returns-in-Ok-clause-stays
returns-in-Ok-clause-stays g c = λ told.
    unsaid_isnt_done _ (copying_said (g.F.Files.file c.args.files.now) c.args.request) (c.in-Ok.ensures.said told)

pub returns-in-Err-clause-stays : goal.returns-in-Err-clause-stays
returns-in-Err-clause-stays g c = λ told.
    unsaid_is_before (copying_said (g.F.Files.file c.args.files.now) c.args.request) c.in-Err.fault (c.in-Err.ensures.said told)
    c.in-Err.ensures.stays

pub returns-in-Err-clause-prints : goal.returns-in-Err-clause-prints
returns-in-Err-clause-prints g c = rw (answer_line c.refuse.result c.refuse.ensures.refusal) (search rules)
