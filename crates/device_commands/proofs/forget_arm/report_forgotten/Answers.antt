use Rattle.std.proofs.Common.{refl}
use Rattle.answer_lines.specs.Lines.{forgotten_text}
use Rattle.answer_lines.specs.declared.answer.Report.TheVariants as report
use Rattle.job_answers.proofs.LineLemmas.{report_printed}
use Rattle.device_commands.proofs.CopyLemmas.{report_is_written}
use Rattle.device_commands.proofs.forget_arm.report_forgotten.Goals as goal

pub returns-clause-prints : goal.returns-clause-prints
returns-clause-prints g c =
    report_printed (report.Forgotten c.args.held) (forgotten_text c.args.held) _ _ _ _
    c.print_forgotten-printed.result c.reported.result refl c.reported.ensures
    c.print_forgotten-printed.ensures.printed c.print_forgotten-printed.ensures.err c.print_forgotten-printed.ensures.failed

pub returns-clause-answered : goal.returns-clause-answered
returns-clause-answered g c =
    λ h. report_is_written (report.Forgotten c.args.held) c.print_forgotten-printed.result c.reported.result c.reported.ensures h
