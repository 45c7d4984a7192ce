use Rattle.std.proofs.Common.{refl}
use Rattle.answer_lines.specs.Lines.{copied_text}
use Rattle.answer_lines.specs.declared.answer.Report.TheVariants as report
use Rattle.job_answers.proofs.LineLemmas.{report_printed}
use Rattle.device_commands.proofs.copy_arm.report_copied.Goals as goal

pub returns-clause-prints : goal.returns-clause-prints
returns-clause-prints g c =
    report_printed (report.Copied c.args.tally.units c.args.tally.written c.args.tally.kept)
    (copied_text c.args.tally.units c.args.tally.written c.args.tally.kept) _ _ _ _
    c.print_copied-printed.result c.reported.result refl c.reported.ensures
    c.print_copied-printed.ensures.printed c.print_copied-printed.ensures.err c.print_copied-printed.ensures.failed
