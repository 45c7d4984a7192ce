use Rattle.std.proofs.Common.{refl}
use Rattle.answer_lines.specs.Lines.{mapped_text}
use Rattle.answer_lines.specs.declared.answer.Report.TheVariants as report
use Rattle.job_answers.proofs.LineLemmas.{report_printed}
use Rattle.image_jobs.proofs.map_arm.report_mapped.Goals as goal

pub returns-clause-prints : goal.returns-clause-prints
returns-clause-prints g c =
    report_printed (report.Mapped c.args.mapped.ranges c.args.mapped.blocks) (mapped_text c.args.mapped.ranges c.args.mapped.blocks) _ _ _ _
    c.print_mapped-printed.result c.reported.result refl c.reported.ensures
    c.print_mapped-printed.ensures.printed c.print_mapped-printed.ensures.err c.print_mapped-printed.ensures.failed
