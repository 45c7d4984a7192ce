use Rattle.job_stages.proofs.PrintingLemmas.{one_printed}
use Rattle.device_commands.proofs.verify_arm.report_verified.Goals as goal

pub returns-clause-prints : goal.returns-clause-prints
returns-clause-prints g c =
    one_printed _ _ _ _ _ c.print_verified-printed.result c.print_verified-printed.ensures.printed c.print_verified-printed.ensures.err
    c.print_verified-printed.ensures.failed
