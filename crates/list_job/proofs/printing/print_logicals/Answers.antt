use Rattle.std.proofs.Common.{◌≡◌, Err, rules}
use Rattle.list_job.specs.Printed.{partition_lines}
use Rattle.list_job.proofs.TurnLemmas.{turn_ends, turn_more}
use Rattle.list_job.proofs.printing.print_logicals.Goals as goal

pub returns-in_err-print_logical-clause-prints : goal.returns-in_err-print_logical-clause-prints
returns-in_err-print_logical-clause-prints g c =
    let same : c.from_residual.result ≡ Err c.in_err-print_logical.field-0.0 = search rules in
    rw same (turn_ends partition_lines _ c.loop-place.place _ c.args.logical.now _ _ _ _ _ _ _ _ _ (search rules) (search rules)
    c.loop-place.invariant c.in_err-print_logical.ensures.prints)

pub loop-place-preserved : goal.loop-place-preserved
loop-place-preserved g c =
    turn_more partition_lines _ c.loop-place.place _ c.args.logical.now _ _ _ _ _ _ _ _ _ (search rules) (search rules)
    c.loop-place.invariant c.in_ok-print_logical.ensures.prints
