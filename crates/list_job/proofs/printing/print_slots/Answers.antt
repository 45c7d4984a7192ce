use Rattle.std.proofs.Common.{◌≡◌, Err, rules}
use Rattle.list_job.specs.Printed.{slot_lines}
use Rattle.list_job.proofs.TurnLemmas.{turn_ends, turn_more}
use Rattle.list_job.proofs.printing.print_slots.Goals as goal

pub returns-in_err-print_slot-clause-prints : goal.returns-in_err-print_slot-clause-prints
returns-in_err-print_slot-clause-prints g c =
    let same : c.from_residual.result ≡ Err c.in_err-print_slot.field-0.0 = search rules in
    rw same (turn_ends slot_lines _ c.loop-place.place _ c.args.slots.now _ _ _ _ _ _ _ _ _ (search rules) (search rules)
    c.loop-place.invariant c.in_err-print_slot.ensures.prints)

pub loop-place-preserved : goal.loop-place-preserved
loop-place-preserved g c =
    turn_more slot_lines _ c.loop-place.place _ c.args.slots.now _ _ _ _ _ _ _ _ _ (search rules) (search rules)
    c.loop-place.invariant c.in_ok-print_slot.ensures.prints
