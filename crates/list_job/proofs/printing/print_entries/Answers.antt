use Rattle.std.proofs.Common.{◌≡◌, Err, rules}
use Rattle.list_job.proofs.LineLemmas.{entries_all}
use Rattle.list_job.proofs.TurnLemmas.{entry_turn_ends, entry_turn_more, turn_same}
use Rattle.list_job.proofs.printing.print_entries.Goals as goal

pub returns-in_err-print_entry-clause-prints : goal.returns-in_err-print_entry-clause-prints
returns-in_err-print_entry-clause-prints g c =
    let same : c.from_residual.result ≡ Err c.in_err-print_entry.field-0.0 = search rules in
    rw same (entry_turn_ends c.args.slots.now c.args.entries.now c.loop-place.place _ _ _ _ _ _ _ _ _ (search rules)
    c.requires c.loop-place.invariant c.in_err-print_entry.ensures.prints)

pub loop-place-preserved : goal.loop-place-preserved
loop-place-preserved g c =
    entry_turn_more c.args.slots.now c.args.entries.now c.loop-place.place _ _ _ _ _ _ _ _ _ (search rules) c.requires
    c.loop-place.invariant c.in_ok-print_entry.ensures.prints

pub returns-clause-prints : goal.returns-clause-prints
returns-clause-prints g c =
    turn_same _ _ _ _ _ _ _ (entries_all c.args.slots.now c.args.entries.now c.loop-place.place (search rules) c.requires)
    c.loop-place.invariant
