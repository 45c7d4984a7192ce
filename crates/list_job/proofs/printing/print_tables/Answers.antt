use Rattle.std.proofs.Common.{◌≡◌, [], ◌∷◌, ◌++◌, Err, ap, rules}
use Rattle.table_lines.specs.Lines.{table_text}
use Rattle.list_job.specs.Printed.{gpt_lines, logical_lines, primary_lines}
use Rattle.list_job.proofs.TurnLemmas.{turn_same, turn_stop, turn_then}
use Rattle.list_job.proofs.printing.print_tables.Goals as goal

pub returns-in_err-print_slots-clause-prints : goal.returns-in_err-print_slots-clause-prints
returns-in_err-print_slots-clause-prints g c =
    let tables = c.args.tables.now in
    let same : c.from_residual-in_err-print_slots.result ≡ Err c.in_err-print_slots.field-0.0 = search rules in
    rw same (turn_then (table_text tables ∷ []) _ _ _ _ _ _ _ _ _ c.in_ok-print_kind.ensures.prints
    (turn_stop (primary_lines tables.slots) (logical_lines tables.logical ++ gpt_lines tables.gpt tables.sector) _ _ _ _ _
    c.in_err-print_slots.ensures.prints))

pub returns-in_err-print_logicals-clause-prints : goal.returns-in_err-print_logicals-clause-prints
returns-in_err-print_logicals-clause-prints g c =
    let tables = c.args.tables.now in
    let same : c.from_residual-in_err-print_logicals.result ≡ Err c.in_err-print_logicals.field-0.0 = search rules in
    rw same (turn_then (table_text tables ∷ []) _ _ _ _ _ _ _ _ _ c.in_ok-print_kind.ensures.prints
    (turn_then (primary_lines tables.slots) _ _ _ _ _ _ _ _ _ c.in_ok-print_slots.ensures.prints
    (turn_stop (logical_lines tables.logical) (gpt_lines tables.gpt tables.sector) _ _ _ _ _
    (turn_same _ _ _ _ _ _ _ (ap logical_lines c.as_slice.ensures) c.in_err-print_logicals.ensures.prints))))

pub returns-in_err-print_gpt-clause-prints : goal.returns-in_err-print_gpt-clause-prints
returns-in_err-print_gpt-clause-prints g c =
    let tables = c.args.tables.now in
    let same : c.from_residual-in_err-print_gpt.result ≡ Err c.in_err-print_gpt.field-0.0 = search rules in
    rw same (turn_then (table_text tables ∷ []) _ _ _ _ _ _ _ _ _ c.in_ok-print_kind.ensures.prints
    (turn_then (primary_lines tables.slots) _ _ _ _ _ _ _ _ _ c.in_ok-print_slots.ensures.prints
    (turn_then (logical_lines tables.logical) (gpt_lines tables.gpt tables.sector) _ _ _ _ _ _ _ _
    (turn_same _ _ _ _ _ _ _ (ap logical_lines c.as_slice.ensures) c.in_ok-print_logicals.ensures.prints)
    c.in_err-print_gpt.ensures.prints)))

pub returns-clause-prints : goal.returns-clause-prints
returns-clause-prints g c =
    let tables = c.args.tables.now in
    turn_then (table_text tables ∷ []) _ _ _ _ _ _ _ _ _ c.in_ok-print_kind.ensures.prints
    (turn_then (primary_lines tables.slots) _ _ _ _ _ _ _ _ _ c.in_ok-print_slots.ensures.prints
    (turn_then (logical_lines tables.logical) (gpt_lines tables.gpt tables.sector) _ _ _ _ _ _ _ _
    (turn_same _ _ _ _ _ _ _ (ap logical_lines c.as_slice.ensures) c.in_ok-print_logicals.ensures.prints)
    c.in_ok-print_gpt.ensures.prints))
