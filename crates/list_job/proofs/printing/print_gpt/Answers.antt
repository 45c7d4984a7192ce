use Rattle.std.proofs.Common.{◌≡◌, ◌∙◌, [], ◌∷◌, Err, ap, rules}
use Rattle.table_lines.specs.Lines.{gpt_text}
use Rattle.list_job.specs.Printed.{entry_lines}
use Rattle.list_job.proofs.TurnLemmas.{turn_same, turn_then}
use Rattle.list_job.proofs.printing.print_gpt.Goals as goal

pub returns-in_err-print_entries-clause-prints : goal.returns-in_err-print_entries-clause-prints
returns-in_err-print_entries-clause-prints g c =
    let same : c.from_residual-in_err-print_entries.result ≡ Err c.in_err-print_entries.field-0.0 = search rules in
    let lines : entry_lines c.as_slice.result.now c.as_slice-2.result.now ≡ entry_lines c.in-Some.gpt.slots c.in-Some.gpt.entries =
    ap (λ slots. entry_lines slots c.as_slice-2.result.now) c.as_slice.ensures
    ∙ ap (entry_lines c.in-Some.gpt.slots) c.as_slice-2.ensures in
    rw (same, c.in-Some.is) (turn_then (gpt_text c.in-Some.gpt c.args.sector ∷ []) _ _ _ _ _ _ _ _ _ c.in_ok-print_disk.ensures.prints
    (turn_same _ _ _ _ _ _ _ lines c.in_err-print_entries.ensures.prints))
