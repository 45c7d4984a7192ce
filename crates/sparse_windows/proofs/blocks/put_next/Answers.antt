use Rattle.std.proofs.Common.{◌≡◌, ℕ, ◌+◌, ◌-◌, ◌*◌, ◌<◌, ◌≤◌, List, take, drop, ap, subst, sym, ◌∙◌, arith}
use Rattle.sparse_text.specs.Blocks.{HasForm, padded}
use Rattle.sparse_text.specs.declared.runs.Run.{Run}
use Rattle.sparse_windows.proofs.Parts.{blocks_in, run_alike}
use Rattle.sparse_windows.proofs.blocks.put_next.Goals as goal

pub returns-clause-written : goal.returns-clause-written
returns-clause-written g c told image cover met is old =
    let block = c.args.block in
    let window = c.args.window.now in
    let skipped = c.done-done.result - c.args.first in
    let found = c.first_run-content.result in
    let r : Run = record { first = c.done-done.result; count = found.1; content = found.0 } in
    let done = c.done-done.ensures in
    let low = c.requires.begins.0 in
    let high = c.requires.begins.1 in
    let few = c.first_run-content.ensures.within in
    let begins : c.done-done.result ≡ c.args.first + skipped = omega (arith, done, low) in
    let within : skipped + found.1 ≤ c.args.count = omega (arith, done, low, high, few) in
    let exact = c.blocks_from-rest.ensures.exact in
    let forms = λ (i : ℕ) (below : i < found.1). subst (λ (xs : List ℕ). HasForm (take block (drop (i * block) xs)) found.0) exact (c.first_run-content.ensures.alike i below) in
    let alike = run_alike image window cover block c.args.first c.args.count skipped r begins within met is forms in
    let bytes =
    ap (take (found.1 * block)) exact ∙ blocks_in image window block c.args.first c.args.count skipped found.1 within is
    ∙ ap (λ (b : ℕ). take (found.1 * block) (drop (b * block) (padded image block))) (sym begins) in
    c.in_ok-put_run.ensures.written told image cover alike (λ raw. bytes) old
