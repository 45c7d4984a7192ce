use Rattle.std.proofs.Common.{◌≡◌, ℕ, ◌*◌, length, take, List, refl, subst, sym, rules, arith}
use Rattle.std.proofs.lemmas.Grind.{common_steps}
use Rattle.base_fields.specs.declared.spans.Span.{Span}
use Rattle.outside.specs.Files.{Tree, bytes_of}
use Rattle.sparse_chunks.specs.Progress.{IsWritten, done_after}
use Rattle.sparse_cover.specs.Stretches.{AreMet}
use Rattle.sparse_writer.proofs.Going.{covered_at, refused_at, within_image}
use Rattle.sparse_writer.proofs.steps.put_covered.Goals as goal

pub read_window-requires-clause-inside : goal.read_window-requires-clause-inside
read_window-requires-clause-inside g c =
    let least = c.requires.block.0 in
    rw (c.done-first.ensures, c.from.ensures)
    (within_image c.args.size c.args.block (done_after c.args.progress.now.last) c.args.count (omega (arith, least)) c.requires.some c.requires.inside).0

pub returns-in-Err-clause-goes : goal.returns-in-Err-clause-goes
returns-in-Err-clause-goes g c told cover met needed =
    let least = c.requires.block.0 in
    let first = done_after c.args.progress.now.last in
    let n = length (take (c.args.count * c.args.block) c.args.buf.now) in
    let long : n ≡ c.args.count * c.args.block = search (rules, common_steps) in
    let place : c.done-first.result * c.from.result ≡ first * c.args.block = rw (c.done-first.ensures, c.from.ensures) refl in
    refused_at cover c.args.block c.args.size first c.args.count (c.done-first.result * c.from.result) n (g.F.Files.file c.args.files.now c.args.from.now) c.read_window.new.buf c.in-Err.fault
    (omega (arith, least)) c.requires.some c.requires.inside place long met (c.in-Err.ensures.there told) needed

pub returns-in-Ok-put_window-clause-goes : goal.returns-in-Ok-put_window-clause-goes
returns-in-Ok-put_window-clause-goes g c told cover met =
    let least = c.requires.block.0 in
    let block = c.args.block in
    let first = c.done-first.result in
    let is_first = c.done-first.ensures in
    let inside = c.requires.inside in
    let n = length (take (c.args.count * block) c.args.buf.now) in
    let long : n ≡ c.args.count * block = search (rules, common_steps) in
    let place : first * c.from.result ≡ first * block = rw c.from.ensures refl in
    let same = c.in-Ok.ensures.same_files in
    covered_at cover block c.args.size c.args.count first (first * c.from.result) n (g.F.Files.file c.args.files.now c.args.from.now) c.args.progress.now c.put_window.new.progress _ _ c.read_window.new.buf
    (omega (arith, least)) c.requires.some is_first (omega (arith, is_first, inside)) place long (subst (λ (b : ℕ). AreMet cover block b c.args.count) (sym is_first) met) c.in-Ok-put_window.ensures.done (c.in-Ok.ensures.there told)
    (λ (image : List ℕ) (k : List Span) all are old. c.in-Ok-put_window.ensures.written told image k all are (subst (λ (t : Tree). IsWritten image k block c.args.progress.now (bytes_of t c.args.to.now)) (sym same) old))
