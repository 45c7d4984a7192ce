use Rattle.std.proofs.Common.{ℕ, Bool, subst, arith}
use Rattle.outside.specs.Files.{bytes_of}
use Rattle.sparse_chunks.specs.Progress.{done_after}
use Rattle.sparse_cover.specs.Stretches.{AreBare, AreMet, IsStretch}
use Rattle.sparse_writer.proofs.Going.{bare_goes, stretch_fits}
use Rattle.sparse_writer.proofs.steps.put_stretch.Goals as goal

pub stretch_from-stretch-requires-clause-within : goal.stretch_from-stretch-requires-clause-within
stretch_from-stretch-requires-clause-within g c =
    let least = c.requires.block.0 in
    rw (c.done-first.ensures, c.div_ceil.ensures, c.from.ensures)
    (stretch_fits c.args.size c.args.block (done_after c.args.progress.now.last) (omega (arith, least)) c.requires.before c.requires.size c.requires.block.1)

pub returns-then-stretch-clause-goes : goal.returns-then-stretch-clause-goes
returns-then-stretch-clause-goes g c told =
    let cover = c.args.cover.now in
    let block = c.args.block in
    let count = c.stretch_from-stretch.result.count in
    let met : AreMet cover block c.done-first.result count =
    subst (λ (b : Bool). IsStretch cover block c.done-first.result count b) c.if-stretch.true c.stretch_from-stretch.ensures.exact in
    c.put_covered.ensures.goes told cover (subst (λ (n : ℕ). AreMet cover block n count) c.done-first.ensures met)

pub returns-else-stretch-clause-goes : goal.returns-else-stretch-clause-goes
returns-else-stretch-clause-goes g c told =
    let cover = c.args.cover.now in
    let block = c.args.block in
    let least = c.requires.block.0 in
    let count = c.stretch_from-stretch.result.count in
    let bare : AreBare cover block c.done-first.result count =
    subst (λ (b : Bool). IsStretch cover block c.done-first.result count b) c.if-stretch.false c.stretch_from-stretch.ensures.exact in
    bare_goes cover block c.args.size count (g.F.Files.file c.args.files.now c.args.from.now) c.args.progress.now c.put_bare.new.progress
    (bytes_of (g.F.Files.file c.args.files.now) c.args.to.now) (bytes_of (g.F.Files.file c.put_bare.new.files) c.args.to.now) c.put_bare.result (omega (arith, least))
    (subst (λ (n : ℕ). AreBare cover block n count) c.done-first.ensures bare) c.put_bare.ensures.within c.put_bare.ensures.refusal (c.put_bare.ensures.written told)
