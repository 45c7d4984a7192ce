use Rattle.bench.specs.declared.Dev.TheVariants.{Journal}
use Rattle.copy_journal.proofs.PieceLemmas.{marked_run}
use Rattle.copy_journal.proofs.pieces.piece_marked.Goals as goal

pub returns-clause-exact : goal.returns-clause-exact
returns-clause-exact g c told =
    let run = marked_run c.args.at _ ((g.B.Bench.disk c.args.bench.now).reads Journal) c.read_at.new.buf (c.requires.inside told) (c.in_ok-read_at.ensures.there told) in
    (λ all. run.0 (c.are_recorded.ensures.0 all), λ marked. c.are_recorded.ensures.1 (run.1 marked))
