use Rattle.std.proofs.Common.{◌≡◌, length, arith, rules}
use Rattle.std.proofs.lemmas.Grind.{common_steps}
use Rattle.bench.specs.declared.Dev.TheVariants.{Journal}
use Rattle.copy_journal.proofs.PieceLemmas.{touches_more, zeros_last}
use Rattle.copy_journal.proofs.pieces.write_zeros.Goals as goal

pub returns-in_err-write_at-clause-touches : goal.returns-in_err-write_at-clause-touches
returns-in_err-write_at-clause-touches g c told =
    touches_more c.args.at c.args.count (c.loop-done.invariant.touches told) c.write_at.ensures.touches (omega arith) (search rules)

pub returns-in_err-write_at-2-clause-touches : goal.returns-in_err-write_at-2-clause-touches
returns-in_err-write_at-2-clause-touches g c told =
    touches_more c.args.at c.args.count (c.loop-done.invariant.touches told) c.write_at-2.ensures.touches (omega arith) (grind (arith, common_steps))

pub returns-clause-touches : goal.returns-clause-touches
returns-clause-touches g c told =
    touches_more c.args.at c.args.count (c.loop-done.invariant.touches told) c.write_at-2.ensures.touches (omega arith) (grind (arith, common_steps))

pub returns-clause-zero : goal.returns-clause-zero
returns-clause-zero g c told =
    let zeros = c.zeros-zeros.result in
    let room : length zeros ≡ 4096 = search rules in
    let old = (g.B.Bench.disk c.loop-done.bench).reads Journal in
    let size = c.loop-done.invariant.size told in
    let inside = c.requires.inside told in
    zeros_last old ((g.B.Bench.disk c.write_at-2.new.self).reads Journal) zeros c.args.at c.loop-done.done _ c.args.count (c.in_ok-write_at-2.ensures.wrote told) c.zeros-zeros.ensures (omega arith) (omega arith) (omega arith) (c.loop-done.invariant.zero told)
