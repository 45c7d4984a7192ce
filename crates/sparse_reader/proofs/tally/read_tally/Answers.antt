use Rattle.std.proofs.Common.{rules, ◌∙◌, ◌<◌, ◌≤◌, arith}
use Rattle.std.proofs.lemmas.Result.{err_from_is_err_and}
use Rattle.sparse_reader.proofs.TallyLemmas.{refused_below, tallied_below, tallied_last}
use Rattle.sparse_reader.proofs.tally.read_tally.Goals as goal

pub returns-in_err-chunk-clause-answers : goal.returns-in_err-chunk-clause-answers
returns-in_err-chunk-clause-answers g c = λ told.
    let same = c.loop-cursor.invariant.same_files in
    let step = rw same at (c.in_err-chunk.ensures.answers told) in
    let fault = err_from_is_err_and c.from_residual.result c.from_residual.ensures.1 in
    let below : c.loop-cursor.cursor.chunk < c.args.header.chunks = let test = c.loop-cursor-test.true in omega arith in
    rw (fault.1, fault.2, c.loop-cursor.invariant.left told)
    (refused_below _ c.args.header.block c.args.header.chunks c.loop-cursor.cursor c.loop-cursor.tally _ below step)

pub loop-cursor-preserved : goal.loop-cursor-preserved
loop-cursor-preserved g c = record {
  none_fell = search rules;
  same_files = search rules;
  within = search rules;
  cursor = search rules;
  tally = search rules;
  left = λ told.
      let same = c.loop-cursor.invariant.same_files in
      let step = rw same at (c.in_ok-chunk.ensures.answers told) in
      let below : c.loop-cursor.cursor.chunk < c.args.header.chunks = let test = c.loop-cursor-test.true in omega arith in
      rw (c.behind-cursor.ensures.exact, c.with-tally.ensures.exact)
      (c.loop-cursor.invariant.left told
      ∙ tallied_below _ c.args.header.block c.args.header.chunks c.loop-cursor.cursor c.loop-cursor.tally c.in_ok-chunk.chunk below step);
}

pub returns-clause-answers : goal.returns-clause-answers
returns-clause-answers g c = λ told.
    let past : c.args.header.chunks ≤ c.loop-cursor.cursor.chunk = let test = c.loop-cursor-test.false in omega arith in
    c.loop-cursor.invariant.left told ∙ tallied_last _ c.args.header.block c.args.header.chunks c.loop-cursor.cursor c.loop-cursor.tally past
