use Rattle.std.proofs.Common.{rules, ◌≡◌, ◌∙◌, ◌<◌, ◌∷◌, [], arith, length-append}
use Rattle.std.proofs.lemmas.Result.{err_from_is_err_and}
use Rattle.table_reader.proofs.ChainSteps.{chain_ended, chain_last, chain_more, chain_refused}
use Rattle.table_reader.proofs.chain.read_chain.Goals as goal

pub returns-in_err-boot-clause-answers : goal.returns-in_err-boot-clause-answers
returns-in_err-boot-clause-answers g c = λ told.
    let same = c.loop-left.invariant.same_files in
    let step = rw same at (c.in_err-boot.ensures.answers told) in
    let fault = err_from_is_err_and c.from_residual.result c.from_residual.ensures.1 in
    let some : 0 < c.loop-left.left = let test = c.loop-left-test.true in omega arith in
    rw (fault.1, fault.2, c.loop-left.invariant.left told) (chain_refused _ c.args.start c.loop-left.left c.loop-left.sector c.loop-left.logical _ some step)

pub loop-left-preserved : goal.loop-left-preserved
loop-left-preserved g c = record {
  none_fell = search rules;
  same_files = search rules;
  near = let is = c.in-Some.is in rw is at c.in_ok-boot.ensures.near;
  count =
      let count = c.loop-left.invariant.count in
      let test = c.loop-left-test.true in
      let long = length-append c.loop-left.logical (c.in_ok-boot.boot.logical ∷ []) in
      rw c.in_ok-push.ensures.ok (omega (arith, long));
  left = λ told.
      let same = c.loop-left.invariant.same_files in
      let step = rw same at (c.in_ok-boot.ensures.answers told) in
      let some : 0 < c.loop-left.left = let test = c.loop-left-test.true in omega arith in
      rw c.in_ok-push.ensures.ok
      (c.loop-left.invariant.left told
      ∙ chain_more _ c.args.start c.loop-left.left c.loop-left.sector c.loop-left.logical c.in_ok-boot.boot c.in-Some.next some step c.in-Some.is);
}

pub returns-in-None-clause-answers : goal.returns-in-None-clause-answers
returns-in-None-clause-answers g c = λ told.
    let same = c.loop-left.invariant.same_files in
    let step = rw same at (c.in_ok-boot.ensures.answers told) in
    let some : 0 < c.loop-left.left = let test = c.loop-left-test.true in omega arith in
    rw c.in_ok-push.ensures.ok
    (c.loop-left.invariant.left told
    ∙ chain_last _ c.args.start c.loop-left.left c.loop-left.sector c.loop-left.logical c.in_ok-boot.boot some step c.in-None.is)

pub returns-clause-answers : goal.returns-clause-answers
returns-clause-answers g c = λ told.
    let none : c.loop-left.left ≡ 0 = let test = c.loop-left-test.false in omega arith in
    c.loop-left.invariant.left told ∙ chain_ended _ c.args.start c.loop-left.left c.loop-left.sector c.loop-left.logical none
