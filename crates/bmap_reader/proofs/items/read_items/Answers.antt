use Rattle.std.proofs.Common.{◌∙◌, arith, length, rules, sym}
use Rattle.std.proofs.lemmas.Result.{err_from_is_err_and}
use Rattle.bmap_reader.proofs.Holding.{begun_holds, stands_hold}
use Rattle.bmap_reader.proofs.Pieces.{begun_on, begun_same, continued, continues_on, item_refused, item_stands, no_item}
use Rattle.bmap_reader.proofs.items.read_items.Goals as goal

pub loop-rest-init : goal.loop-rest-init
loop-rest-init c = record {
  same = begun_same c.args.text.now c.nothing-stood.result c.nothing-stood.ensures;
  on = begun_on c.args.text.now c.nothing-stood.result c.nothing-stood.ensures;
  len = omega arith;
  holds = begun_holds (length c.args.text.now) c.nothing-stood.result c.nothing-stood.ensures;
}

pub loop-rest-preserved : goal.loop-rest-preserved
loop-rest-preserved c =
    let text = c.args.text.now in
    let rest = c.loop-rest.rest.now in
    let before = c.loop-rest.invariant in
    let piece = c.in-Some.piece in
    let fits = c.in-Some.ensures.within in
    record {
      same = rw c.split_at.ensures.back
          (item_stands c.loop-rest.at c.loop-rest.stood c.in_ok-after.after text rest piece fits.0 fits.1
          (sym c.in-Some.ensures.there) c.in_ok-after.ensures before.same);
      on = rw c.split_at.ensures.back
          (continues_on text c.loop-rest.at c.loop-rest.stood c.in_ok-after.after rest piece fits.0 fits.1
          (sym c.in-Some.ensures.there) c.in_ok-after.ensures before.on);
      len = omega arith;
      holds = stands_hold (length text) c.loop-rest.at piece.len c.loop-rest.stood c.in_ok-after.after piece.item
          fits.2 (omega arith) before.holds c.in_ok-after.ensures;
    }

pub returns-in_err-after-clause-answers : goal.returns-in_err-after-clause-answers
returns-in_err-after-clause-answers c =
    let p = err_from_is_err_and c.from_residual.result c.from_residual.ensures.1 in
    let fits = c.in-Some.ensures.within in
    rw (p.1, p.2)
    (item_refused c.loop-rest.at c.loop-rest.stood c.args.text.now c.loop-rest.rest.now c.in-Some.piece
    c.in_err-after.field-0.0 fits.0 fits.1 (sym c.in-Some.ensures.there) c.in_err-after.ensures
    c.loop-rest.invariant.same)

pub returns-clause-items : goal.returns-clause-items
returns-clause-items c =
    continued c.args.text.now c.loop-rest.at c.loop-rest.stood c.loop-rest.rest.now (search rules) c.loop-rest.invariant.on

pub returns-in_default-clause-answers : goal.returns-in_default-clause-answers
returns-in_default-clause-answers c =
    no_item c.loop-rest.at c.loop-rest.stood c.args.text.now c.loop-rest.rest.now (search rules)
    (sym c.in_default.ensures.there) c.loop-rest.invariant.same
