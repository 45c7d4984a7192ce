use Rattle.std.proofs.Common.{◌∙◌, arith}
use Rattle.bmap_lexer.proofs.Digits.{one_more, small_value_all, small_value_more}
use Rattle.bmap_lexer.proofs.values.small_value.Goals as goal

pub returns-in_err-checked_mul : goal.returns-in_err-checked_mul
returns-in_err-checked_mul c =
    c.from_residual.ensures ∙ small_value_more c.args.digits.now c.loop-byte.byte-index c.loop-byte.value
    (omega arith) c.loop-byte.invariant.is (omega (arith, c.in_err-checked_mul.ensures))

pub returns-in_err-value : goal.returns-in_err-value
returns-in_err-value c =
    c.from_residual-in_err-value.ensures ∙ small_value_more c.args.digits.now c.loop-byte.byte-index c.loop-byte.value
    (omega arith) c.loop-byte.invariant.is (omega (arith, c.in_err-value.ensures, c.in_ok-checked_mul.ensures))

pub loop-byte-preserved : goal.loop-byte-preserved
loop-byte-preserved c =
    let more = one_more c.args.digits.now c.loop-byte.byte-index c.loop-byte.value (omega arith) c.loop-byte.invariant.is in
    record {
      fits = omega (arith, c.in_ok-value.ensures);
      is = omega (arith, more, c.in_ok-value.ensures, c.in_ok-checked_mul.ensures);
    }

pub returns : goal.returns
returns c =
    small_value_all c.args.digits.now c.loop-byte.byte-index c.loop-byte.value (omega arith) c.loop-byte.invariant.fits c.loop-byte.invariant.is
