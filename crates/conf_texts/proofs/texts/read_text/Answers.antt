use Rattle.std.proofs.Common.{◌-◌}
use Rattle.std.proofs.lemmas.Result.{err_from_is_err_and}
use Rattle.conf_texts.specs.Texts.{most_bytes}
use Rattle.conf_texts.proofs.texts.read_text.Goals as goal

pub returns-in_err-len-clause-lacks : goal.returns-in_err-len-clause-lacks
returns-in_err-len-clause-lacks g c =
    let p = err_from_is_err_and c.from_residual.result c.from_residual.ensures.1 in
    rw (p.1, p.2) (c.in_err-len.ensures.lacks (most_bytes - c.args.reading.now.total))

pub returns-clause-stands : goal.returns-clause-stands
returns-clause-stands g c = let e = c.bytes-2.ensures in rw e at c.in_ok-tokens.ensures.stands
