use Rattle.std.proofs.Common.{◌≡◌, ◌-◌, Some, arith, get_or, sym}
use Rattle.conf_lexer.specs.Text.{variable_len}
use Rattle.conf_words.proofs.Cuts.{variable_closed}
use Rattle.conf_words.proofs.parts.dollar_part.Goals as goal

pub returns-in-Some-clause-last : goal.returns-in-Some-clause-last
returns-in-Some-clause-last c =
    let there : variable_len c.args.text.now ≡ Some c.in-Some.len = rw c.as_bytes-bytes.ensures.value at (sym c.in-Some.ensures.there) in
    let last : get_or c.args.text.now (c.in-Some.len - 1) 0 ≡ 125 = (variable_closed c.args.text.now c.in-Some.len there).1 in
    omega arith
