use Rattle.std.proofs.Common.{◌∙◌, ◌≡◌, ◌≤◌, length, true, arith, rules}
use Rattle.std.specs.Char.{is_ascii_digit}
use Rattle.std.specs.List.{list_all}
use Rattle.job_words.proofs.Numerals.{parsed}
use Rattle.job_words.proofs.numbers.number.Goals as goal

pub returns : goal.returns
returns c =
    let digits : list_all is_ascii_digit c.args.text.now ≡ true = search rules in
    let short : length c.args.text.now ≤ 20 = omega arith in
    c.ok.ensures.value ∙ parsed c.args.text.now c.parse.result short digits c.parse.ensures.value.0
