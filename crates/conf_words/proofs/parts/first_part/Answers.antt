use Rattle.std.proofs.Common.{Ok, ◌∙◌, ap, drop, sym}
use Rattle.conf_words.proofs.Cuts.{cut_after, cut_before, special_low}
use Rattle.conf_words.proofs.Steps.{is_plain, part_first, plain_run}
use Rattle.conf_words.proofs.parts.first_part.Goals as goal
use Rattle.conf_words.specs.Values.{followed, parts_value}

pub split_at-requires : goal.split_at-requires
split_at-requires c = rw (c.plain_length-plain.ensures.count, c.as_bytes-bytes.ensures.value) (cut_before is_plain c.args.text.now special_low)

pub returns-then-plain-gt0-clause-parts : goal.returns-then-plain-gt0-clause-parts
returns-then-plain-gt0-clause-parts c =
    plain_run c.args.vars.now c.args.escapes c.plain_length-plain.result c.args.text.now (rw c.as_bytes-bytes.ensures.value at c.plain_length-plain.ensures.count)
    ∙ ap (λ v. followed (Ok v) (parts_value c.args.vars.now c.args.escapes 0 (drop c.plain_length-plain.result c.args.text.now))) (sym c.split_at.ensures.front)

pub returns-then-plain-gt0-clause-boundary : goal.returns-then-plain-gt0-clause-boundary
returns-then-plain-gt0-clause-boundary c = rw (c.plain_length-plain.ensures.count, c.as_bytes-bytes.ensures.value) (cut_before is_plain c.args.text.now special_low)

pub returns-then-starts_with-clause-parts : goal.returns-then-starts_with-clause-parts
returns-then-starts_with-clause-parts c =
    part_first c.args.vars.now c.args.escapes c.dollar_part.result.len c.args.text.now c.dollar_part.ensures.len c.dollar_part.ensures.within.0 c.dollar_part.ensures.within.1
    ∙ ap (λ v. followed v (parts_value c.args.vars.now c.args.escapes 0 (drop c.dollar_part.result.len c.args.text.now))) (sym c.dollar_part.ensures.value)

pub returns-then-starts_with-clause-boundary : goal.returns-then-starts_with-clause-boundary
returns-then-starts_with-clause-boundary c = cut_after c.args.text.now c.dollar_part.result.len c.utf8.text c.dollar_part.ensures.within.0 c.dollar_part.ensures.within.1 c.dollar_part.ensures.last

pub returns-else-starts_with-clause-parts : goal.returns-else-starts_with-clause-parts
returns-else-starts_with-clause-parts c =
    part_first c.args.vars.now c.args.escapes c.backslash_part.result.len c.args.text.now c.backslash_part.ensures.len c.backslash_part.ensures.within.0 c.backslash_part.ensures.within.1
    ∙ ap (λ v. followed v (parts_value c.args.vars.now c.args.escapes 0 (drop c.backslash_part.result.len c.args.text.now))) (sym (c.backslash_part.ensures.value c.args.vars.now))

pub returns-else-starts_with-clause-boundary : goal.returns-else-starts_with-clause-boundary
returns-else-starts_with-clause-boundary c = cut_after c.args.text.now c.backslash_part.result.len c.utf8.text c.backslash_part.ensures.within.0 c.backslash_part.ensures.within.1 c.backslash_part.ensures.last
