use Rattle.std.proofs.Common.{lit<, ◌∙◌, sym}
use Rattle.conf_words.proofs.Cuts.{cut_two}
use Rattle.conf_words.proofs.variables.default_text.Goals as goal

pub split_at-requires : goal.split_at-requires
split_at-requires c = cut_two c.args.text.now 58 45 c.utf8.text (lit< tt) (rw c.as_bytes.ensures.value at (sym c.starts_with.ensures.value ∙ c.if-not-starts_with.false))
