use Rattle.std.proofs.Common.{lit<}
use Rattle.conf_words.proofs.Cuts.{cut_two, name_cut}
use Rattle.conf_words.proofs.variables.variable_value.Goals as goal

pub split_at-requires : goal.split_at-requires
split_at-requires c = cut_two c.args.text.now 36 123 c.utf8.text (lit< tt) c.requires

pub split_at-requires-2 : goal.split_at-requires-2
split_at-requires-2 c = rw (c.name_length.ensures.count, c.as_bytes.ensures.value) (name_cut c.split_at.result.1.now (rw c.as_bytes.ensures.value at c.as_bytes.ensures.utf8))
