use Rattle.std.proofs.Common.{◌∙◌, sym, arith}
use Rattle.conf_keys.proofs.Failing.{word_room}
use Rattle.conf_keys.proofs.checking.words_fault.Goals as goal

pub overflow_add-count : goal.overflow_add-count
overflow_add-count c = omega (arith, word_room c.loop-word.count c.word-item.result (sym c.in_default.is ∙ c.word_fault.ensures))
