use Rattle.std.proofs.Common.{◌≡◌, drop}
use Rattle.conf_keys.specs.Checking.{words_fault}
use Rattle.conf_keys.proofs.checking.words_fault.Given as goal

abbrev pub invariant-loop-word : goal.invariant-loop-word
invariant-loop-word l = words_fault l.before l.words ≡ words_fault l.count (drop l.word-index l.words)
