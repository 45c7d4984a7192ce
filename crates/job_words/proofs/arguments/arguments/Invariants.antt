use Rattle.std.proofs.Common.{◌≡◌, map, take}
use Rattle.job_words.specs.Arguments.{rule_of_argument}
use Rattle.job_words.proofs.arguments.arguments.Given as goal

abbrev pub invariant-loop-argument : goal.invariant-loop-argument
invariant-loop-argument l = l.arguments ≡ map rule_of_argument (take l.argument-index l.argument-items)
