use Rattle.std.proofs.Common.{◌≡◌, ◌∙◌, ◌+◌, ◌<◌, ℕ, List, [], ◌∷◌, ◌++◌, length, get_or, map, take, ap, sym, arith}
use Rattle.std.proofs.lemmas.List.{map-append, take_more}
use Rattle.clap.specs.Walk.{Rule}
use Rattle.job_words.specs.Arguments.{rule_of_argument}
use Rattle.job_words.specs.declared.arguments.Argument.{Argument}
use Rattle.job_words.proofs.arguments.arguments.Goals as goal

-- one rule more is the rule of one argument more
one_more : (items : List Argument) (i : ℕ) (d : Argument) (front after : List Rule) (rule : Rule) → i < length items
    → front ≡ map rule_of_argument (take i items) → rule ≡ rule_of_argument (get_or items i d) → after ≡ front ++ rule ∷ []
    → after ≡ map rule_of_argument (take (i + 1) items)
one_more items i d front after rule within so_far is more =
    more ∙ ap (λ (rules : List Rule). rules ++ rule ∷ []) so_far
    ∙ ap (λ (r : Rule). map rule_of_argument (take i items) ++ r ∷ []) is
    ∙ sym (map-append rule_of_argument (take i items) (get_or items i d ∷ []))
    ∙ sym (ap (map rule_of_argument) (take_more items i d within))

pub loop-argument-preserved : goal.loop-argument-preserved
loop-argument-preserved c =
    one_more c.table-argument-items.result.now c.loop-argument.argument-index _ c.loop-argument.arguments _ _ (omega arith)
    c.loop-argument.invariant c.arg_of.ensures.rule c.in_ok-arguments.ensures
