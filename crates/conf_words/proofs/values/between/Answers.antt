use Rattle.std.proofs.Common.{arith}
use Rattle.std.proofs.lemmas.Grind.{common_steps}
use Rattle.conf_words.proofs.Cuts.{cut_after, cut_last}
use Rattle.conf_words.proofs.values.between.Goals as goal

pub split_at-requires : goal.split_at-requires
split_at-requires c = cut_after c.args.text.now 1 c.utf8.text (omega arith) (grind (arith, common_steps)) (grind (arith, common_steps))

pub split_at-requires-in-len2-up : goal.split_at-requires-in-len2-up
split_at-requires-in-len2-up c = cut_last c.split_at.result.1.now _ (grind (arith, common_steps)) (grind (arith, common_steps))
