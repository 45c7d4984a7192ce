use Rattle.conf_texts.proofs.TextLemmas.{tokens-within}
use Rattle.conf_texts.proofs.texts.tokens_in.Goals as goal

pub returns-in-Ok-clause-count : goal.returns-in-Ok-clause-count
returns-in-Ok-clause-count c = tokens-within _ _ c.in-Ok.ensures.order c.in-Ok.ensures.each
