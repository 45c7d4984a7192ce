use Rattle.std.proofs.Common.{◌∙◌, refl, rules}
use Rattle.conf_lexer.specs.Text.{never, quoted_part}
use Rattle.conf_lexer.proofs.Steps.{sound_step}
use Rattle.conf_lexer.proofs.extents.quotable.Goals as goal

pub loop-rest-preserved : goal.loop-rest-preserved
loop-rest-preserved c = c.loop-rest.invariant ∙ rw c.split_at.ensures.back (sound_step never quoted_part c.in-Some.part c.loop-rest.rest.now (search rules) refl (search rules) c.in-Some.ensures.within.0 c.in-Some.ensures.within.1)
