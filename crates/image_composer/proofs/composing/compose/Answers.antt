use Rattle.image_composer.proofs.Made.{complete, reads_back}
use Rattle.image_composer.proofs.composing.compose.Goals as goal

pub returns-clause-reads_back : goal.returns-clause-reads_back
returns-clause-reads_back g c = λ told.
    reads_back c.args.layout.now _ _ c.compose_through-answer.result c.requires.layout (c.compose_through-answer.ensures.answers told)

pub returns-clause-complete : goal.returns-clause-complete
returns-clause-complete g c = λ told have.
    complete c.args.layout.now _ _ c.compose_through-answer.result have (c.compose_through-answer.ensures.answers told)
