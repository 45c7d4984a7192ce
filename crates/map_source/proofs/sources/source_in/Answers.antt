use Rattle.map_source.proofs.Differing.{text_shown}
use Rattle.map_source.proofs.sources.source_in.Goals as goal

pub returns-in-Err-clause-cause : goal.returns-in-Err-clause-cause
returns-in-Err-clause-cause c = λ before now.
    rw c.from.ensures (text_shown c.args.text.now c.in-Err.fault c.in-Err.ensures.answers before now)
