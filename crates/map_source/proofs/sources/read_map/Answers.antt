use Rattle.map_source.proofs.sources.read_map.Goals as goal

pub returns-in-Ok-clause-cause : goal.returns-in-Ok-clause-cause
returns-in-Ok-clause-cause g c = c.source_in.ensures.cause _ _
