use Rattle.image_jobs.proofs.MapLemmas.{mapping_refused}
use Rattle.image_jobs.proofs.map_arm.map_graph.Goals as goal

pub returns-in-Err-clause-maps : goal.returns-in-Err-clause-maps
returns-in-Err-clause-maps g c = λ told.
    mapping_refused (g.F.Files.file c.args.files.now) (g.F.Files.file c.map_image.new.files) c.args.image c.args.out c.args.texts.now c.args.graph.now c.args.block c.in-Err.fault c.answer_of_mapping.result
    (rw (← c.text.ensures, ← c.text-2.ensures) (c.in-Err.ensures.refused told)) c.answer_of_mapping.ensures.answer
