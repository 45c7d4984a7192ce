use Rattle.image_jobs.proofs.RunLemmas.{answer_shown}
use Rattle.image_jobs.proofs.build_arm.build_graph.Goals as goal

pub returns-in-Ok-build_images-clause-built : goal.returns-in-Ok-build_images-clause-built
returns-in-Ok-build_images-clause-built g c = λ told.
    c.no_image_is_left_out.ensures c.args.graph.now _ _ c.requires.graph
    (c.graphs_are_built.ensures c.args.graph.now _ _ c.requires.graph (c.in-Ok-build_images.ensures.built told))

pub returns-clause-shown : goal.returns-clause-shown
returns-clause-shown g c =
    answer_shown c.args.graph.now _ _ c.in-Err.fault c.answer_of_build.result c.answer_of_build.ensures.answer
    c.in-Err.ensures.cause
