use Rattle.std.proofs.Common.{◌∙◌, rules}
use Rattle.image_jobs.proofs.RunLemmas.{nothing_changes, refusal_lines, work_lines}
use Rattle.image_jobs.proofs.build_arm.run_build.Goals as goal

pub returns-in-Err-clause-changes : goal.returns-in-Err-clause-changes
returns-in-Err-clause-changes g c = λ told. nothing_changes _ _ _ c.read_graph.ensures.same_files

pub returns-in-Err-clause-prints : goal.returns-in-Err-clause-prints
returns-in-Err-clause-prints g c = λ told. rw (refusal_lines _ _ c.refuse.result c.refuse.ensures.refusal) (search rules)

pub returns-clause-prints : goal.returns-clause-prints
returns-clause-prints g c = λ told.
    rw (refusal_lines _ _ c.refuse-in-Err-build_graph.result c.refuse-in-Err-build_graph.ensures.refusal) (search rules)

pub returns-in-Ok-build_graph-clause-prints : goal.returns-in-Ok-build_graph-clause-prints
returns-in-Ok-build_graph-clause-prints g c = λ told.
    rw (work_lines _ c.in-Ok.graph _ _ _ _ c.report_built.result c.as_slice.result.now (c.in-Ok.ensures.gives told)
    c.in-Ok.ensures.sound (c.as_slice.ensures ∙ c.in-Ok-build_graph.ensures.sizes told) c.report_built.ensures.answer)
    c.report_built.ensures.prints
