use Rattle.std.proofs.Common.{rules}
use Rattle.image_jobs.proofs.CountedLemmas.{counted_alone}
use Rattle.job_answers.proofs.LineLemmas.{answer_line}
use Rattle.image_jobs.proofs.MapLemmas.{map_caused, map_made, map_not_made}
use Rattle.job_answers.proofs.SaidLemmas.{refusal_expected, refusal_says}
use Rattle.image_jobs.specs.MapArm.{is_mapped}
use Rattle.image_jobs.proofs.map_arm.run_map.Goals as goal

pub returns-in-Ok-clause-made : goal.returns-in-Ok-clause-made
returns-in-Ok-clause-made g c = λ told.
    map_made _ c.args.mapping (g.F.Files.file c.map_requested.new.files) c.in-Ok.mapped _ _ c.report_mapped.result (c.in-Ok.ensures.maps told) c.report_mapped.ensures.answer

pub returns-in-Err-clause-answers : goal.returns-in-Err-clause-answers
returns-in-Err-clause-answers g c = λ told.
    rw c.refuse.ensures.answer (refusal_says _ is_mapped c.in-Err.refusal c.in-Err.ensures.refusal (c.in-Err.ensures.maps told))

pub returns-in-Err-clause-cause : goal.returns-in-Err-clause-cause
returns-in-Err-clause-cause g c =
    rw c.refuse.ensures.answer (map_caused _ _ _ _ c.in-Err.refusal c.in-Err.ensures.refusal c.in-Err.ensures.shown)

pub returns-in-Err-clause-complete : goal.returns-in-Err-clause-complete
returns-in-Err-clause-complete g c = λ told steady printed.
    rw c.refuse.ensures.answer
    (refusal_expected _ c.in-Err.refusal c.in-Err.ensures.refusal (c.in-Err.ensures.maps told)
    (counted_alone _ _ c.in-Err.refusal c.in-Err.ensures.shown steady))

pub returns-in-Err-clause-made : goal.returns-in-Err-clause-made
returns-in-Err-clause-made g c = λ told. map_not_made _ c.args.mapping (g.F.Files.file c.map_requested.new.files) c.refuse.result c.refuse.ensures.refusal

pub returns-in-Err-clause-prints : goal.returns-in-Err-clause-prints
returns-in-Err-clause-prints g c = rw (answer_line c.refuse.result c.refuse.ensures.refusal) (search rules)
