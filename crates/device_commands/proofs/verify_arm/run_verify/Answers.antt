use Rattle.std.proofs.Common.{ℕ, List, Err, rules, subst}
use Rattle.bench.specs.declared.Dev.TheVariants.{Target}
use Rattle.map_source.specs.Said.{map_said}
use Rattle.verify_job.specs.Answers.{MapAnswers, Verifies}
use Rattle.job_answers.proofs.SaidLemmas.{error_line}
use Rattle.device_commands.proofs.VerifyLemmas.{verify_compared, verify_completes, verify_refused}
use Rattle.device_commands.proofs.verify_arm.run_verify.Goals as goal

pub returns-in-Err-clause-answers : goal.returns-in-Err-clause-answers
returns-in-Err-clause-answers g c = λ told.
    let file = g.F.Files.file c.args.files.now in
    rw (c.refuse.ensures.answer, c.answer_of_verify.ensures.answer)
    (verify_refused file c.args.map c.in-Err.fault
    (subst (λ (name : List ℕ). MapAnswers (map_said (file name)) (Err c.in-Err.fault)) c.text.ensures (c.in-Err.ensures.said told)))

pub returns-in-Err-clause-compared : goal.returns-in-Err-clause-compared
returns-in-Err-clause-compared g c = λ told known.
    let file = g.F.Files.file c.args.files.now in
    let bytes = (g.B.Bench.disk c.args.bench.now).reads Target in
    rw (c.refuse.ensures.answer, c.answer_of_verify.ensures.answer)
    (verify_compared file c.args.map bytes c.in-Err.fault
    (subst (λ (name : List ℕ). MapAnswers (map_said (file name)) (Err c.in-Err.fault)) c.text.ensures (c.in-Err.ensures.said told))
    (subst (λ (name : List ℕ). Verifies (map_said (file name)) bytes (Err c.in-Err.fault)) c.text.ensures
    (c.in-Err.ensures.verified told known)))

pub returns-in-Err-clause-complete : goal.returns-in-Err-clause-complete
returns-in-Err-clause-complete g c = λ told steady printed device.
    let file = g.F.Files.file c.args.files.now in
    rw (c.refuse.ensures.answer, c.answer_of_verify.ensures.answer)
    (verify_completes file c.args.map _ _ _ _ (g.B.Bench.meter c.args.bench.now)
    (g.B.Bench.meter c.verify_target.new.bench) c.in-Err.fault
    (subst (λ (name : List ℕ). MapAnswers (map_said (file name)) (Err c.in-Err.fault)) c.text.ensures (c.in-Err.ensures.said told))
    c.in-Err.ensures.cause steady printed device)

pub returns-in-Err-clause-prints : goal.returns-in-Err-clause-prints
returns-in-Err-clause-prints g c = λ told. rw (error_line _ _ c.refuse.result c.refuse.ensures.refusal) (search rules)
