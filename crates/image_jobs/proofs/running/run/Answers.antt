use Rattle.std.proofs.Common.{◌≡◌, Option, Some, rules, subst, sym}
use Rattle.std.specs.Prelude.{IfErr, map, string_bytes}
use Rattle.bench.specs.declared.Dev.TheVariants.{Journal, Target}
use Rattle.copier.specs.Faults.{NoneIsLeft}
use Rattle.copy_job.proofs.LookLemmas.{looked_none}
use Rattle.copy_job.specs.Said.{copying_said}
use Rattle.copy_run.specs.Faults.{IsRunFault}
use Rattle.copy_run.specs.Runs.{OpensFor, RunHasOutcome, RunIsDone, RunIsTallied}
use Rattle.image_jobs.specs.Asked.{asked}
use Rattle.image_jobs.specs.OnDevices.{KeepsSince, LeavesUnsaid, WritesNothing}
use Rattle.image_jobs.specs.declared.request.Command.{Command}
use Rattle.image_jobs.specs.declared.request.Command.TheVariants.{Copy, Forget}
use Rattle.image_jobs.proofs.UnreadLemmas.{memory_caused, none_marks, none_narrow, none_own, none_since, none_told, none_unsaid}
use Rattle.image_jobs.proofs.UnreadLemmas.{forgotten_writes, nothing_bounded, unsaid_stays}
use Rattle.image_jobs.proofs.running.run.Goals as goal

pub returns-in-Err-NoMemory-clause-cause : goal.returns-in-Err-NoMemory-clause-cause
returns-in-Err-NoMemory-clause-cause g c = rw c.refuse-in-Err-NoMemory.ensures.answer (memory_caused _ _ _ _ _ _ _)

pub returns-in-Err-NoMemory-clause-bounded : goal.returns-in-Err-NoMemory-clause-bounded
returns-in-Err-NoMemory-clause-bounded g c = nothing_bounded _ (g.B.Bench.meter c.args.bench.now)

pub returns-in-Err-NoMemory-clause-since : goal.returns-in-Err-NoMemory-clause-since
returns-in-Err-NoMemory-clause-since g c = λ told known. none_since (asked (map string_bytes c.args.words.now.items)) g.F.Files.told (g.F.Files.file c.args.files.now) (looked_none (g.B.Bench.disk c.args.bench.now))

pub returns-in-Err-NoMemory-clause-narrow : goal.returns-in-Err-NoMemory-clause-narrow
returns-in-Err-NoMemory-clause-narrow g c = λ told known. none_narrow (asked (map string_bytes c.args.words.now.items)) g.F.Files.told (g.F.Files.file c.args.files.now) (looked_none (g.B.Bench.disk c.args.bench.now))

pub returns-in-Err-NoMemory-clause-keeps : goal.returns-in-Err-NoMemory-clause-keeps
returns-in-Err-NoMemory-clause-keeps g c = λ told known. none_marks (asked (map string_bytes c.args.words.now.items)) g.F.Files.told (g.F.Files.file c.args.files.now) (looked_none (g.B.Bench.disk c.args.bench.now))

pub returns-in-Err-NoMemory-clause-own : goal.returns-in-Err-NoMemory-clause-own
returns-in-Err-NoMemory-clause-own g c = λ told known. none_own (asked (map string_bytes c.args.words.now.items)) (g.F.Files.file c.args.files.now) (looked_none (g.B.Bench.disk c.args.bench.now))

pub returns-in-Err-NoMemory-clause-copied : goal.returns-in-Err-NoMemory-clause-copied
returns-in-Err-NoMemory-clause-copied g c = λ told known.
    rw c.refuse-in-Err-NoMemory.ensures.answer (none_told (asked (map string_bytes c.args.words.now.items)) (g.F.Files.file c.args.files.now) (λ job. RunIsDone job (g.B.Bench.disk c.args.bench.now)))

pub returns-in-Err-NoMemory-clause-tallied : goal.returns-in-Err-NoMemory-clause-tallied
returns-in-Err-NoMemory-clause-tallied g c = λ told known.
    rw c.refuse-in-Err-NoMemory.ensures.answer (none_told (asked (map string_bytes c.args.words.now.items)) (g.F.Files.file c.args.files.now) (λ job. RunIsTallied job (g.B.Bench.disk c.args.bench.now)))

pub returns-in-Err-NoMemory-clause-outcome : goal.returns-in-Err-NoMemory-clause-outcome
returns-in-Err-NoMemory-clause-outcome g c = λ told known.
    rw c.refuse-in-Err-NoMemory.ensures.answer (none_told (asked (map string_bytes c.args.words.now.items)) (g.F.Files.file c.args.files.now) (λ job. RunHasOutcome g.F.Files.told ((g.F.Files.file c.args.files.now) job.source) job (g.B.Bench.disk c.args.bench.now)))

pub returns-in-Err-NoMemory-clause-opened : goal.returns-in-Err-NoMemory-clause-opened
returns-in-Err-NoMemory-clause-opened g c = λ told known.
    rw c.refuse-in-Err-NoMemory.ensures.answer (none_told (asked (map string_bytes c.args.words.now.items)) (g.F.Files.file c.args.files.now) (λ job. OpensFor job ((g.B.Bench.disk c.args.bench.now).reads Target) ((g.B.Bench.disk c.args.bench.now).reads Journal)))

pub returns-in-Err-NoMemory-clause-cleared : goal.returns-in-Err-NoMemory-clause-cleared
returns-in-Err-NoMemory-clause-cleared g c = λ told known.
    rw c.refuse-in-Err-NoMemory.ensures.answer (none_told (asked (map string_bytes c.args.words.now.items)) (g.F.Files.file c.args.files.now) (λ job end. IfErr end (NoneIsLeft job (g.B.Bench.disk c.args.bench.now))))

pub returns-in-Err-NoMemory-clause-caused : goal.returns-in-Err-NoMemory-clause-caused
returns-in-Err-NoMemory-clause-caused g c = λ told.
    let counts = g.F.Files.counts c.args.files.now in
    let meter = g.B.Bench.meter c.args.bench.now in
    rw c.refuse-in-Err-NoMemory.ensures.answer (none_told (asked (map string_bytes c.args.words.now.items)) (g.F.Files.file c.args.files.now) (λ job end. IfErr end (IsRunFault g.B.Bench.told job (g.B.Bench.disk c.args.bench.now) counts counts meter meter)))

pub returns-in-Err-NoMemory-clause-unsaid : goal.returns-in-Err-NoMemory-clause-unsaid
returns-in-Err-NoMemory-clause-unsaid g c = λ told. none_unsaid (asked (map string_bytes c.args.words.now.items)) (g.F.Files.file c.args.files.now) (record { looked = (looked_none (g.B.Bench.disk c.args.bench.now)); stays = λ each image leaves. leaves })

pub returns-in-Copy-clause-unsaid : goal.returns-in-Copy-clause-unsaid
returns-in-Copy-clause-unsaid g c = λ told.
    let file = g.F.Files.file c.args.files.now in
    let old = g.B.Bench.disk c.args.bench.now in
    let new = g.B.Bench.disk c.run_copy.new.bench in
    let is : asked (map string_bytes c.args.words.now.items) ≡ Some (Copy c.in-Copy.request) = search rules in
    subst (λ (command : Option Command). LeavesUnsaid command file old new) (sym is)
    (unsaid_stays (copying_said file c.in-Copy.request) old new (c.run_copy.ensures.before told) (c.run_copy.ensures.stays told))

pub returns-in-Forget-clause-since : goal.returns-in-Forget-clause-since
returns-in-Forget-clause-since g c = λ told known.
    let file = g.F.Files.file c.args.files.now in
    let old = g.B.Bench.disk c.args.bench.now in
    let new = g.B.Bench.disk c.run_forget.new.bench in
    let is : asked (map string_bytes c.args.words.now.items) ≡ Some (Forget c.in-Forget.journal) = search rules in
    subst (λ (command : Option Command). KeepsSince command g.F.Files.told file old new) (sym is) (c.run_forget.ensures.since known)

pub returns-in-Forget-clause-unwritten : goal.returns-in-Forget-clause-unwritten
returns-in-Forget-clause-unwritten g c = λ known.
    let old = g.B.Bench.disk c.args.bench.now in
    let new = g.B.Bench.disk c.run_forget.new.bench in
    let is : asked (map string_bytes c.args.words.now.items) ≡ Some (Forget c.in-Forget.journal) = search rules in
    subst (λ (command : Option Command). WritesNothing command old new c.run_forget.result) (sym is)
    (forgotten_writes c.run_forget.result old new c.run_forget.ensures.answered (c.run_forget.ensures.unwritten known))
