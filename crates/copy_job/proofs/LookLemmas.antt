-- A run behind a look at the devices: all that is said of it from its own start holds from the look's start, too.
use Rattle.std.proofs.Common.{◌≡◌, ℕ, List, Option, Result, Ok, Err, ap, subst, sym, inl, ◌∙◌, refl, arith}
use Rattle.bench.specs.declared.Dev.{Dev}
use Rattle.bench.specs.declared.Dev.TheVariants.{Target, Journal}
use Rattle.bench.specs.Disk.{Disk, IsSettled, Looked, Runs}
use Rattle.bench.proofs.DiskLemmas.{keeps_then, looked_keeps, looked_then, runs_then}
use Rattle.copier.specs.declared.faults.CopyFault.{CopyFault}
use Rattle.copier_course.specs.declared.jobs.CopyJob.{CopyJob}
use Rattle.copy_opening.proofs.OpeningLemmas.{looked_opens, opening_is_narrow, opening_keeps_marks}
use Rattle.copy_opening.specs.Openings.{start_of}
use Rattle.copy_opening.specs.declared.opening.Mode.TheVariants.{Fresh}
use Rattle.copy_run.specs.Runs.{HasTally, IsOutcome, IsWindowFor, OpensFor, RunHasOutcome, RunIsNarrow, RunIsTallied, RunKeepsMarks, RunKeepsSince}
use Rattle.copy_run.specs.declared.running.Tally.{Tally}
use Rattle.copy_stages.specs.Stages.{KeepsOwn}
use Rattle.copy_states.specs.Narrow as narrow
use Rattle.copy_states.specs.Narrow.{Narrow}
use Rattle.copy_states.specs.Starts.{Pair}
use Rattle.journal_format.specs.Journals.{IsHeld}

-- nothing was done
pub looked_none : (a : Disk) → Looked a a
looked_none a = record {
  reads = refl;
  images = λ dev image now. now;
  time = record { later = omega arith; since = λ m t j le left. inl left; kept = λ m t j le left. left };
}

-- a settled device that is looked at is settled
settled_looked : {dev : Dev} {a b : Disk} → IsSettled a dev → Looked a b → IsSettled b dev
settled_looked {dev} {a} {b} settled looked =
    λ image now. settled image (looked.images dev image now) ∙ ap (λ (f : Dev → List ℕ). f dev) (sym looked.reads)

-- ---- however it ends
pub since_looked : (told : Type 0) (file : Option (List ℕ)) (job : CopyJob) {a b : Disk} → Looked a b →
    RunKeepsSince told file job a b
since_looked told file job {a} {b} looked source before is = looked_keeps looked

pub since_then : (told : Type 0) (file : Option (List ℕ)) (job : CopyJob) {a b c : Disk} → Looked a b →
    RunKeepsSince told file job b c → RunKeepsSince told file job a c
since_then told file job {a} {b} {c} looked run source before is = keeps_then (looked_keeps looked) (run source before is)

start_at : (Dev → List ℕ) → Pair
start_at reads = record { target = reads Target; journal = reads Journal }

same_start : {a b : Disk} → Looked a b → start_of b ≡ start_of a
unfolding start_at
same_start {a} {b} looked = ap start_at looked.reads

pub narrow_looked : (told : Type 0) (file : Option (List ℕ)) (job : CopyJob) {a b : Disk} → Looked a b →
    RunIsNarrow told file job a b
narrow_looked told file job {a} {b} looked s w is window settled =
    opening_is_narrow job.id (looked_opens job.id looked) job.map s w settled

pub narrow_then : (told : Type 0) (file : Option (List ℕ)) (job : CopyJob) {a b c : Disk} → Looked a b →
    RunIsNarrow told file job b c → RunIsNarrow told file job a c
narrow_then told file job {a} {b} {c} looked run s w is window settled =
    let there : IsWindowFor job (b.reads Journal) w = subst (λ (f : Dev → List ℕ). IsWindowFor job (f Journal) w) (sym looked.reads) window in
    let ran : Runs b c (Narrow job.id job.map s (start_of b) w) = run s w is there (settled_looked settled looked) in
    runs_then (narrow_looked told file job looked s w is window settled)
    (subst (λ (p : Pair). Runs b c (Narrow job.id job.map s p w)) (same_start looked) ran)

pub marks_looked : (told : Type 0) (file : Option (List ℕ)) (job : CopyJob) {a b : Disk} → Looked a b →
    RunKeepsMarks told file job a b
marks_looked told file job {a} {b} looked s is target journal =
    opening_keeps_marks job.id (λ held. looked) (looked_opens job.id looked) job.map s journal

pub marks_then : (told : Type 0) (file : Option (List ℕ)) (job : CopyJob) {a b c : Disk} → Looked a b →
    RunKeepsMarks told file job b c → RunKeepsMarks told file job a c
marks_then told file job {a} {b} {c} looked run s is target journal =
    let ran : Runs b c (narrow.Keeps job.id job.map s (start_of b)) =
    run s is (settled_looked target looked) (settled_looked journal looked) in
    runs_then (marks_looked told file job looked s is target journal)
    (subst (λ (p : Pair). Runs b c (narrow.Keeps job.id job.map s p)) (same_start looked) ran)

pub own_looked : (job : CopyJob) {a b : Disk} → Looked a b → KeepsOwn job.id a b
own_looked job {a} {b} looked = looked_keeps looked

pub own_then : (job : CopyJob) {a b c : Disk} → Looked a b → KeepsOwn job.id b c → KeepsOwn job.id a c
own_then job {a} {b} {c} looked run = keeps_then (looked_keeps looked) run

-- ---- by its answer
pub opens_then : (job : CopyJob) (answer : Result Tally CopyFault) {a b : Disk} → Looked a b →
    OpensFor job (b.reads Target) (b.reads Journal) answer → OpensFor job (a.reads Target) (a.reads Journal) answer
opens_then job answer {a} {b} looked opens =
    subst (λ (f : Dev → List ℕ). OpensFor job (f Target) (f Journal) answer) looked.reads opens

pub tallied_then : (job : CopyJob) (answer : Result Tally CopyFault) {a b : Disk} → Looked a b →
    RunIsTallied job b answer → RunIsTallied job a answer
tallied_then job (Ok tally) {a} {b} looked has = subst (λ (p : Pair). HasTally job p tally) (same_start looked) has
tallied_then job (Err fault) {a} {b} looked has = tt

pub outcome_then : (told : Type 0) (file : Option (List ℕ)) (job : CopyJob) (answer : Result Tally CopyFault) {a b : Disk} →
    Looked a b → RunHasOutcome told file job b answer → RunHasOutcome told file job a answer
outcome_then told file job answer {a} {b} looked has s before is each =
    subst (λ (p : Pair). IsOutcome job s p answer) (same_start looked)
    (has s before is (λ t j pair. each t j (looked.images Target t pair.0, looked.images Journal j pair.1)))

pub held_then : (job : CopyJob) {a b c : Disk} → Looked a b →
    (job.mode ≡ Fresh → IsHeld (b.reads Journal) → Looked b c) → job.mode ≡ Fresh → IsHeld (a.reads Journal) → Looked a c
held_then job {a} {b} {c} looked run fresh held =
    looked_then looked (run fresh (subst (λ (f : Dev → List ℕ). IsHeld (f Journal)) (sym looked.reads) held))
