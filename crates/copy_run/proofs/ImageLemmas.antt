-- What the images keep from step to step.
use Rattle.std.proofs.Common.{◌≡◌, ℕ, List, [], Contains, refl, ap, subst, ◌∙◌, arith}
use Rattle.std.specs.Prelude.{Err, None, Ok, Option, Some}
use Rattle.bench.proofs.DiskLemmas.{keeps_then, looked_keeps, runs_then}
use Rattle.bench.specs.declared.Dev.TheVariants.{Target}
use Rattle.bench.specs.Disk.{Disk, Runs}
use Rattle.block_map.specs.declared.maps.BlockMap.{BlockMap}
use Rattle.outside.specs.Files.{Tree}
use Rattle.journal_format.specs.declared.jobs.JobId.{JobId}
use Rattle.copy_laws.specs.Marks.{AreCopied}
use Rattle.copy_laws.specs.Narrowing.{IsNear}
use Rattle.copy_stages.specs.Stages.{KeepsOwn}
use Rattle.copier.proofs.StepLemmas.{rests_near}
use Rattle.copier.specs.Beginnings.{BeginsIn}
use Rattle.copier.specs.Copiers.{Fits, IsSound, Progress, WindowReads}
use Rattle.copier.specs.Runs.{StaysNear, StepGoesAlong, StepKeepsSince, StepKeepsWindow}
use Rattle.copier.specs.Steps.{GoesTo}
use Rattle.copier.specs.declared.steps.Step.{Step}
use Rattle.copier.specs.declared.steps.Step.TheVariants as did
use Rattle.copier_course.specs.declared.courses.Course.{Course}
use Rattle.copier_course.specs.declared.jobs.CopyJob.{CopyJob}
use Rattle.copier_moves.proofs.KeepLemmas.{looked_none}
use Rattle.copy_run.specs.Runs.{RunKeepsSince}
use Rattle.copy_run.specs.Steps.{IsGoing, IsUnderWay, StepsStayNear, window_in}

-- what is so of the files and the job as they are is so of those at the start
pub at_first : (P : Tree → CopyJob → Type 0) {x y : Tree} {i j : CopyJob} → x ≡ y → i ≡ j → P x i → P y j
at_first P {x} {y} {i} {j} files jobs p = subst (λ (t : Tree). P t j) files (subst (λ (k : CopyJob). P x k) jobs p)

-- ---- at the opening
none_reads : (id : JobId) (m : BlockMap) (source : Option (List ℕ)) (ks t : List ℕ) → ks ≡ [] → AreCopied id m source ks t
none_reads id m None ks t none = tt
none_reads id m (Some s) ks t none = λ k u among at.
    let never : Contains [] k = subst (λ (l : List ℕ). Contains l k) none among in
    absurd (omega (arith, never.1))

window_begins : (job : CopyJob) (was : Progress) (source : Option (List ℕ)) (a : Disk) → BeginsIn job was → WindowReads job was source a
window_begins job (Ok c) source a begins = none_reads job.id job.map source c.pending (a.reads Target) begins.first.pending
window_begins job (Err fault) source a begins = absurd begins

near_begins : (told : Type 0) (file : Option (List ℕ)) (job : CopyJob) (was : Progress) (a : Disk) → IsSound job was → Fits job was a →
    StepsStayNear told file job was a a
near_begins told file job (Ok c) a sound fits s start is came = rests_near job (Ok c) a sound fits s start came
near_begins told file job (Err fault) a sound fits s start is came = absurd came

pub going_begins : (job : CopyJob) (was : Progress) → BeginsIn job was → IsGoing was
going_begins job (Ok c) begins = tt
going_begins job (Err fault) begins = begins

pub under_way : (told : Type 0) (file : Option (List ℕ)) (job : CopyJob) (was : Progress) (a : Disk) → IsSound job was → BeginsIn job was → Fits job was a →
    IsUnderWay told file job was was a a
under_way told file job was a sound begins fits = record {
  since = λ source before is. looked_keeps (looked_none a);
  own = looked_keeps (looked_none a);
  near = near_begins told file job was a sound fits;
  reads = λ source is. window_begins job was source a begins;
  along = λ source start is came. came;
  window = refl;
}

-- ---- a step
pub window_stays : (job : CopyJob) (now next : Progress) (step : Step) → GoesTo job now next (Ok step) → window_in next ≡ window_in now
window_stays job (Ok c) (Ok d) (did.Unit k) to = ap (λ (x : Course). x.window) to.same
window_stays job (Ok c) (Ok d) (did.Kept k) to = ap (λ (x : Course). x.window) to
window_stays job (Ok c) (Ok d) (did.Range r) to = to.0.window
window_stays job (Ok c) (Ok d) did.Done to = ap (λ (x : Course). x.window) to
window_stays job (Ok c) (Err kept) step to = absurd to
window_stays job (Err kept) next step to = absurd to

pub going_on : (job : CopyJob) (now next : Progress) (step : Step) → GoesTo job now next (Ok step) → IsGoing next
going_on job (Ok c) (Ok d) step to = tt
going_on job (Ok c) (Err kept) step to = to
going_on job (Err kept) next step to = absurd to

module _ (told : Type 0) (file : Option (List ℕ)) (job : CopyJob) (was : Progress) (a b c : Disk) where
  pub since_then : (now : Progress) → IsUnderWay told file job was now a b → StepKeepsSince told file job now b c → RunKeepsSince told file job a c
  since_then now way keeps source before is = keeps_then (way.since source before is) (keeps source before is (way.reads source is))

  pub own_then : (now : Progress) → IsUnderWay told file job was now a b → KeepsOwn job.id b c → KeepsOwn job.id a c
  own_then now way keeps = keeps_then way.own keeps

  pub near_then : (now : Progress) → IsUnderWay told file job was now a b → StaysNear job now b c → StepsStayNear told file job was a c
  near_then (Ok d) way near s start is came =
      let next : Runs b c (IsNear job.id job.map s start d.window) = near s start (way.along (Some s) start is came) in
      runs_then (way.near s start is came) (subst (λ (w : ℕ). Runs b c (IsNear job.id job.map s start w)) way.window next)
  near_then (Err fault) way near s start is came = absurd (way.along (Some s) start is came)

  pub way_on : (now next : Progress) (step : Step) → IsUnderWay told file job was now a b → StepKeepsSince told file job now b c → KeepsOwn job.id b c →
      StaysNear job now b c → StepKeepsWindow told file job now next b c → StepGoesAlong told file job now next b c → GoesTo job now next (Ok step) →
      IsUnderWay told file job was next a c
  way_on now next step way keeps own near reads goes to = record {
    since = since_then now way keeps;
    own = own_then now way own;
    near = near_then now way near;
    reads = λ source is. reads source is (way.reads source is);
    along = λ source start is came. goes source start is (way.along source start is came);
    window = window_stays job now next step to ∙ way.window;
  }
