-- What the steps add to the numbers of a run, and that they end.
use Rattle.std.proofs.Common.{◌≡◌, ℕ, ◌+◌, ◌<◌, ◌≤◌, List, refl, arith}
use Rattle.std.specs.Prelude.{Err, None, Ok, Option}
use Rattle.bench.specs.declared.Dev.TheVariants.{Journal, Target}
use Rattle.bench.specs.Disk.{Disk}
use Rattle.copy_states.specs.Starts.{Pair}
use Rattle.copier.specs.Copiers.{CameAlong, Fits, IsSound, Progress, next_of}
use Rattle.copier.specs.Steps.{GoesTo, LeavesFewer, left_of, needed}
use Rattle.copier.specs.declared.steps.Step.{Step}
use Rattle.copier.specs.declared.steps.Step.TheVariants as did
use Rattle.copier_course.specs.declared.courses.Course.{Course}
use Rattle.copier_course.specs.declared.jobs.CopyJob.{CopyJob}
use Rattle.copy_tally.specs.Laws.{DoneHaveAll, Stands, StepsAddUp, kept_by, written_by}
use Rattle.copy_run.specs.Steps.{AreCounted, IsGoing, IsUnderWay, StepsAreTallied}
use Rattle.copy_run.specs.declared.running.Tally.{Tally}

pub stands_at : (job : CopyJob) (source : Option (List ℕ)) (start : Pair) (c : Course) (a : Disk) → IsSound job (Ok c) → Fits job (Ok c) a →
    CameAlong job (Ok c) source start a → Stands job source start c (a.reads Target) (a.reads Journal)
stands_at job source start c a sound fits came = record {
  sound = sound.of_job;
  course = sound.course;
  opened = fits.opened;
  marks = fits.marks;
  along = came;
}

-- a copier that was just opened has none
pub none_counted : (job : CopyJob) (was : Progress) (a : Disk) → AreCounted job was was a 0 0
none_counted job was a start came none = none

-- a step adds what it did
pub counted_on : (told : Type 0) (file : Option (List ℕ)) (job : CopyJob) (was now next : Progress) (a b c : Disk) (step : Step) (w k : ℕ) → StepsAddUp →
    IsUnderWay told file job was now a b → IsUnderWay told file job was next a c → IsSound job now → IsSound job next → Fits job now b → Fits job next c →
    next_of job now ≡ needed step → GoesTo job now next (Ok step) → AreCounted job was now a w k →
    AreCounted job was next a (w + written_by step) (k + kept_by step)
counted_on told file job was (Ok d) (Ok e) a b c step w k law way after sound sounds fits fitting next to counted = λ start came none.
    law job None start d e (b.reads Target) (b.reads Journal) (c.reads Target) (c.reads Journal) step w k
    (stands_at job None start d b sound fits (way.along None start tt came))
    (stands_at job None start e c sounds fitting (after.along None start tt came))
    next to (counted start came none)
counted_on told file job was (Ok d) (Err kept) a b c step w k law way after sound sounds fits fitting next to counted = absurd to
counted_on told file job was (Err kept) next a b c step w k law way after sound sounds fits fitting is to counted = absurd to

-- where nothing is left they are those of the run
pub all_counted : (job : CopyJob) (was now : Progress) (a : Disk) (tally : Tally) → DoneHaveAll → IsGoing now → IsSound job now →
    next_of job now ≡ needed did.Done → tally.units ≡ job.id.units → AreCounted job was now a tally.written tally.kept →
    StepsAreTallied job was a (Ok tally)
all_counted job was (Ok c) a tally law going sound next units counted = λ start came none. record {
  units = units;
  run = law job start c tally.written tally.kept sound.of_job sound.course next (counted start came none);
}
all_counted job was (Err fault) a tally law going sound next units counted = absurd going

-- ---- a step but the last counts one unit at most, and leaves fewer units and ranges
pub fewer_left : (job : CopyJob) (now next : Progress) (step : Step) → (step ≡ did.Done → ⊥) → LeavesFewer job now next (Ok step) → left_of job next < left_of job now
fewer_left job now next (did.Unit k) other fewer = fewer
fewer_left job now next (did.Kept k) other fewer = fewer
fewer_left job now next (did.Range r) other fewer = fewer
fewer_left job now next did.Done other fewer = absurd (other refl)

-- at first as many are left at most as there are
pub few_begins : (job : CopyJob) (was : Progress) → 0 + 0 + left_of job was ≤ job.id.units + job.id.ranges
few_begins job (Ok c) = omega arith
few_begins job (Err fault) = omega arith

one_at_most : (step : Step) → written_by step + kept_by step ≤ 1
one_at_most (did.Unit k) = omega arith
one_at_most (did.Kept k) = omega arith
one_at_most (did.Range r) = omega arith
one_at_most did.Done = omega arith

pub few_counted : (job : CopyJob) (now next : Progress) (step : Step) (w k most : ℕ) → (step ≡ did.Done → ⊥) → LeavesFewer job now next (Ok step) →
    w + k + left_of job now ≤ most → (w + written_by step) + (k + kept_by step) + left_of job next ≤ most
few_counted job now next step w k most other fewer few = omega (arith, one_at_most step, fewer_left job now next step other fewer, few)
