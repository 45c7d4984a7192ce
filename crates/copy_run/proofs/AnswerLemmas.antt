-- What the last step gives the answer of a run.
use Rattle.std.proofs.Common.{◌≡◌, ℕ, ◌≤◌, List, get_or, subst, sym, arith}
use Rattle.std.proofs.lemmas.Option.{slice_get-get_or}
use Rattle.std.specs.Prelude.{Err, None, Ok, Option, Some}
use Rattle.bench.specs.declared.Dev.{Dev}
use Rattle.bench.specs.declared.Dev.TheVariants.{Journal, Target}
use Rattle.bench.specs.Disk.{Disk}
use Rattle.bench.specs.Meter.{Costs, Meter}
use Rattle.block_map.specs.Maps.{digest_in}
use Rattle.block_map.specs.declared.maps.Range.{Range}
use Rattle.outside.specs.Counts.{Counts, NoneFell, Rose}
use Rattle.copy_journal.specs.Faults.{HasFailed}
use Rattle.copy_states.specs.Jobs.{IsRangeAt}
use Rattle.copy_states.specs.Starts.{Pair}
use Rattle.copier.proofs.NeedLemmas.{range_next}
use Rattle.copier.specs.Copiers.{IsSound, Progress, next_of}
use Rattle.copier.specs.Ends as ends
use Rattle.copier.specs.Ends.{AreRight, StepEnds}
use Rattle.copier.specs.Faults.{NoneIsLeft}
use Rattle.copier.specs.Runs.{ClearsTheRange, HasStepCause, SameTarget}
use Rattle.copier.specs.Steps.{IsUnitNeed}
use Rattle.copier.specs.declared.faults.CopyFault.{CopyFault}
use Rattle.copier.specs.declared.faults.CopyFault.TheVariants.{TargetTooSmall, JournalHeld, NoJournal, JournalForeign, SourceShort, Missing, FileFault, DeviceFault, RangeDiffers, NoMemory}
use Rattle.copier.specs.declared.steps.Step.TheVariants as did
use Rattle.copier_course.specs.Courses.{IsCopyJob, IsCourse, need_of}
use Rattle.copier_course.specs.declared.courses.Course.{Course}
use Rattle.copier_course.specs.declared.jobs.CopyJob.{CopyJob}
use Rattle.copier_course.specs.declared.jobs.Need.{Need}
use Rattle.copier_course.specs.declared.jobs.Need.TheVariants as need
use Rattle.copier_moves.specs.Moves.{IsDiffering}
use Rattle.copy_run.specs.Faults.{IsDifference}
use Rattle.copy_run.specs.Runs.{IsOutcome}
use Rattle.copy_run.specs.Steps.{IsGoing, IsLastFault, IsUnderWay, StepsHaveOutcome}
use Rattle.copy_run.specs.declared.running.Tally.{Tally}

-- ---- counts
pub rose_more : (a b c : ℕ) → a ≤ b → Rose b c → Rose a c
rose_more a b c more rose = omega (arith, more, rose)

pub failed_more : (dev : Dev) (n : ℕ) (old mid new : Meter) → Costs n old mid → HasFailed dev mid new → HasFailed dev old new
failed_more Target n old mid new costs failed = rose_more old.faults.target mid.faults.target new.faults.target costs.target failed
failed_more Journal n old mid new costs failed = rose_more old.faults.journal mid.faults.journal new.faults.journal costs.journal failed

pub none_fell_yet : (a : Counts) → NoneFell a a
none_fell_yet a = record { faults = omega arith; absences = omega arith; ends = omega arith }

pub none_fell_then : (a b c : Counts) → NoneFell a b → NoneFell b c → NoneFell a c
none_fell_then a b c first second = record {
  faults = omega (arith, first.faults, second.faults);
  absences = omega (arith, first.absences, second.absences);
  ends = omega (arith, first.ends, second.ends);
}

-- ---- why the last step refuses
some_range : Range
some_range = record { first = 0; last = 0; digest = None }

differs_still : (told : Type 0) (job : CopyJob) (c : Course) (r : ℕ) (want got : List ℕ) (b e : Disk) → IsCopyJob job → IsCourse job c → need_of job c ≡ need.Range r →
    (told → (¬ IsUnitNeed (need_of job c)) → SameTarget b e) → IsDiffering told job c r want got b → IsDifference told job r want got e
differs_still told job c r want got b e is course next same differing =
    let at = range_next job c course r next in
    let range = get_or job.map.ranges r some_range in
    let there : IsRangeAt job.map r range = slice_get-get_or job.map.ranges r some_range (omega (arith, at.number, at.behind.there, is.of_map.ranges)) in
    let other : ¬ IsUnitNeed (need_of job c) = subst (λ (n : Need). ¬ IsUnitNeed n) (sym next) (λ never. never) in
    record {
      range = range;
      is = there;
      stated = differing.stated range there;
      computed = λ t. subst (λ (l : List ℕ). got ≡ digest_in job.map l range) (sym (same t other)) (differing.computed t range there);
      differs = differing.differs;
    }

module _ (told : Type 0) (job : CopyJob) (b e : Disk) (before mid after : Counts) (n : ℕ) (old x new : Meter) (fell : NoneFell before mid) (costs : Costs n old x) where
  cause_of : (c : Course) (fault : CopyFault) → IsCopyJob job → IsCourse job c → HasStepCause told job (Ok c) b mid after x new (Err fault) →
      (told → (¬ IsUnitNeed (need_of job c)) → SameTarget b e) → IsLastFault told job e before after old new fault
  cause_of c (TargetTooSmall has needs) is course cause same = cause
  cause_of c (JournalHeld kept finished) is course cause same = cause
  cause_of c NoJournal is course cause same = cause
  cause_of c (JournalForeign kept given len) is course cause same = cause
  cause_of c (SourceShort at) is course cause same = rose_more before.ends mid.ends after.ends fell.ends cause.1
  cause_of c Missing is course cause same = rose_more before.absences mid.absences after.absences fell.absences cause.1
  cause_of c FileFault is course cause same = rose_more before.faults mid.faults after.faults fell.faults cause.1
  cause_of c (DeviceFault dev) is course cause same = failed_more dev n old x new costs cause
  cause_of c (RangeDiffers r want got) is course cause same = differs_still told job c r want got b e is course cause.0 same cause.1
  cause_of c NoMemory is course cause same = cause

  pub last_cause : (now : Progress) (fault : CopyFault) → IsGoing now → IsSound job now → HasStepCause told job now b mid after x new (Err fault) →
      (told → (¬ IsUnitNeed (next_of job now)) → SameTarget b e) → IsLastFault told job e before after old new fault
  last_cause (Ok c) fault going sound cause same = cause_of c fault sound.of_job sound.course cause same
  last_cause (Err kept) fault going sound cause same = absurd going

-- and what it leaves of a range that differs
pub last_cleared : (job : CopyJob) (now : Progress) (e : Disk) (fault : CopyFault) → IsGoing now → ClearsTheRange job now e (Err fault) → NoneIsLeft job e fault
last_cleared job (Ok c) e fault going cleared = cleared
last_cleared job (Err kept) e fault going cleared = absurd going

-- ---- the outcome
refused_outcome : (job : CopyJob) (s : List ℕ) (start : Pair) (fault : CopyFault) → ends.IsOutcome job s start (Err fault) → IsOutcome job s start (Err fault)
refused_outcome job s start (TargetTooSmall has needs) so = tt
refused_outcome job s start (JournalHeld kept finished) so = tt
refused_outcome job s start NoJournal so = tt
refused_outcome job s start (JournalForeign kept given len) so = tt
refused_outcome job s start (SourceShort at) so = so
refused_outcome job s start Missing so = so
refused_outcome job s start FileFault so = tt
refused_outcome job s start (DeviceFault dev) so = tt
refused_outcome job s start (RangeDiffers range want got) so = so
refused_outcome job s start NoMemory so = tt

module _ (told : Type 0) (file : Option (List ℕ)) (job : CopyJob) (was now : Progress) (a b : Disk) (way : IsUnderWay told file job was now a b)
    (target : b.leaves Target (b.reads Target)) (journal : b.leaves Journal (b.reads Journal)) where
  pub last_outcome : (fault : CopyFault) → StepEnds told file job now b (Err fault) → StepsHaveOutcome told file job was a (Err fault)
  last_outcome fault ending s before start is each came =
      let right : AreRight job b = ((way.since (Some s) before is each).now (b.reads Target) (b.reads Journal) (target, journal)).standing.digests in
      refused_outcome job s start fault (ending s start is (way.along (Some s) start is came) right)

  pub done_outcome : (tally : Tally) → StepEnds told file job now b (Ok did.Done) → StepsHaveOutcome told file job was a (Ok tally)
  done_outcome tally ending s before start is each came =
      let right : AreRight job b = ((way.since (Some s) before is each).now (b.reads Target) (b.reads Journal) (target, journal)).standing.digests in
      ending s start is (way.along (Some s) start is came) right
