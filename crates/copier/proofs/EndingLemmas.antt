-- The outcome that a call's answer shows, by the move or the read that it makes.
use Rattle.std.proofs.Common.{◌≡◌, ℕ, ◌<◌, List, subst, sym}
use Rattle.std.specs.Prelude.{Err, IfErr, Ok, Option, Result, Some}
use Rattle.base_fields.specs.declared.spans.Span.{Span}
use Rattle.bench.specs.declared.Dev.{Dev}
use Rattle.bench.specs.declared.Dev.TheVariants.{Target}
use Rattle.bench.specs.Disk.{Disk}
use Rattle.block_map.specs.Maps.{digest_in}
use Rattle.block_map.specs.declared.maps.Range.{Range}
use Rattle.bench.specs.Meter.{Meter}
use Rattle.outside.specs.Reading.{span_of}
use Rattle.copy_states.specs.Jobs.{IsRangeAt, IsUnitAt}
use Rattle.copy_states.specs.Outcomes.{EndsDiffering}
use Rattle.copy_states.specs.Starts.{Pair}
use Rattle.copier_course.specs.declared.courses.Course.{Course}
use Rattle.copier_course.specs.declared.jobs.CopyJob.{CopyJob}
use Rattle.copier_course.specs.declared.jobs.Need.TheVariants as need
use Rattle.copier_moves.specs.Moves.{IsAlong, IsEndFault}
use Rattle.copier_moves.specs.Fitting.{IsFitting}
use Rattle.copier_moves.specs.declared.faults.EndFault.{EndFault}
use Rattle.copier_moves.specs.declared.faults.EndFault.TheVariants as ending
use Rattle.copier.proofs.NeedLemmas.{done_next, range_next, unit_next}
use Rattle.copier.proofs.OutcomeLemmas.{ends_differing, ends_done, ends_short}
use Rattle.copier.proofs.SourceLemmas.{read_short, read_there}
use Rattle.copier.specs.Copiers.{CameAlong, Fits, IsSound, Progress, next_of}
use Rattle.copier.specs.Ends.{AreRight, IsOutcome, KeepEnds, StepEnds}
use Rattle.copier.specs.Faults.{IsPutFault, of_ending}
use Rattle.copier.specs.Steps.{IsForUnit, ReadsInto}
use Rattle.copier.specs.declared.faults.CopyFault.{CopyFault}
use Rattle.copier.specs.declared.faults.CopyFault.TheVariants.{TargetTooSmall, JournalHeld, NoJournal, JournalForeign, SourceShort, Missing, FileFault, DeviceFault, RangeDiffers, NoMemory}
use Rattle.copier.specs.declared.steps.Step.{Step}
use Rattle.copier.specs.declared.steps.Step.TheVariants as did

-- ---- what is kept
pub device_ends : (job : CopyJob) (was : Progress) (a : Disk) (given : CopyFault) (dev : Dev) → given ≡ DeviceFault dev → KeepEnds job was a (Err given)
device_ends job was a given dev same s start along right = subst (λ (x : CopyFault). IsOutcome job s start (Err x)) (sym same) tt

pub kept_ends : (job : CopyJob) (was : Progress) (a : Disk) (kept given : CopyFault) → was ≡ Err kept → KeepEnds job was a (Err given)
kept_ends job was a kept given is s start along right = absurd (subst (λ (p : Progress). CameAlong job p (Some s) start a) is along)

pub done_ends : (job : CopyJob) (was : Progress) (a : Disk) → IsSound job was → next_of job was ≡ need.Done → Fits job was a → KeepEnds job was a (Ok did.Done)
done_ends job (Ok c) a sound next fits s start along right =
    ends_done job c sound.of_job sound.course a fits s start along right (done_next job c sound.course next)
done_ends job (Err fault) a sound next fits s start along right = absurd along

-- ---- a range that isn't ended
its_end : (told : Type 0) (job : CopyJob) (c : Course) (r : ℕ) (a : Disk) (old new : Meter) (fault : EndFault) → IsSound job (Ok c) → next_of job (Ok c) ≡ need.Range r →
    IsFitting job c a → told → IsEndFault told job c a old new fault → KeepEnds job (Ok c) a (Err (of_ending fault))
its_end told job c r a old new (ending.DeviceFault dev) sound next fits is cause s start along right = tt
its_end told job c r a old new (ending.RangeDiffers range want got) sound next fits is cause s start along right =
    let behind = (range_next job c sound.course r next).behind in
    let computed = subst (λ (n : ℕ). (d : Range) → IsRangeAt job.map n d → got ≡ digest_in job.map (a.reads Target) d) cause.present (cause.computed is) in
    let stated = subst (λ (n : ℕ). (d : Range) → IsRangeAt job.map n d → d.digest ≡ Some want) cause.present cause.stated in
    subst (λ (n : ℕ). EndsDiffering job.id job.map s start n want got) (sym cause.present)
    (ends_differing job c sound.of_job sound.course a fits s start along right behind want got stated computed cause.differs)

pub ended_ends : (told : Type 0) (job : CopyJob) (was : Progress) (c : Course) (r : ℕ) (a : Disk) (old new : Meter) (fault : EndFault) (given : CopyFault) → was ≡ Ok c → IsSound job was →
    next_of job was ≡ need.Range r → Fits job was a → told → given ≡ of_ending fault → IsEndFault told job c a old new fault → KeepEnds job was a (Err given)
ended_ends told job was c r a old new fault given is sound next fits known same cause s start along right =
    let here = its_end told job c r a old new fault (subst (λ (p : Progress). IsSound job p) is sound) (subst (λ (p : Progress). next_of job p ≡ need.Range r) is next)
    (subst (λ (p : Progress). Fits job p a) is fits) known cause s start (subst (λ (p : Progress). CameAlong job p (Some s) start a) is along) right in
    subst (λ (x : CopyFault). IsOutcome job s start (Err x)) (sym same) here

-- ---- a unit that is copied
pub copied_ends : (told : Type 0) (file : Option (List ℕ)) (job : CopyJob) (was : Progress) (a : Disk) (k : ℕ) (old new : Meter) (answer : Result Step CopyFault) → IsForUnit k answer →
    IfErr answer (IsPutFault old new) → StepEnds told file job was a answer
copied_ends told file job was a k old new (Ok (did.Unit x)) is cause s start source along right = tt
copied_ends told file job was a k old new (Ok (did.Kept x)) is cause s start source along right = tt
copied_ends told file job was a k old new (Ok (did.Range x)) is cause s start source along right = tt
copied_ends told file job was a k old new (Ok did.Done) is cause s start source along right = let never : ⊥ = cc in absurd never
copied_ends told file job was a k old new (Err (TargetTooSmall has needs)) is cause s start source along right = cause
copied_ends told file job was a k old new (Err (JournalHeld kept finished)) is cause s start source along right = cause
copied_ends told file job was a k old new (Err NoJournal) is cause s start source along right = cause
copied_ends told file job was a k old new (Err (JournalForeign kept given len)) is cause s start source along right = cause
copied_ends told file job was a k old new (Err (SourceShort at)) is cause s start source along right = absurd cause
copied_ends told file job was a k old new (Err Missing) is cause s start source along right = cause
copied_ends told file job was a k old new (Err FileFault) is cause s start source along right = tt
copied_ends told file job was a k old new (Err (DeviceFault dev)) is cause s start source along right = tt
copied_ends told file job was a k old new (Err (RangeDiffers range want got)) is cause s start source along right = absurd cause
copied_ends told file job was a k old new (Err NoMemory) is cause s start source along right = cause

-- ---- a unit that isn't read
module _ (job : CopyJob) (c : Course) (a : Disk) (k : ℕ) (u : Span) (sound : IsSound job (Ok c)) (next : next_of job (Ok c) ≡ need.Unit k) (at : IsUnitAt job.id job.map k u) (some : 0 < u.len) (fits : IsFitting job c a) (s : List ℕ) (start : Pair) (along : IsAlong job (Some s) start c a) (right : AreRight job a) where
  its_refusal : (got : List ℕ) (fault : CopyFault) → ReadsInto (span_of (Some s) u.at u.len) got (Err fault) → IsOutcome job s start (Err fault)
  its_refusal got (TargetTooSmall has needs) read = read
  its_refusal got (JournalHeld kept finished) read = read
  its_refusal got NoJournal read = read
  its_refusal got (JournalForeign kept given len) read = read
  its_refusal got (SourceShort place) read =
      let it = unit_next job c sound.course k next in
      let short = read_short u s place some read in
      ends_short job c sound.of_job sound.course a fits s start along it.inside it.unmarked u (subst (λ (n : ℕ). IsUnitAt job.id job.map n u) (sym it.number) at) some right place short.0 short.1
  its_refusal got Missing read = read_there u s some read
  its_refusal got FileFault read = tt
  its_refusal got (DeviceFault dev) read = tt
  its_refusal got (RangeDiffers range want other) read = absurd read
  its_refusal got NoMemory read = read

pub refused_ends : (told : Type 0) (file : Option (List ℕ)) (job : CopyJob) (was : Progress) (a : Disk) (k : ℕ) (u : Span) (got : List ℕ) (fault : CopyFault) → IsSound job was → next_of job was ≡ need.Unit k →
    IsUnitAt job.id job.map k u → 0 < u.len → Fits job was a → (told → ReadsInto (span_of file u.at u.len) got (Err fault)) → StepEnds told file job was a (Err fault)
refused_ends told file job (Ok c) a k u got fault sound next at some fits read s start source along right =
    its_refusal job c a k u sound next at some fits s start along right got fault
    (subst (λ (o : Option (List ℕ)). ReadsInto (span_of o u.at u.len) got (Err fault)) source.1 (read source.0))
refused_ends told file job (Err kept) a k u got fault sound next at some fits read s start source along right = absurd along
