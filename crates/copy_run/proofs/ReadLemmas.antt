-- What a refusal tells of the source's file.
use Rattle.std.proofs.Common.{◌≡◌, ℕ, ◌+◌, ◌≤◌, Bool, true, false, nat_le, nat_eq, List, [], length, take, drop, get_or, max, refl, arith, if◌then◌else◌}
use Rattle.std.specs.Prelude.{Err, IfSome, None, Ok, Option, Some}
use Rattle.base_fields.specs.declared.spans.Span.{Span}
use Rattle.bench.specs.Disk.{Disk}
use Rattle.bench.specs.Meter.{Meter}
use Rattle.block_map.specs.Units.{units_of}
use Rattle.outside.specs.Counts.{Counts}
use Rattle.outside.specs.Files.{Tree}
use Rattle.outside.specs.Reading.{span_of}
use Rattle.outside.specs.declared.reading.FillFault.TheVariants as fill
use Rattle.copier.proofs.NeedLemmas.{unit_next}
use Rattle.copier.specs.Copiers.{IsSound, Progress}
use Rattle.copier.specs.Faults.{IsOpenFault}
use Rattle.copier.specs.Runs.{HasStepCause}
use Rattle.copier.specs.Steps.{ReadsSource}
use Rattle.copier.specs.declared.faults.CopyFault.{CopyFault}
use Rattle.copier.specs.declared.faults.CopyFault.TheVariants.{TargetTooSmall, JournalHeld, NoJournal, JournalForeign, SourceShort, Missing, FileFault, DeviceFault, RangeDiffers, NoMemory}
use Rattle.copier_course.specs.declared.courses.Course.{Course}
use Rattle.copier_course.specs.declared.jobs.CopyJob.{CopyJob}
use Rattle.copy_run.proofs.WorkLemmas.{some_span, unit_there}
use Rattle.copy_run.specs.Runs.{TellsFile}
use Rattle.copy_run.specs.Steps.{IsGoing}

-- ---- of a span that was wanted
lacking : (b d : Bool) (part : List ℕ) (off at : ℕ) → (if b then Ok [] else (if d then Ok part else Err (fill.Short off))) ≡ Err (fill.Short at) → at ≡ off
lacking true d part off at is = let never : ⊥ = cc in absurd never
lacking false true part off at is = let never : ⊥ = cc in absurd never
lacking false false part off at is = cc

not_missing : (b d : Bool) (part : List ℕ) (off : ℕ) → (if b then Ok [] else (if d then Ok part else Err (fill.Short off))) ≡ Err fill.Missing → ⊥
not_missing true d part off is = cc
not_missing false true part off is = cc
not_missing false false part off is = cc

short_file : (file : Option (List ℕ)) (u : Span) (at : ℕ) → span_of file u.at u.len ≡ Err (fill.Short at) → IfSome file (λ s. length s ≤ at)
short_file None u at is = tt
short_file (Some s) u at is =
    let same : at ≡ max u.at (length s) = lacking (nat_eq u.len 0) (nat_le (u.at + u.len) (length s)) (take u.len (drop u.at s)) (max u.at (length s)) at is in
    omega (arith, same)

missing_file : (file : Option (List ℕ)) (u : Span) → span_of file u.at u.len ≡ Err fill.Missing → file ≡ None
missing_file None u is = refl
missing_file (Some s) u is = absurd (not_missing (nat_eq u.len 0) (nat_le (u.at + u.len) (length s)) (take u.len (drop u.at s)) (max u.at (length s)) is)

-- ---- of a step
module _ (told : Type 0) (tree : Tree) (job : CopyJob) (b : Disk) (mid after : Counts) (x new : Meter) where
  told_by : (c : Course) (fault : CopyFault) → IsSound job (Ok c) → ReadsSource tree job (Ok c) (Err fault) → HasStepCause told job (Ok c) b mid after x new (Err fault) →
      TellsFile (tree job.source) (Err fault)
  told_by c (TargetTooSmall has needs) sound reads cause = tt
  told_by c (JournalHeld kept finished) sound reads cause = tt
  told_by c NoJournal sound reads cause = tt
  told_by c (JournalForeign kept given len) sound reads cause = tt
  told_by c (SourceShort at) sound reads cause =
      let u = get_or (units_of job.map job.id.unit) c.unit some_span in
      let there = unit_there job c sound.of_job sound.course (unit_next job c sound.course c.unit cause.0).inside in
      short_file (tree job.source) u at (reads c.unit u cause.0 there)
  told_by c Missing sound reads cause =
      let u = get_or (units_of job.map job.id.unit) c.unit some_span in
      let there = unit_there job c sound.of_job sound.course (unit_next job c sound.course c.unit cause.0).inside in
      missing_file (tree job.source) u (reads c.unit u cause.0 there)
  told_by c FileFault sound reads cause = tt
  told_by c (DeviceFault dev) sound reads cause = tt
  told_by c (RangeDiffers range want got) sound reads cause = tt
  told_by c NoMemory sound reads cause = tt

  pub last_read : (now : Progress) (fault : CopyFault) → IsGoing now → IsSound job now → ReadsSource tree job now (Err fault) →
      HasStepCause told job now b mid after x new (Err fault) → TellsFile (tree job.source) (Err fault)
  last_read (Ok c) fault going sound reads cause = told_by c fault sound reads cause
  last_read (Err kept) fault going sound reads cause = absurd going

-- ---- of an opening, which reads no file
pub open_read : (told : Type 0) (file : Option (List ℕ)) (job : CopyJob) (t j : List ℕ) (old new : Meter) (fault : CopyFault) →
    IsOpenFault told job t j old new fault → TellsFile file (Err fault)
open_read told file job t j old new (TargetTooSmall has needs) cause = tt
open_read told file job t j old new (JournalHeld kept finished) cause = tt
open_read told file job t j old new NoJournal cause = tt
open_read told file job t j old new (JournalForeign kept given len) cause = tt
open_read told file job t j old new (SourceShort at) cause = absurd cause
open_read told file job t j old new Missing cause = absurd cause
open_read told file job t j old new FileFault cause = tt
open_read told file job t j old new (DeviceFault dev) cause = tt
open_read told file job t j old new (RangeDiffers range want got) cause = tt
open_read told file job t j old new NoMemory cause = tt
