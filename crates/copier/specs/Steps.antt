-- What a step of a copier answers, where it leaves the copier, and what it costs.
use Rattle.std.specs.Prelude.{◌≡◌, ℕ, ◌+◌, ◌-◌, ◌*◌, ◌<◌, List, Result, Ok, Err, IsOk}
use Rattle.base_fields.specs.declared.spans.Span.{Span}
use Rattle.bench.specs.Meter.{Costs, Meter}
use Rattle.outside.specs.Files.{Tree}
use Rattle.outside.specs.Reading.{span_of}
use Rattle.outside.specs.declared.reading.FillFault.{FillFault}
use Rattle.outside.specs.declared.reading.FillFault.TheVariants as fill
use Rattle.copy_states.specs.Jobs.{IsUnitAt}
use Rattle.copier_course.specs.Courses.{Checks, IsAtFirst}
use Rattle.copier_course.specs.declared.courses.Course.{Course}
use Rattle.copier_course.specs.declared.jobs.CopyJob.{CopyJob}
use Rattle.copier_course.specs.declared.jobs.Need.{Need}
use Rattle.copier_course.specs.declared.jobs.Need.TheVariants as need
use Rattle.copier_moves.specs.Moves.{IsKept, IsPut, units_in_range}
use Rattle.copier.specs.Copiers.{Progress, next_of}
use Rattle.copier.specs.declared.faults.CopyFault.{CopyFault}
use Rattle.copier.specs.declared.faults.CopyFault.TheVariants.{TargetTooSmall, JournalHeld, NoJournal, JournalForeign, SourceShort, Missing, FileFault, DeviceFault, RangeDiffers, NoMemory}
use Rattle.copier.specs.declared.steps.Step.{Step}
use Rattle.copier.specs.declared.steps.Step.TheVariants as did

-- ---- what is answered
-- what was to be done where this step is answered
abbrev pub needed : Step → Need
needed (did.Unit k) = need.Unit k
needed (did.Kept k) = need.Kept k
needed (did.Range r) = need.Range r
needed did.Done = need.Done

-- what is Ok is what was to be done
abbrev pub IsForNext : CopyJob → Progress → Result Step CopyFault → Type 0
IsForNext job was (Ok step) = next_of job was ≡ needed step
IsForNext job was (Err fault) = Unit {0}

-- the step of unit k, or a refusal
abbrev pub IsForUnit : ℕ → Result Step CopyFault → Type 0
IsForUnit k (Ok step) = step ≡ did.Unit k
IsForUnit k (Err fault) = Unit {0}

-- ---- where it leaves the copier
-- from one course to the next by a step; behind a range it is the first unit of another
abbrev pub Passes : CopyJob → Course → Course → Step → Type 0
Passes job c d (did.Unit k) = IsPut job c d
Passes job c d (did.Kept k) = IsKept c d
Passes job c d (did.Range r) = Checks c d × IsAtFirst job d
Passes job c d did.Done = d ≡ c

-- Ok takes the copier to its next course; a refusal is kept, and a kept one is answered again
abbrev pub GoesTo : CopyJob → Progress → Progress → Result Step CopyFault → Type 0
GoesTo job (Ok c) (Ok d) (Ok step) = Passes job c d step
GoesTo job (Ok c) (Err kept) (Ok step) = ⊥
GoesTo job (Ok c) now (Err fault) = now ≡ Err fault
GoesTo job (Err kept) now (Ok step) = ⊥
GoesTo job (Err kept) now (Err fault) = (fault ≡ kept) × (now ≡ Err kept)

-- how many units and ranges stand at the present ones or behind them
abbrev pub left_of : CopyJob → Progress → ℕ
left_of job (Ok c) = (job.id.units - c.unit) + (job.id.ranges - c.range)
left_of job (Err fault) = 0

-- each step but the last leaves fewer of them
abbrev pub LeavesFewer : CopyJob → Progress → Progress → Result Step CopyFault → Type 0
LeavesFewer job was now (Ok (did.Unit k)) = left_of job now < left_of job was
LeavesFewer job was now (Ok (did.Kept k)) = left_of job now < left_of job was
LeavesFewer job was now (Ok (did.Range r)) = left_of job now < left_of job was
LeavesFewer job was now (Ok did.Done) = now ≡ was
LeavesFewer job was now (Err fault) = Unit {0}

-- ---- what it calls and costs
-- nothing is left to be called: all is done, or the copier has refused
abbrev pub IsIdleNeed : Need → Type 0
IsIdleNeed (need.Unit k) = ⊥
IsIdleNeed (need.Kept k) = ⊥
IsIdleNeed (need.Range r) = ⊥
IsIdleNeed need.Done = Unit {0}
IsIdleNeed need.Failed = Unit {0}

-- a unit is to be written
abbrev pub IsUnitNeed : Need → Type 0
IsUnitNeed (need.Unit k) = Unit {0}
IsUnitNeed (need.Kept k) = ⊥
IsUnitNeed (need.Range r) = ⊥
IsUnitNeed need.Done = ⊥
IsUnitNeed need.Failed = ⊥

-- the work of a step, by what was to be done: for each unit of a range 2 more where that isn't ended
abbrev pub CostsFor : CopyJob → Need → Result Step CopyFault → Meter → Meter → Type 0
CostsFor job (need.Unit k) answer old new = (u : Span) → IsUnitAt job.id job.map k u → Costs (1024 + u.len) old new
CostsFor job (need.Kept k) answer old new = Costs 1024 old new
CostsFor job (need.Range r) (Ok step) old new = Costs 1024 old new
CostsFor job (need.Range r) (Err fault) old new = Costs (1024 + 2 * units_in_range job r) old new
CostsFor job need.Done answer old new = Costs 0 old new
CostsFor job need.Failed answer old new = Costs 0 old new

-- ---- what it tells of the source
-- the wanted bytes were read, or they are refused as the files refuse them, or a call failed
abbrev pub ReadsInto : Result (List ℕ) FillFault → List ℕ → Result Unit CopyFault → Type 0
ReadsInto wanted got (Ok read) = wanted ≡ Ok got
ReadsInto wanted got (Err (TargetTooSmall has needs)) = ⊥
ReadsInto wanted got (Err (JournalHeld kept finished)) = ⊥
ReadsInto wanted got (Err NoJournal) = ⊥
ReadsInto wanted got (Err (JournalForeign kept given len)) = ⊥
ReadsInto wanted got (Err (SourceShort at)) = wanted ≡ Err (fill.Short at)
ReadsInto wanted got (Err Missing) = wanted ≡ Err fill.Missing
ReadsInto wanted got (Err FileFault) = Unit {0}
ReadsInto wanted got (Err (DeviceFault dev)) = ⊥
ReadsInto wanted got (Err (RangeDiffers range want other)) = ⊥
ReadsInto wanted got (Err NoMemory) = ⊥

-- the bytes of a unit are there, or they are refused as the files refuse them, or a call failed
abbrev pub TellsSource : Result (List ℕ) FillFault → Result Step CopyFault → Type 0
TellsSource wanted (Ok step) = IsOk wanted
TellsSource wanted (Err (TargetTooSmall has needs)) = ⊥
TellsSource wanted (Err (JournalHeld kept finished)) = ⊥
TellsSource wanted (Err NoJournal) = ⊥
TellsSource wanted (Err (JournalForeign kept given len)) = ⊥
TellsSource wanted (Err (SourceShort at)) = wanted ≡ Err (fill.Short at)
TellsSource wanted (Err Missing) = wanted ≡ Err fill.Missing
TellsSource wanted (Err FileFault) = Unit {0}
TellsSource wanted (Err (DeviceFault dev)) = IsOk wanted
TellsSource wanted (Err (RangeDiffers range want got)) = ⊥
TellsSource wanted (Err NoMemory) = ⊥

-- so it is where a unit is to be written, of its bytes in the source's file
abbrev pub ReadsSource : Tree → CopyJob → Progress → Result Step CopyFault → Type 0
ReadsSource file job was answer = (k : ℕ) (u : Span) → next_of job was ≡ need.Unit k → IsUnitAt job.id job.map k u →
    TellsSource (span_of (file job.source) u.at u.len) answer
