-- What a move of a copier keeps: for every source, whose bytes are None where they aren't told, every target at the
-- first start, and every start of the run.
use Rattle.std.specs.Prelude.{◌≡◌, ◌≢◌, ◌⊎◌, ℕ, ◌+◌, List, [], ◌∷◌, ◌++◌, Option, MatchOption, Some, IfSome, length, slice_index_or}
use Rattle.base_fields.specs.declared.spans.Span.{Span}
use Rattle.bench.specs.declared.Dev.TheVariants.{Target, Journal}
use Rattle.bench.specs.Disk.{Disk, Keeps}
use Rattle.bench.specs.Meter.{Meter}
use Rattle.block_map.specs.Maps.{digest_in}
use Rattle.block_map.specs.declared.maps.Range.{Range}
use Rattle.sha2.specs.Hashers.{Holds256}
use Rattle.sha2.specs.Sha256.{sha256}
use Rattle.copy_journal.specs.Faults.{HasFailed}
use Rattle.copy_states.specs.Along.{Along}
use Rattle.copy_states.specs.Jobs.{IsChecked, IsInRange, IsRangeAt, IsRecorded, IsUnitAt}
use Rattle.copy_states.specs.Standing.{Since}
use Rattle.copy_states.specs.Starts.{Pair}
use Rattle.copy_laws.specs.Marks.{AreCopied}
use Rattle.copy_narrow.specs.Nearness.{StaysNear}
use Rattle.copy_narrow.specs.Written.{AreFrom}
use Rattle.copier_course.specs.Courses.{AreMarkedIn, GoesOn, IsFull, position_of, rows_in}
use Rattle.copier_course.specs.declared.courses.Course.{Course}
use Rattle.copier_course.specs.declared.jobs.CopyJob.{CopyJob}
use Rattle.copier_moves.specs.declared.faults.EndFault.{EndFault}
use Rattle.copier_moves.specs.declared.faults.EndFault.TheVariants.{DeviceFault, RangeDiffers}

-- ---- what is asked of the source
-- the units of the window read as the source's bytes
abbrev pub WindowIsCopied : CopyJob → Option (List ℕ) → Course → Disk → Type 0
WindowIsCopied job source c disk = AreCopied job.id job.map source c.pending (disk.reads Target)

-- these bytes are the source's at unit k
abbrev pub AreSources : CopyJob → Option (List ℕ) → ℕ → List ℕ → Type 0
AreSources job source k bytes = IfSome source (λ s. (u : Span) → IsUnitAt job.id job.map k u → AreFrom u s bytes)

-- the copier has come along from this start
abbrev pub IsAlong : CopyJob → Option (List ℕ) → Pair → Course → Disk → Type 0
IsAlong job source start c disk =
    Along job.id job.map source start c.window (position_of c) (disk.reads Target) (disk.reads Journal)

-- ---- a unit is put
-- Where the window's units read as the source's bytes and the given bytes are the source's, where its bytes are told,
-- each pair since has Since where each pair had.
abbrev pub PuttingKeepsSince : CopyJob → Course → List ℕ → Disk → Disk → Type 0
PuttingKeepsSince job c bytes old new = (source : Option (List ℕ)) (before : List ℕ) →
    WindowIsCopied job source c old → AreSources job source c.unit bytes →
    Keeps (Since job.id job.map source before) old new

-- and so the window that it leaves reads
abbrev pub PuttingKeepsCopied : CopyJob → List ℕ → Course → Course → Disk → Disk → Type 0
PuttingKeepsCopied job bytes was now old new = (source : Option (List ℕ)) →
    WindowIsCopied job source was old → AreSources job source was.unit bytes → WindowIsCopied job source now new

abbrev pub PuttingIsAlong : CopyJob → List ℕ → Course → Course → Disk → Disk → Type 0
PuttingIsAlong job bytes was now old new = (source : Option (List ℕ)) (start : Pair) →
    IsAlong job source start was old → AreSources job source was.unit bytes → IsAlong job source start now new

-- the course behind its present unit, which has joined the window
abbrev pub joined : Course → Course
joined c = record c { unit = c.unit + 1; pending = c.pending ++ c.unit ∷ [] }

-- with the unit the window has room and the range a further unit that isn't recorded, and nothing was recorded
pub record LeavesOpen (job : CopyJob) (c new : Course) : Type 0 where
  pub open_on : GoesOn job c
  pub units : new.units ≡ c.units
  pub pending : new.pending ≡ c.pending

-- with the unit the window was full, or the range has no further one that isn't recorded; the window's units were
-- recorded, and no other
pub record ClosesFull (job : CopyJob) (c new : Course) : Type 0 where
  pub full : IsFull job c
  pub units : AreMarkedIn c.pending c.units new.units
  pub pending : new.pending ≡ []

-- the present unit is passed: it has joined the window, whose units were recorded exactly where it was full with it
pub record IsPut (job : CopyJob) (old new : Course) : Type 0 where
  pub same : new ≡ record old { units = new.units; unit = old.unit + 1; pending = new.pending; hash = new.hash }
  pub window : LeavesOpen job (joined old) new ⊎ ClosesFull job (joined old) new

-- ---- a move without bytes from outside
abbrev pub MovingKeepsSince : CopyJob → Disk → Disk → Type 0
MovingKeepsSince job old new = (source : Option (List ℕ)) (before : List ℕ) →
    Keeps (Since job.id job.map source before) old new

abbrev pub MovingKeepsCopied : CopyJob → Course → Course → Disk → Disk → Type 0
MovingKeepsCopied job was now old new = (source : Option (List ℕ)) →
    WindowIsCopied job source was old → WindowIsCopied job source now new

abbrev pub MovingIsAlong : CopyJob → Course → Course → Disk → Disk → Type 0
MovingIsAlong job was now old new = (source : Option (List ℕ)) (start : Pair) →
    IsAlong job source start was old → IsAlong job source start now new

-- ---- of each move
-- each pair since is near to each start that the copier has come along from
abbrev pub MovingIsNear : CopyJob → Course → Disk → Disk → Type 0
MovingIsNear job c old new = (s : List ℕ) (start : Pair) → IsAlong job (Some s) start c old →
    StaysNear job.id job.map s start c.window old new

-- a recorded unit is passed
abbrev pub IsKept : Course → Course → Type 0
IsKept old new = new ≡ record old { unit = old.unit + 1; hash = new.hash }

-- ---- a range is ended
-- the map has this digest of the present range, and what is hashed has another
pub record IsDifference (job : CopyJob) (c : Course) (want got : List ℕ) : Type 0 where
  pub stated : (range : Range) → IsRangeAt job.map c.range range → range.digest ≡ Some want
  pub computed : (m : List ℕ) → Holds256 c.hash m → got ≡ sha256 m
  pub differs : want ≢ got

-- the present range has no digest, or what is hashed has it
abbrev pub IsNoDifference : CopyJob → Course → Type 0
IsNoDifference job c = (range : Range) (want m : List ℕ) → IsRangeAt job.map c.range range → range.digest ≡ Some want →
    Holds256 c.hash m → want ≡ sha256 m

abbrev pub Differs : CopyJob → Course → Option (List ℕ × List ℕ) → Type 0
Differs job c answer = MatchOption answer (IsNoDifference job c) (λ both. IsDifference job c both.0 both.1)

-- range r is the present one: the map has the wanted digest of it, and the target's bytes have another
pub record IsDiffering (told : Type 0) (job : CopyJob) (c : Course) (r : ℕ) (want got : List ℕ) (disk : Disk)
    : Type 0 where
  pub present : r ≡ c.range
  pub stated : (range : Range) → IsRangeAt job.map r range → range.digest ≡ Some want
  pub computed : told → (range : Range) → IsRangeAt job.map r range → got ≡ digest_in job.map (disk.reads Target) range
  pub differs : want ≢ got

-- why a range isn't ended
abbrev pub IsEndFault : Type 0 → CopyJob → Course → Disk → Meter → Meter → EndFault → Type 0
IsEndFault told job c disk old new (DeviceFault dev) = (dev ≡ Journal) × HasFailed dev old new
IsEndFault told job c disk old new (RangeDiffers r want got) = IsDiffering told job c r want got disk

-- after a difference no image of the journal has a unit of the range recorded, or the range checked
pub record NoneRecorded (job : CopyJob) (r : ℕ) (j : List ℕ) : Type 0 where
  pub units : (k : ℕ) → IsInRange job.id job.map k r → ¬ IsRecorded job.id k j
  pub range : ¬ IsChecked job.id r j

abbrev pub NoneIsLeft : CopyJob → Disk → EndFault → Type 0
NoneIsLeft job disk (DeviceFault dev) = Unit {0}
NoneIsLeft job disk (RangeDiffers r want got) = (j : List ℕ) → disk.leaves Journal j → NoneRecorded job r j

-- how many units a range has
abbrev pub units_in_range : CopyJob → ℕ → ℕ
units_in_range job r = length (slice_index_or (rows_in job) r [])
