-- Where a copier stands: what holds of its job, of what it keeps, and what it is to do next.
use Rattle.std.specs.Prelude.{◌≡◌, ◌≢◌, ℕ, ◌+◌, ◌-◌, ◌<◌, ◌≤◌, ◌⊎◌, List, [], ◌∷◌, ◌++◌, length, take, Option, MatchOption, Contains, nat_eq, if◌then◌else◌, slice_index, slice_index_or, slice_set}
use Rattle.base_fields.specs.declared.spans.Span.{Span}
use Rattle.sha2.specs.Hashers.{Holds256}
use Rattle.sha2.specs.Sha256.{sha256}
use Rattle.sha2.specs.declared.Sha256.{Sha256}
use Rattle.block_map.specs.Units.{cut_of, first_of, units_by_range}
use Rattle.journal_format.specs.JobFields.{IsWithinLimits}
use Rattle.journal_format.specs.Journals.{IsMarked, IsWindow}
use Rattle.copy_states.specs.Along.{IsPosition, Position}
use Rattle.copy_states.specs.Jobs.{IsJobOf}
use Rattle.copier_course.specs.declared.courses.Course.{Course}
use Rattle.copier_course.specs.declared.jobs.CopyJob.{CopyJob}
use Rattle.copier_course.specs.declared.jobs.Need.{Need}
use Rattle.copier_course.specs.declared.jobs.Need.TheVariants as need

-- a job's id and units are those of its map
pub record IsCopyJob (job : CopyJob) : Type 0 where
  pub of_map : IsJobOf job.id job.map
  pub cut : job.units ≡ cut_of job.map job.id.unit
  pub limits : IsWithinLimits job.id

-- the units of each range, and the number of the first unit of range r
abbrev pub rows_in : CopyJob → List (List Span)
rows_in job = units_by_range job.map job.id.unit

abbrev pub first_in : CopyJob → ℕ → ℕ
first_in job r = first_of (rows_in job) r

-- the position by what is kept
abbrev pub position_of : Course → Position
position_of c = record { unit = c.unit; range = c.range; window = c.pending }

-- What holds of a copier that hasn't refused: its marks are as many as the job's units and ranges, and by them its
-- position is one of a copier's.
pub record IsCourse (job : CopyJob) (c : Course) : Type 0 where
  pub units : length c.units ≡ job.id.units
  pub ranges : length c.ranges ≡ job.id.ranges
  pub window : IsWindow c.window
  pub position : IsPosition job.id job.map (IsMarked c.units) (IsMarked c.ranges) c.window (position_of c)

-- the present range isn't checked, and its present unit is to be passed; or each of its units is
pub record IsInside (job : CopyJob) (c : Course) : Type 0 where
  pub there : c.range < job.id.ranges
  pub below : c.unit < first_in job (c.range + 1)

pub record IsBehind (job : CopyJob) (c : Course) : Type 0 where
  pub there : c.range < job.id.ranges
  pub end : c.unit ≡ first_in job (c.range + 1)

-- what is to be done next
abbrev pub need_of : CopyJob → Course → Need
need_of job c =
    if nat_eq c.range job.id.ranges then need.Done
    else if nat_eq c.unit (first_in job (c.range + 1)) then need.Range c.range
    else if nat_eq (slice_index c.units c.unit) 0x44 then need.Kept c.unit
    else need.Unit c.unit

-- ---- steps
-- it is at a range's first unit, with no unit in its window, and nothing is hashed
pub record IsAtFirst (job : CopyJob) (c : Course) : Type 0 where
  pub unit : c.unit ≡ first_in job c.range
  pub pending : c.pending ≡ []
  pub hash : Holds256 c.hash []

-- these are the marks and the window that it keeps
pub record HasMarks (of_units of_ranges : List ℕ) (most : ℕ) (c : Course) : Type 0 where
  pub units : c.units ≡ of_units
  pub ranges : c.ranges ≡ of_ranges
  pub window : c.window ≡ most

-- whatever a hasher holds, these bytes are put behind it
abbrev pub Adds : List ℕ → Sha256 → Sha256 → Type 0
Adds bytes old new = (m : List ℕ) → Holds256 old m → Holds256 new (m ++ bytes)

-- the present unit is written: it joins the window, and its bytes are hashed
pub record Takes (bytes : List ℕ) (old new : Course) : Type 0 where
  pub same : new ≡ record old { unit = old.unit + 1; pending = old.pending ++ old.unit ∷ []; hash = new.hash }
  pub hash : Adds bytes old.hash new.hash

-- the window is full, or the range has no unit behind it that isn't recorded; or neither
abbrev pub IsFull : CopyJob → Course → Type 0
IsFull job c = c.window ≤ length c.pending ⊎ ((k : ℕ) → c.unit ≤ k → k < first_in job (c.range + 1) → IsMarked c.units k)

pub record GoesOn (job : CopyJob) (c : Course) : Type 0 where
  pub few : length c.pending < c.window
  pub next : ℕ
  pub behind : c.unit ≤ next
  pub within : next < first_in job (c.range + 1)
  pub unmarked : ¬ IsMarked c.units next

-- the units of the window are recorded, and all other marks are as they were
pub record AreMarkedIn (ks old new : List ℕ) : Type 0 where
  pub size : length new ≡ length old
  pub marked : (k : ℕ) → Contains ks k → IsMarked new k
  pub others : (k : ℕ) → ¬ Contains ks k → slice_index new k ≡ slice_index old k

pub record Records (old new : Course) : Type 0 where
  pub same : new ≡ record old { units = new.units; pending = [] }
  pub units : AreMarkedIn old.pending old.units new.units

-- the present range is checked, and the next one that isn't is begun
pub record Checks (old new : Course) : Type 0 where
  pub later : old.range < new.range
  pub units : new.units ≡ old.units
  pub ranges : new.ranges ≡ slice_set old.ranges old.range 0x44
  pub window : new.window ≡ old.window

-- the hash is that of these bytes, or it is another
abbrev pub Compares : List ℕ → List ℕ → Option (List ℕ) → Type 0
Compares want m answer = MatchOption answer (want ≡ sha256 m) (λ got. (got ≡ sha256 m) × (want ≢ got))
