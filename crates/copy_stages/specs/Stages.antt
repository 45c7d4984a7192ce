-- What the stages of a copier keep of each pair of images: for every map of the job, every source, whose bytes are
-- None where they aren't told, and every target at the first start.
use Rattle.std.specs.Prelude.{◌≡◌, ◌⊎◌, ℕ, ◌+◌, ◌<◌, ◌≤◌, List, [], ◌∷◌, Option, length, slice_index_or}
use Rattle.base_fields.specs.declared.spans.Span.{Span}
use Rattle.bench.specs.declared.Dev.TheVariants.{Target, Journal}
use Rattle.bench.specs.Disk.{After, Disk, EachPair, IsPair, Keeps, Runs}
use Rattle.block_map.specs.Units.{first_of, units_by_range}
use Rattle.block_map.specs.declared.maps.BlockMap.{BlockMap}
use Rattle.block_map.specs.declared.maps.Range.{Range}
use Rattle.journal_format.specs.declared.jobs.JobId.{JobId}
use Rattle.copy_states.specs.Jobs.{AreRecorded, IsChecked, IsJobOf, IsOwn, IsRangeAt, IsUnitAt}
use Rattle.copy_states.specs.Standing.{HasItsDigest, Since}
use Rattle.copy_laws.specs.Marks.{AreCopied, MarksTorn}
use Rattle.copy_laws.specs.Writes.{NoneIsChecked, NoneIsRecorded}

-- ---- whose journal it is
-- where each pair's journal isn't held or is opened for the job, so is that of each since
abbrev pub KeepsOwn : JobId → Disk → Disk → Type 0
KeepsOwn id = Keeps (λ t j. IsOwn id j)

-- ---- a unit is written
-- n bytes at an offset are unit k's
pub record AreBytesOf (id : JobId) (m : BlockMap) (k at n : ℕ) : Type 0 where
  pub span : Span
  pub is : IsUnitAt id m k span
  pub from : span.at ≤ at
  pub to : at + n ≤ span.at + span.len

-- a pair allows the write: the unit isn't recorded, nor is its range checked
pub record MayWrite (id : JobId) (m : BlockMap) (k : ℕ) (t j : List ℕ) : Type 0 where
  pub unrecorded : NoneIsRecorded id (k ∷ []) j
  pub unchecked : NoneIsChecked id m (k ∷ []) j

-- where each pair allows the write of a unit's bytes, it keeps Since
abbrev pub WritingKeepsSince : ℕ → ℕ → Disk → Disk → Type 0
WritingKeepsSince at n old new = (id : JobId) (m : BlockMap) (source : Option (List ℕ)) (before : List ℕ) (k : ℕ) →
    IsJobOf id m → AreBytesOf id m k at n → EachPair old (MayWrite id m k) → Keeps (Since id m source before) old new

-- ---- a window is closed
-- a pair is one from before, or the target is as it read and the journal has any marks of these units
abbrev pub IsClosingPair : List ℕ → Disk → List ℕ → List ℕ → Type 0
IsClosingPair ks old t j = IsPair old t j ⊎ ((t ≡ old.reads Target) × After (MarksTorn ks) (old.leaves Journal) j)

-- the marks of these units may have been written, once the target was settled
pub record Closes (ks : List ℕ) (old new : Disk) : Type 0 where
  pub target : new.reads Target ≡ old.reads Target
  pub journal : MarksTorn ks (old.reads Journal) (new.reads Journal)
  pub pairs : Runs old new (IsClosingPair ks old)

-- where the target reads the source's bytes at these units, and no image has a range of theirs checked, closing the
-- window keeps Since
abbrev pub ClosingKeepsSince : JobId → List ℕ → Disk → Disk → Type 0
ClosingKeepsSince id ks old new = (m : BlockMap) (source : Option (List ℕ)) (before : List ℕ) → IsJobOf id m →
    AreCopied id m source ks (old.reads Target) → ((j : List ℕ) → old.leaves Journal j → NoneIsChecked id m ks j) →
    Keeps (Since id m source before) old new

-- ---- a range is checked
-- a pair allows the mark: the range's digest, where it has one, is the target's, and all its units are recorded
pub record MayCheck (id : JobId) (m : BlockMap) (r : ℕ) (t j : List ℕ) : Type 0 where
  pub digest : (range : Range) → IsRangeAt m r range → HasItsDigest m t range
  pub recorded : AreRecorded id m r j

-- where each pair allows the mark of a range, it keeps Since
abbrev pub CheckingKeepsSince : JobId → ℕ → Disk → Disk → Type 0
CheckingKeepsSince id r old new = (m : BlockMap) (source : Option (List ℕ)) (before : List ℕ) → IsJobOf id m →
    EachPair old (MayCheck id m r) → Keeps (Since id m source before) old new

-- ---- the units of a range are taken back
-- these numbers are of units of range r
pub record AreUnitsOf (id : JobId) (m : BlockMap) (r first count : ℕ) : Type 0 where
  pub there : r < id.ranges
  pub from : first_of (units_by_range m id.unit) r ≤ first
  pub to : first + count ≤
      first_of (units_by_range m id.unit) r + length (slice_index_or (units_by_range m id.unit) r [])

-- a pair allows that: all units of the range are recorded, and it isn't checked
pub record MayClear (id : JobId) (m : BlockMap) (r : ℕ) (t j : List ℕ) : Type 0 where
  pub recorded : AreRecorded id m r j
  pub unchecked : ¬ IsChecked id r j

-- where each pair allows that units of a range are taken back, it keeps Since
abbrev pub ClearingKeepsSince : JobId → ℕ → ℕ → Disk → Disk → Type 0
ClearingKeepsSince id first count old new = (m : BlockMap) (source : Option (List ℕ)) (before : List ℕ) (r : ℕ) →
    IsJobOf id m → AreUnitsOf id m r first count → EachPair old (MayClear id m r) →
    Keeps (Since id m source before) old new
