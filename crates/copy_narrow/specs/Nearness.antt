-- How near to the start of its run a stage of a copier stays: for every map of the job, every start and every source,
-- with s the source's bytes and w the run's window.
use Rattle.std.specs.Prelude.{◌≡◌, ◌≢◌, ℕ, ◌<◌, ◌≤◌, List, [], Option, Some, Contains, length}
use Rattle.bench.specs.declared.Dev.TheVariants.{Target, Journal}
use Rattle.bench.specs.Disk.{Disk, EachSince, IsSettled, Looked, Runs, Touches}
use Rattle.block_map.specs.Maps.{digest_in}
use Rattle.block_map.specs.declared.maps.BlockMap.{BlockMap}
use Rattle.block_map.specs.declared.maps.Range.{Range}
use Rattle.journal_format.specs.Journals.{range_mark, unit_mark}
use Rattle.journal_format.specs.declared.jobs.JobId.{JobId}
use Rattle.copy_states.specs.Along.{Along, IsPositionOn, Position}
use Rattle.copy_states.specs.Jobs.{IsJobOf, IsRangeAt}
use Rattle.copy_states.specs.Starts.{IsIdle, MixedGives, Pair}
use Rattle.copy_laws.specs.Narrowing.{AreOpen, IsNear}
use Rattle.copy_laws.specs.Ranges.{IsAtEnd}
use Rattle.copy_laws.specs.Steps.{joined_window}
use Rattle.copy_laws.specs.Writes.{UnitsTorn}
use Rattle.copy_stages.specs.Stages.{AreBytesOf, AreUnitsOf, Closes}

-- ---- before a stage
-- At p the copier was along with the target t. Since then only these units, which are open, may have been written: what
-- the target reads, and each image of it, is t but for their bytes. The journal is settled.
pub record IsOpenAlong (id : JobId) (m : BlockMap) (source : Option (List ℕ)) (start : Pair) (w : ℕ) (p : Position)
    (units t : List ℕ) (disk : Disk) : Type 0 where
  pub along : Along id m source start w p t (disk.reads Journal)
  pub may_be : AreOpen id m start p units
  pub reads : UnitsTorn id m units t (disk.reads Target)
  pub images : (image : List ℕ) → disk.leaves Target image → UnitsTorn id m units t image
  pub journal : IsSettled disk Journal

-- At p, in a range, the copier is along as the devices read, and both are settled.
pub record IsSettledAlong (id : JobId) (m : BlockMap) (source : Option (List ℕ)) (start : Pair) (w : ℕ) (p : Position)
    (disk : Disk) : Type 0 where
  pub along : Along id m source start w p (disk.reads Target) (disk.reads Journal)
  pub position : IsPositionOn id m (disk.reads Journal) w p
  pub target : IsSettled disk Target
  pub journal : IsSettled disk Journal

-- At p the copier is along as the devices read. The journal is settled, and each image of the target is what it reads
-- but for the bytes of the window's units.
pub record IsWindowAlong (id : JobId) (m : BlockMap) (source : Option (List ℕ)) (start : Pair) (w : ℕ) (p : Position)
    (disk : Disk) : Type 0 where
  pub along : Along id m source start w p (disk.reads Target) (disk.reads Journal)
  pub images : (image : List ℕ) → disk.leaves Target image → UnitsTorn id m p.window (disk.reads Target) image
  pub journal : IsSettled disk Journal

-- so its window may have been written, and its present unit may be, where that is idle
abbrev pub WindowIsOpen : Disk → Type 0
WindowIsOpen disk = (id : JobId) (m : BlockMap) (source : Option (List ℕ)) (start : Pair) (w : ℕ) (p : Position) →
    IsWindowAlong id m source start w p disk →
    IsOpenAlong id m source start w p p.window (disk.reads Target) disk

abbrev pub WindowTakesUnit : Disk → Type 0
WindowTakesUnit disk = (id : JobId) (m : BlockMap) (source : Option (List ℕ)) (start : Pair) (w : ℕ) (p : Position) →
    IsWindowAlong id m source start w p disk → IsIdle id m start p.unit →
    IsOpenAlong id m source start w p (joined_window p) (disk.reads Target) disk

-- and where the window is empty, the target is settled, too
abbrev pub EmptyWindowIsSettled : Disk → Type 0
EmptyWindowIsSettled disk = (id : JobId) (m : BlockMap) (source : Option (List ℕ)) (start : Pair) (w : ℕ)
    (p : Position) → IsWindowAlong id m source start w p disk → IsPositionOn id m (disk.reads Journal) w p →
    p.window ≡ [] → IsSettledAlong id m source start w p disk

-- From what may have been written the copier comes to a window again: where it is along as the devices read, with
-- these units in its window, or with both devices settled.
abbrev pub OpenIsWindow : Disk → Type 0
OpenIsWindow disk = (id : JobId) (m : BlockMap) (source : Option (List ℕ)) (start : Pair) (w : ℕ) (p next : Position)
    (units t : List ℕ) → IsOpenAlong id m source start w p units t disk →
    Along id m source start w next (disk.reads Target) (disk.reads Journal) →
    ((k : ℕ) → Contains units k → Contains next.window k) → IsWindowAlong id m source start w next disk

abbrev pub SettledIsWindow : Disk → Type 0
SettledIsWindow disk = (id : JobId) (m : BlockMap) (source : Option (List ℕ)) (start : Pair) (w : ℕ) (p : Position) →
    Along id m source start w p (disk.reads Target) (disk.reads Journal) → IsSettled disk Target →
    IsSettled disk Journal → IsWindowAlong id m source start w p disk

-- ---- since a stage
-- each pair that a stop since may have left is narrow, and keeps what the start has
abbrev pub StaysNear : JobId → BlockMap → List ℕ → Pair → ℕ → Disk → Disk → Type 0
StaysNear id m s start w old new = Runs old new (IsNear id m s start w)

-- nothing is written
abbrev pub LookingIsNear : Disk → Disk → Type 0
LookingIsNear old new = (id : JobId) (m : BlockMap) (source : Option (List ℕ)) (s : List ℕ) (start : Pair) (w : ℕ)
    (p : Position) (units t : List ℕ) → IsJobOf id m → IsOpenAlong id m source start w p units t old →
    StaysNear id m s start w old new

-- n bytes at an offset are written, of an open unit
abbrev pub WritingIsNear : ℕ → ℕ → Disk → Disk → Type 0
WritingIsNear at n old new = (id : JobId) (m : BlockMap) (source : Option (List ℕ)) (s : List ℕ) (start : Pair) (w : ℕ)
    (p : Position) (units t : List ℕ) (k : ℕ) → IsJobOf id m → IsOpenAlong id m source start w p units t old →
    Contains units k → AreBytesOf id m k at n → StaysNear id m s start w old new

-- and the copier may go on from there: that unit is one of those that may have been written
abbrev pub WritingStaysOpen : ℕ → ℕ → Disk → Disk → Type 0
WritingStaysOpen at n old new = (id : JobId) (m : BlockMap) (source : Option (List ℕ)) (start : Pair) (w : ℕ)
    (p : Position) (units t : List ℕ) (k : ℕ) → IsJobOf id m → IsOpenAlong id m source start w p units t old →
    Contains units k → AreBytesOf id m k at n → IsOpenAlong id m source start w p units t new

-- the marks of open units are written
abbrev pub ClosingIsNear : JobId → List ℕ → Disk → Disk → Type 0
ClosingIsNear id ks old new = (m : BlockMap) (source : Option (List ℕ)) (s : List ℕ) (start : Pair) (w : ℕ)
    (p : Position) (units t : List ℕ) → IsJobOf id m → IsOpenAlong id m source start w p units t old →
    AreOpen id m start p ks → StaysNear id m s start w old new

-- the mark of the present range is written
abbrev pub CheckingIsNear : JobId → ℕ → Disk → Disk → Type 0
CheckingIsNear id r old new = (m : BlockMap) (source : Option (List ℕ)) (s : List ℕ) (start : Pair) (w : ℕ)
    (p : Position) → IsJobOf id m → IsSettledAlong id m source start w p old → p.range ≡ r → r < id.ranges →
    StaysNear id m s start w old new

-- units of the present range are taken back, whose digest isn't that of its Mixed
abbrev pub ClearingIsNear : JobId → ℕ → ℕ → Disk → Disk → Type 0
ClearingIsNear id first count old new = (m : BlockMap) (source : Option (List ℕ)) (s : List ℕ) (start : Pair) (w : ℕ)
    (p : Position) (want got : List ℕ) → IsJobOf id m → IsSettledAlong id m source start w p old →
    AreUnitsOf id m p.range first count → MixedGives id m s start p.range want got → want ≢ got →
    StaysNear id m s start w old new

-- ---- the laws, of what each stage says of the pairs since it began
abbrev pub LooksAreNear : Disk → Disk → Type 0
LooksAreNear old new = Looked old new → LookingIsNear old new

abbrev pub WritesAreNear : Disk → Disk → Type 0
WritesAreNear old new = (at n : ℕ) → Touches Target at n old new → WritingIsNear at n old new

abbrev pub WritesStayOpen : Disk → Disk → Type 0
WritesStayOpen old new = (at n : ℕ) → Touches Target at n old new → WritingStaysOpen at n old new

abbrev pub ClosingsAreNear : Disk → Disk → Type 0
ClosingsAreNear old new = (id : JobId) (ks : List ℕ) → Closes ks old new → ClosingIsNear id ks old new

abbrev pub ChecksAreNear : Disk → Disk → Type 0
ChecksAreNear old new = (id : JobId) (r : ℕ) → Touches Journal (range_mark id r) 1 old new → CheckingIsNear id r old new

abbrev pub ClearingsAreNear : Disk → Disk → Type 0
ClearingsAreNear old new = (id : JobId) (first count : ℕ) →
    Touches Journal (unit_mark first) count old new → ClearingIsNear id first count old new

-- what stays near from a state on is near at each moment since: a stop left no other pair
abbrev pub AllSinceAreNear : Disk → Disk → Type 0
AllSinceAreNear old new = (id : JobId) (m : BlockMap) (source : Option (List ℕ)) (s : List ℕ) (start : Pair) (w : ℕ)
    (p : Position) (units t : List ℕ) → IsJobOf id m → IsOpenAlong id m source start w p units t old →
    StaysNear id m s start w old new → EachSince old.moment new (IsNear id m s start w)

-- ---- a range that differs
-- at the end of a range that has a digest, the target's digest there is that of Mixed
abbrev pub EndGivesMixed : Type 0
EndGivesMixed = (id : JobId) (m : BlockMap) (s : List ℕ) (start : Pair) (w : ℕ) (p : Position) (t j want : List ℕ)
    (range : Range) → IsJobOf id m → m.size ≤ length start.target → Along id m (Some s) start w p t j →
    IsPositionOn id m j w p → IsAtEnd id m p → IsRangeAt m p.range range → range.digest ≡ Some want →
    MixedGives id m s start p.range want (digest_in m t range)
