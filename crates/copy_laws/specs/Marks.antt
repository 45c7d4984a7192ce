-- What writes of marks on the journal keep, of a pair of images; and what stands of itself.
use Rattle.std.specs.Prelude.{ℕ, ◌<◌, List, [], Option, IfSome, Contains, length, map, slice_index_or}
use Rattle.base_fields.specs.declared.spans.Span.{Span}
use Rattle.bench.specs.Disk.{Torn, TornAt}
use Rattle.block_map.specs.Units.{first_of, units_by_range}
use Rattle.block_map.specs.declared.maps.BlockMap.{BlockMap}
use Rattle.block_map.specs.declared.maps.Range.{Range}
use Rattle.journal_format.specs.Journals.{HasNoMark, IsHeld, IsOpenedFor, range_mark, unit_mark}
use Rattle.journal_format.specs.declared.jobs.JobId.{JobId}
use Rattle.copy_states.specs.Jobs.{AreChecked, AreRecorded, HasFrom, IsChecked, IsJobOf, IsRangeAt, IsUnitAt}
use Rattle.copy_states.specs.Standing.{Copied, HasItsDigest, Since, Standing}
use Rattle.copy_laws.specs.Writes.{NoneIsChecked}

-- the marks of these units are any, and all else is the same
abbrev pub MarksTorn : List ℕ → List ℕ → List ℕ → Type 0
MarksTorn ks = TornAt (λ place. Contains (map unit_mark ks) place)

-- the mark of range r is any
abbrev pub RangeMarkTorn : JobId → ℕ → List ℕ → List ℕ → Type 0
RangeMarkTorn id r = Torn (range_mark id r) 1

-- the marks of all units of range r are any
abbrev pub RowTorn : JobId → BlockMap → ℕ → List ℕ → List ℕ → Type 0
RowTorn id m r =
    Torn (unit_mark (first_of (units_by_range m id.unit) r)) (length (slice_index_or (units_by_range m id.unit) r []))

-- these are numbers of units, each of which reads on the target as the source's bytes
abbrev pub AreUnits : JobId → List ℕ → Type 0
AreUnits id ks = (k : ℕ) → Contains ks k → k < id.units

abbrev pub AreCopied : JobId → BlockMap → Option (List ℕ) → List ℕ → List ℕ → Type 0
AreCopied id m source ks t =
    IfSome source (λ s. (k : ℕ) (u : Span) → Contains ks k → IsUnitAt id m k u → HasFrom u s t)

-- ---- events
-- units are recorded that read as the source's bytes, of ranges that aren't checked
abbrev pub RecordingKeepsStanding : Type 0
RecordingKeepsStanding = (id : JobId) (m : BlockMap) (source : Option (List ℕ)) (ks t j new : List ℕ) → IsJobOf id m →
    MarksTorn ks j new → AreUnits id ks → NoneIsChecked id m ks j → AreCopied id m source ks t →
    Standing id m source t j → Standing id m source t new

-- a range is checked that has its digest, and of which every unit is recorded
abbrev pub CheckingKeepsStanding : Type 0
CheckingKeepsStanding = (id : JobId) (m : BlockMap) (source : Option (List ℕ)) (r : ℕ) (t j new : List ℕ) →
    IsJobOf id m → RangeMarkTorn id r j new → r < id.ranges →
    ((range : Range) → IsRangeAt m r range → HasItsDigest m t range) → AreRecorded id m r j →
    Standing id m source t j → Standing id m source t new

-- the marks of a range's units are cleared, all of which are recorded, where the range isn't checked
abbrev pub ClearingKeepsStanding : Type 0
ClearingKeepsStanding = (id : JobId) (m : BlockMap) (source : Option (List ℕ)) (r : ℕ) (t j new : List ℕ) →
    IsJobOf id m → RowTorn id m r j new → r < id.ranges → AreRecorded id m r j → ¬ IsChecked id r j →
    Standing id m source t j → Standing id m source t new

-- ---- what stands of itself
-- of a journal that isn't held, or isn't opened for the job, or that has no mark, nothing is said
abbrev pub UnheldStands : Type 0
UnheldStands = (id : JobId) (m : BlockMap) (source : Option (List ℕ)) (t j : List ℕ) →
    ¬ IsHeld j → Standing id m source t j

abbrev pub ForeignStands : Type 0
ForeignStands = (id : JobId) (m : BlockMap) (source : Option (List ℕ)) (t j : List ℕ) →
    ¬ IsOpenedFor id j → Standing id m source t j

abbrev pub NewStands : Type 0
NewStands = (id : JobId) (m : BlockMap) (source : Option (List ℕ)) (t j : List ℕ) →
    IsJobOf id m → HasNoMark id j → Standing id m source t j

-- so a first start has Since
abbrev pub FirstStart : Type 0
FirstStart = (id : JobId) (m : BlockMap) (source : Option (List ℕ)) (t j : List ℕ) →
    ¬ IsHeld j → Since id m source t t j

-- ---- done
-- where every range is checked, the copy is done
abbrev pub DoneIsCopied : Type 0
DoneIsCopied = (id : JobId) (m : BlockMap) (source : Option (List ℕ)) (before t j : List ℕ) → IsJobOf id m →
    AreChecked id j → Since id m source before t j → Copied id m source t j
