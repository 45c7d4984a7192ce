-- What a write of units to the target keeps, of a pair of images.
use Rattle.std.specs.Prelude.{ℕ, List, Option, Contains, IsTrue}
use Rattle.base_fields.specs.declared.spans.Span.{Span}
use Rattle.span_cover.specs.Cover.{has}
use Rattle.bench.specs.Disk.{Torn, TornAt}
use Rattle.block_map.specs.declared.maps.BlockMap.{BlockMap}
use Rattle.journal_format.specs.declared.jobs.JobId.{JobId}
use Rattle.copy_states.specs.Jobs.{IsJobOf, IsRecorded, IsUnchecked, IsUnitAt}
use Rattle.copy_states.specs.Standing.{CheckedAreRight, RecordedAreCopied, SameOffMap, Since, Standing}

-- an offset is one of these units'
abbrev pub IsByteIn : JobId → BlockMap → List ℕ → ℕ → Type 0
IsByteIn id m ks o = (k : ℕ) × (u : Span) × Contains ks k × IsUnitAt id m k u × IsTrue (has u o)

-- the bytes of these units are any, and all else is the same
abbrev pub UnitsTorn : JobId → BlockMap → List ℕ → List ℕ → List ℕ → Type 0
UnitsTorn id m ks = TornAt (IsByteIn id m ks)

-- the bytes of unit k are
pub record UnitTorn (id : JobId) (m : BlockMap) (k : ℕ) (old new : List ℕ) : Type 0 where
  pub span : Span
  pub is : IsUnitAt id m k span
  pub torn : Torn span.at span.len old new

-- one of them is a torn list of one
abbrev pub OneUnitTorn : Type 0
OneUnitTorn = (id : JobId) (m : BlockMap) (ks : List ℕ) (k : ℕ) (t new : List ℕ) → Contains ks k →
    UnitTorn id m k t new → UnitsTorn id m ks t new

-- none of these units is recorded
abbrev pub NoneIsRecorded : JobId → List ℕ → List ℕ → Type 0
NoneIsRecorded id ks j = (k : ℕ) → Contains ks k → ¬ IsRecorded id k j

-- and none is in a range that is checked
abbrev pub NoneIsChecked : JobId → BlockMap → List ℕ → List ℕ → Type 0
NoneIsChecked id m ks j = (k : ℕ) → Contains ks k → IsUnchecked id m k j

-- ---- part by part
abbrev pub WritesKeepDigests : Type 0
WritesKeepDigests = (id : JobId) (m : BlockMap) (ks t new j : List ℕ) → IsJobOf id m → UnitsTorn id m ks t new →
    NoneIsChecked id m ks j → CheckedAreRight id m t j → CheckedAreRight id m new j

abbrev pub WritesKeepBytes : Type 0
WritesKeepBytes = (id : JobId) (m : BlockMap) (source : Option (List ℕ)) (ks t new j : List ℕ) → IsJobOf id m →
    UnitsTorn id m ks t new → NoneIsRecorded id ks j →
    RecordedAreCopied id m source t j → RecordedAreCopied id m source new j

abbrev pub WritesKeepTheRest : Type 0
WritesKeepTheRest = (id : JobId) (m : BlockMap) (ks before t new : List ℕ) → IsJobOf id m → UnitsTorn id m ks t new →
    SameOffMap m before t → SameOffMap m before new

-- ---- the whole
abbrev pub WritesKeepStanding : Type 0
WritesKeepStanding = (id : JobId) (m : BlockMap) (source : Option (List ℕ)) (ks t new j : List ℕ) → IsJobOf id m →
    UnitsTorn id m ks t new → NoneIsRecorded id ks j → NoneIsChecked id m ks j →
    Standing id m source t j → Standing id m source new j

abbrev pub WritesKeepSince : Type 0
WritesKeepSince = (id : JobId) (m : BlockMap) (source : Option (List ℕ)) (before ks t new j : List ℕ) → IsJobOf id m →
    UnitsTorn id m ks t new → NoneIsRecorded id ks j → NoneIsChecked id m ks j →
    Since id m source before t j → Since id m source before new j
