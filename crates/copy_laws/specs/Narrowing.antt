-- The law from Along to Narrow and Keeps: one start, one position of the copier, and one pair that differs from one
-- with Along only as the event allows that the copier makes there.
use Rattle.std.specs.Prelude.{◌≡◌, ◌≢◌, ◌⊎◌, ℕ, ◌<◌, List, Option, Contains}
use Rattle.block_map.specs.declared.maps.BlockMap.{BlockMap}
use Rattle.journal_format.specs.declared.jobs.JobId.{JobId}
use Rattle.copy_states.specs.Along.{Along, IsPositionOn, Position}
use Rattle.copy_states.specs.Jobs.{IsJobOf}
use Rattle.copy_states.specs.Narrow.{Keeps, Narrow}
use Rattle.copy_states.specs.Starts.{IsIdle, MixedGives, Pair}
use Rattle.copy_laws.specs.Marks.{MarksTorn, RangeMarkTorn, RowTorn}
use Rattle.copy_laws.specs.Writes.{UnitsTorn}

-- units of the open window, and the present unit where it is idle
abbrev pub AreOpen : JobId → BlockMap → Pair → Position → List ℕ → Type 0
AreOpen id m start p ks =
    (k : ℕ) → Contains ks k → Contains p.window k ⊎ ((k ≡ p.unit) × IsIdle id m start k)

-- the pair is narrow, and keeps what the start has
pub record IsNear (id : JobId) (m : BlockMap) (s : List ℕ) (start : Pair) (w : ℕ) (t j : List ℕ) : Type 0 where
  pub narrow : Narrow id m s start w t j
  pub keeps : Keeps id m s start t j

-- nothing, or writes of units and of their marks: the bytes and the marks of open units are any
abbrev pub UnitsAreNear : Type 0
UnitsAreNear = (id : JobId) (m : BlockMap) (source : Option (List ℕ)) (s : List ℕ) (start : Pair) (w : ℕ) (p : Position)
    (written marked t j t_new j_new : List ℕ) → IsJobOf id m → Along id m source start w p t j →
    AreOpen id m start p written → AreOpen id m start p marked →
    UnitsTorn id m written t t_new → MarksTorn marked j j_new → IsNear id m s start w t_new j_new

-- the write of the present range's mark
abbrev pub CheckIsNear : Type 0
CheckIsNear = (id : JobId) (m : BlockMap) (source : Option (List ℕ)) (s : List ℕ) (start : Pair) (w : ℕ) (p : Position)
    (t j j_new : List ℕ) → IsJobOf id m → Along id m source start w p t j → IsPositionOn id m j w p →
    p.range < id.ranges → RangeMarkTorn id p.range j j_new → IsNear id m s start w t j_new

-- the write over the marks of the present range's units, where its digest isn't that of its Mixed
abbrev pub ClearIsNear : Type 0
ClearIsNear = (id : JobId) (m : BlockMap) (source : Option (List ℕ)) (s : List ℕ) (start : Pair) (w : ℕ) (p : Position)
    (want got t j j_new : List ℕ) → IsJobOf id m → Along id m source start w p t j → IsPositionOn id m j w p →
    p.range < id.ranges → MixedGives id m s start p.range want got → want ≢ got →
    RowTorn id m p.range j j_new → IsNear id m s start w t j_new
