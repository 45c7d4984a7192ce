-- What holds of a copier at the end of a range.
use Rattle.std.specs.Prelude.{◌≡◌, ℕ, ◌+◌, ◌<◌, ◌≤◌, List, [], Option, Some, length}
use Rattle.block_map.specs.Units.{first_of, units_by_range}
use Rattle.block_map.specs.declared.maps.BlockMap.{BlockMap}
use Rattle.journal_format.specs.declared.jobs.JobId.{JobId}
use Rattle.copy_states.specs.Along.{Along, IsPositionOn, Position}
use Rattle.copy_states.specs.Jobs.{IsChecked, IsJobOf}
use Rattle.copy_states.specs.Starts.{HasMixed, Pair}
use Rattle.copy_laws.specs.Marks.{RangeMarkTorn}
use Rattle.copy_laws.specs.Opening.{IsAtOpening}

-- each unit of the present range is passed
pub record IsAtEnd (id : JobId) (m : BlockMap) (p : Position) : Type 0 where
  pub there : p.range < id.ranges
  pub end : p.unit ≡ first_of (units_by_range m id.unit) (p.range + 1)

-- what the target reads there is Mixed
abbrev pub EndHasMixed : Type 0
EndHasMixed = (id : JobId) (m : BlockMap) (s : List ℕ) (start : Pair) (w : ℕ) (p : Position) (t j : List ℕ) →
    IsJobOf id m → m.size ≤ length start.target → Along id m (Some s) start w p t j → IsPositionOn id m j w p →
    IsAtEnd id m p → HasMixed id m s start p.range t

-- where the window is empty and the range is checked, the copier is along at the first unit of the next range that
-- isn't
abbrev pub CheckedIsAlong : Type 0
CheckedIsAlong = (id : JobId) (m : BlockMap) (source : Option (List ℕ)) (start : Pair) (w : ℕ) (p next : Position)
    (t j j_new : List ℕ) → IsJobOf id m → Along id m source start w p t j → IsPositionOn id m j w p → IsAtEnd id m p →
    p.window ≡ [] → RangeMarkTorn id p.range j j_new → IsChecked id p.range j_new → IsAtOpening id m next j_new →
    Along id m source start w next t j_new
