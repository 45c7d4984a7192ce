-- Two cases by hand, of a copy of three bytes in one range of one unit: what stands of it where its journal is opened.
use Rattle.std.specs.Prelude.{◌≡◌, ℕ, List, [], ◌∷◌, Some, None, take}
use Rattle.block_map.specs.declared.maps.BlockMap.{BlockMap}
use Rattle.journal_format.specs.Journals.{IsMarked, IsOpenedFor}
use Rattle.journal_format.specs.declared.jobs.JobId.{JobId}
use Rattle.copy_states.specs.Standing.{Standing}

abbrev pub small_map : BlockMap
small_map = record { size = 3; block = 512; ranges = record { first = 0; last = 0; digest = None } ∷ [] }

abbrev pub abc : List ℕ
abc = 97 ∷ 98 ∷ 99 ∷ []

-- a recorded unit is on the target
abbrev pub SmallIsCopied : Type 0
SmallIsCopied = (id : JobId) (t j : List ℕ) → id.unit ≡ 65536 → IsOpenedFor id j → IsMarked j 80 →
    Standing id small_map (Some abc) t j → take 3 t ≡ abc

-- a range that is checked before its unit is recorded doesn't stand
abbrev pub SmallIsInOrder : Type 0
SmallIsInOrder = (id : JobId) (t j : List ℕ) → id.unit ≡ 65536 → id.units ≡ 1 → IsOpenedFor id j → IsMarked j 81 →
    ¬ IsMarked j 80 → ¬ Standing id small_map (Some abc) t j
