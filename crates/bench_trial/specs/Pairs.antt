-- Which images calls of a journal leave.
use Rattle.std.specs.Prelude.{◌≡◌, ◌⊎◌, ℕ, ◌+◌, List, length, Contains, map}
use Rattle.base_fields.specs.Fields.{written}
use Rattle.bench.specs.declared.Dev.TheVariants.{Target, Journal}
use Rattle.bench.specs.Disk.{After, Disk, Torn}

-- the place is that of one of these units' marks
abbrev pub IsMarkOf : List ℕ → ℕ → Type 0
IsMarkOf units place = Contains (map (λ unit. 80 + unit) units) place

-- an image of the journal is one of before, or what it read with any byte at the gate
abbrev pub ClosedOrBefore : Disk → List ℕ → Type 0
ClosedOrBefore old image = old.leaves Journal image ⊎ Torn 8 1 (old.reads Journal) image

-- a pair of images: the target is torn in the unit, and the journal is as before; or the unit is written, and the
-- journal is torn in the mark
abbrev pub Put : Disk → ℕ → List ℕ → ℕ → List ℕ → List ℕ → Type 0
Put old at bytes place t j =
    (After (Torn at (length bytes)) (old.leaves Target) t × old.leaves Journal j)
    ⊎ ((t ≡ written (old.reads Target) at bytes) × After (Torn place 1) (old.leaves Journal) j)
