-- Where a backup of a GUID partition table differs from the table in front (UEFI 2.10, section 5.3.2).
use Rattle.std.specs.Prelude.{ℕ, ◌==◌, ◌&&◌, not, List, [], ◌∷◌, Option}
use Rattle.std.specs.List.{position, zip}
use Rattle.table_reading.specs.Header.{Demand, demand, said}

-- both headers name the same usable LBAs and the same disk, whose identifier is two numbers of eight bytes
abbrev pub agreements : List ℕ → List ℕ → List Demand
agreements front back =
    demand 40 (said back 40 8 == said front 40 8)
    ∷ demand 48 (said back 48 8 == said front 48 8)
    ∷ demand 56 ((said back 56 8 == said front 56 8) && (said back 64 8 == said front 64 8))
    ∷ []

-- the offset of the first byte that isn't the same in both
abbrev pub first_unlike : List ℕ → List ℕ → Option ℕ
first_unlike bytes others = position (λ both. not (both.0 == both.1)) (zip bytes others)
