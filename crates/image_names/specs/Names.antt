-- Names among names.
use Rattle.std.specs.Prelude.{◌≡◌, ◌≢◌, ℕ, Bool, List, Option, Contains, position}
use Rattle.std.specs.List.{AllPairs, list_any}
use Rattle.std.specs.Str.{bytes_eq}

-- one of the names is this one
abbrev pub holds : List (List ℕ) → List ℕ → Bool
holds names name = list_any (bytes_eq name) names

-- two lists have the same names
abbrev pub HoldSame : List (List ℕ) → List (List ℕ) → Type 0
HoldSame names others = (name : List ℕ) → holds names name ≡ holds others name

-- the place of a name
abbrev pub number_of : List (List ℕ) → List ℕ → Option ℕ
number_of names name = position (bytes_eq name) names

-- no two of them are the same
abbrev pub AreApart : List (List ℕ) → Type 0
AreApart names = AllPairs (λ a b. a ≢ b) names

-- no name is in both
abbrev pub AreDisjoint : List (List ℕ) → List (List ℕ) → Type 0
AreDisjoint names others = (name : List ℕ) → Contains names name → Contains others name → ⊥
