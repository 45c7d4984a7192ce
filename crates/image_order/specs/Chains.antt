-- The children of each image, and chains of them.
use Rattle.std.specs.Prelude.{ℕ, zero, suc, ◌<◌, ◌||◌, nat_eq, Bool, false, List, [], ◌∷◌, Option, Contains, find, length, slice_get, unwrap_or}
use Rattle.std.specs.List.{list_any, range_with_len}

-- the children of the image of a number, where the children of each image are given
abbrev pub children : List (List ℕ) → ℕ → List ℕ
children families image = unwrap_or (slice_get families image) []

-- a chain of children leads from an image to another, over those in between
abbrev pub IsChain : List (List ℕ) → ℕ → List ℕ → ℕ → Type 0
IsChain families from [] to = Contains (children families from) to
IsChain families from (next ∷ rest) to = Contains (children families from) next × IsChain families next rest to

-- a chain of children of any length leads from an image to itself
abbrev pub HasCycle : List (List ℕ) → ℕ → Type 0
HasCycle families image = (between : List ℕ) × IsChain families image between image

-- no image has one
abbrev pub HasNone : List (List ℕ) → Type 0
HasNone families = (image : ℕ) → HasCycle families image → ⊥

-- each child is the number of an image
abbrev pub AreNumbered : List (List ℕ) → Type 0
AreNumbered families = (image child : ℕ) → Contains (children families image) child → child < length families

-- ---- the search for one

-- a chain leads there in at most so many steps
abbrev pub reaches : List (List ℕ) → ℕ → ℕ → ℕ → Bool
reaches families zero from to = false
reaches families (suc steps) from to = list_any (λ child. nat_eq child to || reaches families steps child to) (children families from)

-- one returns; no more steps are needed than there are images
abbrev pub returns : List (List ℕ) → ℕ → Bool
returns families image = reaches families (length families) image image

-- the first image from which one returns
abbrev pub first_cycle : List (List ℕ) → Option ℕ
first_cycle families = find (returns families) (range_with_len 0 (length families))
