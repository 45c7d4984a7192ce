-- Lines that are kept in memory.
use Rattle.std.specs.Prelude.{◌≡◌, ℕ, ◌+◌, ◌*◌, ◌≤◌, List, [], ◌∷◌, length, take, drop, sum, sum_by, Vec, vec_capacity}
use Rattle.std.specs.Global.{Global}
use Rattle.outside.specs.Calls.{Calls}

-- what contracts see of a printer in memory: its lines, the bytes that it has room for, and which calls fail
pub record Kept : Type 0 where
  pub lines : List (List ℕ)
  pub room : ℕ
  pub calls : Calls

-- the room that lines take: their bytes, and 8 each
abbrev pub taken : List (List ℕ) → ℕ
taken lines = sum_by (λ line. length line + 8) lines

-- a text in pieces of these lengths
abbrev pub pieces : List ℕ → List ℕ → List (List ℕ)
pieces text [] = []
pieces text (n ∷ ns) = take n text ∷ pieces (drop n text) ns

-- the lines that are stored one behind the other fit the room, which was taken for both lists
pub record IsStored (text lengths : Vec ℕ Global) (room : ℕ) : Type 0 where
  pub whole : sum lengths.items ≡ length text.items
  pub fits : length text.items + 8 * length lengths.items ≤ room
  pub text_room : room ≤ vec_capacity text
  pub lengths_room : room ≤ 8 * vec_capacity lengths + 7
