-- How the parts of a printed line are spelled.
use Rattle.std.specs.Prelude.{◌≡◌, ℕ, ◌+◌, ◌≤◌, Bool, true, false, List, [], ◌∷◌, ◌++◌, length}
use Rattle.std.specs.Prelude.{take, codes, decimal}
use Rattle.std.specs.Borrow.{Bor}

-- what is shown of a name: its first 200 bytes
abbrev pub shown_name : List ℕ → List ℕ
shown_name name = take 200 name

-- a truth value
abbrev pub shown_flag : Bool → List ℕ
shown_flag true = codes "1"
shown_flag false = codes "0"

-- a key and the bytes of its value, behind a space
abbrev pub spelled : List ℕ × List ℕ → List ℕ
spelled field = codes " " ++ field.0 ++ codes "=" ++ field.1

-- a line with fields behind it, in their order
abbrev pub with_fields : List ℕ → List (List ℕ × List ℕ) → List ℕ
with_fields line [] = line
with_fields line (field ∷ more) = with_fields (line ++ spelled field) more

-- a number behind its key, and the most bytes that it takes
abbrev pub numbered : Bor (List ℕ) × ℕ → List ℕ × List ℕ
numbered field = (field.0.now, decimal field.1)

abbrev pub number_room : Bor (List ℕ) × ℕ → ℕ
number_room field = length field.0.now + 22

-- a number of what a key names, and the most bytes that it takes
abbrev pub part_numbered : List ℕ → Bor (List ℕ) × ℕ → List ℕ × List ℕ
part_numbered key field = (key ++ field.0.now, decimal field.1)

abbrev pub part_room : ℕ → Bor (List ℕ) × ℕ → ℕ
part_room key field = key + length field.0.now + 22

-- a line stands at the front of the room, which has n bytes of it
pub record PutsLine (line room : List ℕ) (n : ℕ) : Type 0 where
  pub front : take n room ≡ line
  pub whole : n ≡ length line
  pub short : n ≤ 1024
