-- The name of an entry (UEFI 2.10, section 5.3.3): 36 units of UTF-16, zero after its end.
use Rattle.std.specs.Prelude.{ℕ, ◌-◌, List, ◌++◌, length, replicate}

-- those of ASCII text, each of whose bytes is a unit
abbrev pub name_units : List ℕ → List ℕ
name_units text = text ++ replicate (36 - length text) 0
