-- What a partition occupies of the image, and what two of them share.
use Rattle.std.specs.Prelude.{ℕ, zero, suc, ◌+◌, ◌-◌, Bool, false, not, ◌&&◌, ◌||◌, nat_le, nat_lt, Option, Some, None}
use Rattle.std.specs.List.{list_any}
use Rattle.conf_values.specs.declared.values.Hole.{Hole}
use Rattle.placement_rules.specs.Places.{Stood, end_of}

-- an offset is one of so many from a place on
abbrev pub in_run : ℕ → ℕ → ℕ → Bool
in_run at len o = nat_le at o && nat_lt o (at + len)

-- a hole has an offset of the file
abbrev pub in_hole : ℕ → Hole → Bool
in_hole o hole = nat_le hole.from o && nat_lt o hole.to

-- from its place to its end, without its holes
abbrev pub claims : Stood → ℕ → Bool
claims s o = in_run s.place.at s.place.size o && not (list_any (in_hole (o - s.place.at)) s.holes)

-- the sector of a boot record
abbrev pub in_record : Option ℕ → ℕ → Bool
in_record None o = false
in_record (Some head) o = in_run head 512 o

-- an offset is in its claim or in its record
abbrev pub occupies : Stood → ℕ → Bool
occupies s o = claims s o || in_record s.place.head o

-- a number below n passes
unfoldable pub some_below : ℕ → (ℕ → Bool) → Bool
some_below zero test = false
some_below (suc n) test = test n || some_below n test

-- a number that no offset passes which the partition occupies
abbrev pub reach : Stood → ℕ
reach s = end_of s + 512

-- an offset that the partition occupies passes
abbrev pub meets : Stood → (ℕ → Bool) → Bool
meets s test = some_below (reach s) (λ o. occupies s o && test o)
