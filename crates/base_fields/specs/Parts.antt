-- Parts of an image: where each stands, and which byte it has at each offset there. An image is the byte at each offset.
use Rattle.std.specs.Prelude.{◌≡◌, ℕ, ◌+◌, ◌-◌, ◌<◌, ◌≤◌, List, [], ◌∷◌, AllPairs, Option, Some, None, Bool, ◌&&◌, nat_le, nat_lt, length, slice_index, if◌then◌else◌}
use Rattle.base_fields.specs.Fields.{Field, byte_of}

-- a part: where it begins, how many bytes it has, and the byte at each offset of it
pub record Part : Type 0 where
  pub at : ℕ
  pub len : ℕ
  pub byte : ℕ → ℕ

-- the bytes from one offset of a format to another, where the format begins at a place of the image
abbrev pub fields_part : ℕ → ℕ → ℕ → List Field → Part
fields_part place from to fields = record { at = place + from; len = to - from; byte = λ o. byte_of fields (from + o) }

-- these bytes from a place on
abbrev pub bytes_part : ℕ → List ℕ → Part
bytes_part place bytes = record { at = place; len = length bytes; byte = λ o. slice_index bytes o }

abbrev pub covers : Part → ℕ → Bool
covers p o = nat_le p.at o && nat_lt o (p.at + p.len)

-- the byte of the first part that has an offset of the image, and None where no part has it
abbrev pub part_byte : List Part → ℕ → Option ℕ
part_byte [] o = None
part_byte (p ∷ ps) o = if covers p o then Some (p.byte (o - p.at)) else part_byte ps o

-- an image that has the bytes of a part
abbrev pub HoldsPart : (ℕ → ℕ) → Part → Type 0
HoldsPart image p = (o : ℕ) → o < p.len → image (p.at + o) ≡ p.byte o

-- an image that has each byte of the parts
abbrev pub HoldsParts : (ℕ → ℕ) → List Part → Type 0
HoldsParts image ps = (o b : ℕ) → part_byte ps o ≡ Some b → image o ≡ b

-- an offset of the image that a part has
abbrev pub IsIn : Part → ℕ → Type 0
IsIn p o = (p.at ≤ o) × (o < p.at + p.len)

-- no offset is in both
abbrev pub LieApart : Part → Part → Type 0
LieApart p q = (o : ℕ) → IsIn p o → ¬ IsIn q o

-- no offset is in two of the parts
abbrev pub AreApart : List Part → Type 0
AreApart ps = AllPairs LieApart ps

-- the first part begins at an offset or behind it, and each other one where the one before it ends or behind that
abbrev pub AreInOrder : ℕ → List Part → Type 0
AreInOrder from [] = Unit {0}
AreInOrder from (p ∷ ps) = (from ≤ p.at) × AreInOrder (p.at + p.len) ps
