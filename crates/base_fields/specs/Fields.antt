-- Bytes at places: what a write leaves, and which byte stands at an offset of a format.
use Rattle.std.specs.Prelude.{ℕ, zero, suc, ◌+◌, ◌-◌, ◌*◌, List, [], ◌∷◌, ◌++◌, length, take, drop, nat_le, nat_lt, slice_index, Bool, ◌&&◌, if◌then◌else◌}
use Rattle.byteorder.specs.Endian.{little_bytes}

-- the old bytes with these at that place, past the old end too
abbrev pub written : List ℕ → ℕ → List ℕ → List ℕ
written old at bytes = take at old ++ bytes ++ drop (at + length bytes) old

-- a field of a format: the offset at which it begins, and its bytes
pub record Field : Type 0 where
  pub at : ℕ
  pub bytes : List ℕ

-- a field that is a number of so many bytes, the lowest first
abbrev pub number : ℕ → ℕ → ℕ → Field
number at width value = record { at = at; bytes = little_bytes width value }

-- the bytes of fields one after another
abbrev pub joined : List Field → List ℕ
joined [] = []
joined (f ∷ fs) = f.bytes ++ joined fs

-- whether a field has an offset
abbrev pub reaches : Field → ℕ → Bool
reaches f o = nat_le f.at o && nat_lt o (f.at + length f.bytes)

-- the byte at an offset: that of the first field there, and 0 where there is none
abbrev pub byte_of : List Field → ℕ → ℕ
byte_of [] o = 0
byte_of (f ∷ fs) o = if reaches f o then slice_index f.bytes (o - f.at) else byte_of fs o

-- the number in so many bytes of an image from an offset, the lowest first; an image is the byte at each offset
abbrev pub number_at : (ℕ → ℕ) → ℕ → ℕ → ℕ
number_at image o zero = 0
number_at image o (suc width) = image o + 256 * number_at image (o + 1) width
