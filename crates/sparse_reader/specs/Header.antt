-- The header of a sparse file: 28 bytes, the numbers in them with the lowest byte first.
use Rattle.std.specs.Prelude.{ℕ, ◌+◌, ◌%◌, ◌==◌, nat_le, nat_lt, Bool, ◌&&◌, List, [], ◌∷◌, length, take, drop, Contains, Option, None, Some, Result, Ok, Err, if◌then◌else◌}
use Rattle.byteorder.specs.Endian.{little_number}
use Rattle.base_fields.specs.Results.{◌>>=◌}
use Rattle.sparse_reader.specs.declared.fault.SparseFault.{SparseFault}
use Rattle.sparse_reader.specs.declared.fault.SparseFault.TheVariants.{BadMagic, Short}
use Rattle.sparse_reader.specs.declared.header.Header.{Header}

-- so many bytes of a file from an offset on; where it hasn't them it is too short, and its length says so
abbrev pub part_of : List ℕ → ℕ → ℕ → Result (List ℕ) SparseFault
part_of bytes at n = if nat_le (at + n) (length bytes) then Ok (take n (drop at bytes)) else Err (Short (length bytes))

-- the number in so many bytes at an offset
abbrev pub number_in : List ℕ → ℕ → ℕ → ℕ
number_in bytes at width = little_number width (drop at bytes)

-- a field with one value: its offset, how many bytes it has, and the number in them
pub record FixedField : Type 0 where
  pub at : ℕ
  pub width : ℕ
  pub value : ℕ

abbrev pub fixed : ℕ → ℕ → ℕ → FixedField
fixed at width value = record { at = at; width = width; value = value }

-- the magic, the version 1.0, and how many bytes the headers of a file and of a chunk have
abbrev pub fixed_fields : List FixedField
fixed_fields = fixed 0 4 0xED26FF3A ∷ fixed 4 2 1 ∷ fixed 6 2 0 ∷ fixed 8 2 28 ∷ fixed 10 2 12 ∷ []

-- a block has bytes, and whole words of 4
abbrev pub is_block : ℕ → Bool
is_block n = nat_lt 0 n && (n % 4 == 0)

-- the offset of the first of these fields that has another value, and then of a block size that is none
abbrev pub first_bad : List FixedField → List ℕ → Option ℕ
first_bad [] head = if is_block (number_in head 12 4) then None else Some 12
first_bad (f ∷ fs) head = if number_in head f.at f.width == f.value then first_bad fs head else Some f.at

-- the offset of a field that can be bad
abbrev pub IsField : ℕ → Type 0
IsField at = Contains (0 ∷ 4 ∷ 6 ∷ 8 ∷ 10 ∷ 12 ∷ []) at

-- what the header's other fields say; the checksum at 24 isn't looked at
abbrev pub said_by : List ℕ → Header
said_by head = record { block = number_in head 12 4; blocks = number_in head 16 4; chunks = number_in head 20 4 }

abbrev pub or_bad : Option ℕ → List ℕ → Result Header SparseFault
or_bad None head = Ok (said_by head)
or_bad (Some at) head = Err (BadMagic at)

-- the header that these 28 bytes are
abbrev pub header_in : List ℕ → Result Header SparseFault
header_in head = or_bad (first_bad fixed_fields head) head

-- the header of a file
abbrev pub header_of : List ℕ → Result Header SparseFault
header_of bytes = part_of bytes 0 28 >>= header_in
