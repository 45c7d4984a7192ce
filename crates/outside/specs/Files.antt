-- Files as an optional map from names to bytes. A name is seen as the bytes of its text.
use Rattle.std.specs.Prelude.{◌≡◌, ◌≢◌, ℕ, ◌+◌, ◌<◌, ◌≤◌, List, [], length, take, drop, Option, Some, None, unwrap_or, Result, Ok, Err}
use Rattle.outside.specs.declared.files.FileErr.{FileErr}
use Rattle.outside.specs.declared.files.FileErr.TheVariants.{Missing, Failed}

-- what stands under each name
abbrev pub Tree : Type 0
Tree = List ℕ → Option (List ℕ)

-- the bytes under a name, and none where it isn't there
abbrev pub bytes_of : Tree → List ℕ → List ℕ
bytes_of file name = unwrap_or (file name) []

-- the name is there, and the fact holds
abbrev pub IsThere : Tree → List ℕ → Type 0 → Type 0
IsThere file name fact = (file name ≡ Some (bytes_of file name)) × fact

-- a call on files: for a length, for at most so many bytes at an offset, to make a file, or to write one
pub data Asked : Type 0 where
  Length : List ℕ → Asked
  Reads : List ℕ → ℕ → ℕ → Asked
  Creates : List ℕ → ℕ → Asked
  Writes : List ℕ → ℕ → List ℕ → Asked

-- the same call, for at most one byte
abbrev pub one_byte : Asked → Asked
one_byte (Length name) = Length name
one_byte (Reads name off n) = Reads name off 1
one_byte (Creates name len) = Creates name len
one_byte (Writes name off bytes) = Writes name off bytes

-- every other name is as before
abbrev pub OthersStay : List ℕ → Tree → Tree → Type 0
OthersStay name old new = (other : List ℕ) → other ≢ name → new other ≡ old other

-- the answer to a question about the length: missing exactly where nothing is there, else exact
abbrev pub IsLengthOf : Option (List ℕ) → Result ℕ FileErr → Type 0
IsLengthOf None (Ok n) = ⊥
IsLengthOf (Some bytes) (Ok n) = n ≡ length bytes
IsLengthOf None (Err Missing) = Unit {0}
IsLengthOf (Some bytes) (Err Missing) = ⊥
IsLengthOf file (Err Failed) = Unit {0}

-- n bytes were read at an offset: none exactly where the offset isn't below the length, and they are the file's
pub record IsReadAt (bytes : List ℕ) (off n : ℕ) (buf : List ℕ) : Type 0 where
  pub some : off < length bytes → 0 < n
  pub inside : 0 < n → off + n ≤ length bytes
  pub same : take n buf ≡ take n (drop off bytes)

-- the answer to a read: missing exactly where nothing is there, else what was read
abbrev pub IsReadOf : Option (List ℕ) → ℕ → List ℕ → Result ℕ FileErr → Type 0
IsReadOf None off buf (Ok n) = ⊥
IsReadOf (Some bytes) off buf (Ok n) = IsReadAt bytes off n buf
IsReadOf None off buf (Err Missing) = Unit {0}
IsReadOf (Some bytes) off buf (Err Missing) = ⊥
IsReadOf file off buf (Err Failed) = Unit {0}
