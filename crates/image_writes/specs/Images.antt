-- Files in which bytes are put, where a byte is wanted at each offset: what is right stays right, and more becomes it.
use Rattle.std.specs.Prelude.{◌≡◌, ℕ, ◌+◌, ◌<◌, ◌≤◌, List, Some, length, slice_index}
use Rattle.outside.specs.Files.{Tree, bytes_of}

-- an offset of a run of so many bytes from a place on
abbrev pub IsInRun : ℕ → ℕ → ℕ → Type 0
IsInRun at len o = (at ≤ o) × (o < at + len)

-- an image, the byte at each offset, that has these bytes from a place on
abbrev pub HasRun : (ℕ → ℕ) → ℕ → List ℕ → Type 0
HasRun want at bytes = (i : ℕ) → i < length bytes → want (at + i) ≡ slice_index bytes i

-- a file keeps its length and each byte that is the wanted one, and has the wanted byte at each offset that is put
pub record Serves (want : ℕ → ℕ) (Put : ℕ → Type 0) (name : List ℕ) (old new : Tree) : Type 0 where
  pub there : new name ≡ Some (bytes_of new name)
  pub size : length (bytes_of new name) ≡ length (bytes_of old name)
  pub kept : (o : ℕ) → slice_index (bytes_of old name) o ≡ want o → slice_index (bytes_of new name) o ≡ want o
  pub put : (o : ℕ) → Put o → slice_index (bytes_of new name) o ≡ want o

-- these bytes are put from a place on, and all else stays: whichever image is wanted that has them there, the file serves it
abbrev pub PutsRun : ℕ → List ℕ → List ℕ → Tree → Tree → Type 0
PutsRun at bytes name old new =
    (want : ℕ → ℕ) → HasRun want at bytes → Serves want (IsInRun at (length bytes)) name old new

-- a file of so many bytes, each of this value
pub record IsFilled (len byte : ℕ) (name : List ℕ) (file : Tree) : Type 0 where
  pub there : file name ≡ Some (bytes_of file name)
  pub size : length (bytes_of file name) ≡ len
  pub each : (o : ℕ) → o < len → slice_index (bytes_of file name) o ≡ byte
