-- What a partition needs of its file, and what it means to put that into an image.
use Rattle.std.specs.Prelude.{◌≡◌, ℕ, ◌+◌, ◌-◌, ◌<◌, ◌≤◌, List, [], false, Option, Some, None, Result, Ok, Err, length, slice_index, slice_index_or, unwrap_or}
use Rattle.outside.specs.Files.{Tree}
use Rattle.outside.specs.declared.files.ComposeFault.{ComposeFault}
use Rattle.outside.specs.declared.files.ComposeFault.TheVariants.{Missing, FileFault, SourceShort, NoMemory}
use Rattle.span_cover.specs.Cover.{covers}
use Rattle.image_layout.specs.declared.layout.Placed.{Placed}
use Rattle.image_writes.specs.Images.{IsInRun, Serves}

-- ---- what is needed

-- the byte at an offset of a partition's file is needed: it is below the file's length, and in no hole
pub record IsNeeded (p : Placed) (i : ℕ) : Type 0 where
  pub below : i < p.len
  pub free : covers p.holes i ≡ false

-- an offset of the image whose byte is that of the partition's file
abbrev pub IsOwn : Placed → ℕ → Type 0
IsOwn p o = (p.at ≤ o) × IsNeeded p (o - p.at)

-- what stands under the name of a partition's file; None where it has none, or no such file is there
abbrev pub source_in : Tree → Option (List ℕ) → Option (List ℕ)
source_in file None = None
source_in file (Some name) = file name

-- each byte that a partition needs is one of these
abbrev pub HasNeeded : List ℕ → Placed → Type 0
HasNeeded bytes p = (i : ℕ) → IsNeeded p i → i < length bytes

-- a byte is needed, and the file isn't there
pub record IsMissing (source : Option (List ℕ)) (p : Placed) : Type 0 where
  pub none : source ≡ None
  pub some : (i : ℕ) × IsNeeded p i

-- the first byte that is needed and isn't below the length of the file, which is there
pub record IsShortAt (source : Option (List ℕ)) (p : Placed) (at : ℕ) : Type 0 where
  pub there : source ≡ Some (unwrap_or source [])
  pub needed : IsNeeded p at
  pub past : length (unwrap_or source []) ≤ at
  pub first : (i : ℕ) → i < at → IsNeeded p i → i < length (unwrap_or source [])

-- ---- one partition

-- an image, the byte at each offset, that has what a partition needs of these bytes
abbrev pub HasFile : (ℕ → ℕ) → Placed → List ℕ → Type 0
HasFile want p bytes = (i : ℕ) → IsNeeded p i → want (p.at + i) ≡ slice_index bytes i

-- what a partition needs of its file is there and is put, and all else stays
pub record PutsPart (source : Option (List ℕ)) (p : Placed) (name : List ℕ) (old new : Tree) : Type 0 where
  pub had : HasNeeded (unwrap_or source []) p
  pub serves : (want : ℕ → ℕ) → HasFile want p (unwrap_or source []) → Serves want (IsOwn p) name old new

-- that; or the partition of this number lacks its file or a byte of it; or a call failed or memory was refused
abbrev pub PartAnswers : ℕ → Option (List ℕ) → Placed → List ℕ → Tree → Tree → Result Unit ComposeFault → Type 0
PartAnswers number source p name old new (Ok done) = PutsPart source p name old new
PartAnswers number source p name old new (Err (Missing part)) = (part ≡ number) × IsMissing source p
PartAnswers number source p name old new (Err (SourceShort part at)) = (part ≡ number) × IsShortAt source p at
PartAnswers number source p name old new (Err FileFault) = Unit {0}
PartAnswers number source p name old new (Err NoMemory) = Unit {0}

-- ---- one piece of a file

-- an image that has the bytes of a file from one offset to another, where the file begins at a place
abbrev pub HasPiece : (ℕ → ℕ) → ℕ → ℕ → ℕ → List ℕ → Type 0
HasPiece want place from to bytes = (i : ℕ) → from ≤ i → i < to → want (place + i) ≡ slice_index bytes i

pub record PutsPiece (source : Option (List ℕ)) (place from to : ℕ) (name : List ℕ) (old new : Tree) : Type 0 where
  pub had : (i : ℕ) → from ≤ i → i < to → i < length (unwrap_or source [])
  pub serves : (want : ℕ → ℕ) → HasPiece want place from to (unwrap_or source []) → Serves want (IsInRun (place + from) (to - from)) name old new

pub record LacksPiece (source : Option (List ℕ)) (from to at : ℕ) : Type 0 where
  pub there : source ≡ Some (unwrap_or source [])
  pub low : from ≤ at
  pub high : at < to
  pub past : length (unwrap_or source []) ≤ at
  pub first : (i : ℕ) → i < at → i < to → from ≤ i → i < length (unwrap_or source [])

abbrev pub PieceAnswers : ℕ → Option (List ℕ) → ℕ → ℕ → ℕ → List ℕ → Tree → Tree → Result Unit ComposeFault → Type 0
PieceAnswers number source place from to name old new (Ok done) = PutsPiece source place from to name old new
PieceAnswers number source place from to name old new (Err (Missing part)) = (part ≡ number) × (source ≡ None) × (from < to)
PieceAnswers number source place from to name old new (Err (SourceShort part at)) = (part ≡ number) × LacksPiece source from to at
PieceAnswers number source place from to name old new (Err FileFault) = Unit {0}
PieceAnswers number source place from to name old new (Err NoMemory) = Unit {0}

-- ---- all partitions

-- what stands for a partition past the last one
abbrev pub no_part : Placed
no_part = record { name = []; source = None; at = 0; size = 0; len = 0; whole = false; holes = [] }

-- the partition number k, from 0
abbrev pub part_of : List Placed → ℕ → Placed
part_of parts k = slice_index_or parts k no_part

-- an offset of the image whose byte is that of the file of one of the first n partitions
abbrev pub IsInFile : List Placed → ℕ → ℕ → Type 0
IsInFile parts n o = (k : ℕ) × (k < n) × IsOwn (part_of parts k) o

-- each of the first n partitions has the bytes that it needs
abbrev pub HaveNeeded : Tree → List Placed → ℕ → Type 0
HaveNeeded file parts n = (k : ℕ) → k < n → HasNeeded (unwrap_or (source_in file (part_of parts k).source) []) (part_of parts k)

-- an image that has what each of the first n partitions needs of its file
abbrev pub HasFiles : (ℕ → ℕ) → Tree → List Placed → ℕ → Type 0
HasFiles want file parts n = (k : ℕ) → k < n → HasFile want (part_of parts k) (unwrap_or (source_in file (part_of parts k).source) [])

-- the same for the first n partitions
pub record PutsParts (parts : List Placed) (n : ℕ) (name : List ℕ) (old new : Tree) : Type 0 where
  pub had : HaveNeeded old parts n
  pub serves : (want : ℕ → ℕ) → HasFiles want old parts n → Serves want (IsInFile parts n) name old new

-- a partition is the first that lacks its file, or a byte of it
pub record IsFirstMissing (file : Tree) (parts : List Placed) (k : ℕ) : Type 0 where
  pub known : k < length parts
  pub before : HaveNeeded file parts k
  pub lacks : IsMissing (source_in file (part_of parts k).source) (part_of parts k)

pub record IsFirstShort (file : Tree) (parts : List Placed) (k at : ℕ) : Type 0 where
  pub known : k < length parts
  pub before : HaveNeeded file parts k
  pub lacks : IsShortAt (source_in file (part_of parts k).source) (part_of parts k) at

-- all are put; or the answer names the first partition that lacks its file or a byte of it; or a call failed or memory was
-- refused
abbrev pub PartsAnswer : List Placed → List ℕ → Tree → Tree → Result Unit ComposeFault → Type 0
PartsAnswer parts name old new (Ok done) = PutsParts parts (length parts) name old new
PartsAnswer parts name old new (Err (Missing part)) = IsFirstMissing old parts part
PartsAnswer parts name old new (Err (SourceShort part at)) = IsFirstShort old parts part at
PartsAnswer parts name old new (Err FileFault) = Unit {0}
PartsAnswer parts name old new (Err NoMemory) = Unit {0}
