-- What it means to compose an image.
use Rattle.std.specs.Prelude.{◌≡◌, ◌≢◌, ℕ, ◌<◌, All, Some, Result, Ok, Err, length, slice_index}
use Rattle.outside.specs.Files.{Tree, bytes_of}
use Rattle.outside.specs.declared.files.ComposeFault.{ComposeFault}
use Rattle.outside.specs.declared.files.ComposeFault.TheVariants.{Missing, FileFault, SourceShort, NoMemory}
use Rattle.image_layout.specs.Layout.{byte_at}
use Rattle.image_layout.specs.ReadsBack.{ReadsBack}
use Rattle.image_layout.specs.declared.layout.Layout.{Layout}
use Rattle.image_parts.specs.Files.{HaveNeeded, IsFirstMissing, IsFirstShort}

-- the layout's file is that of none of its partitions
abbrev pub IsOwnFile : Layout → Type 0
IsOwnFile l = All (λ p. p.source ≢ Some l.file) l.parts

-- the layout's file has its size, and at each offset the byte of the layout, by the bytes of the files before
pub record IsMade (l : Layout) (old new : Tree) : Type 0 where
  pub there : new l.file ≡ Some (bytes_of new l.file)
  pub size : length (bytes_of new l.file) ≡ l.size
  pub each : (o : ℕ) → o < l.size → slice_index (bytes_of new l.file) o ≡ byte_at l (bytes_of old) o

-- each partition's file has the bytes that are needed and the image is made; or the answer names the first partition that
-- lacks its file or a byte of it; or a call failed or memory was refused
abbrev pub ComposeAnswers : Layout → Tree → Tree → Result Unit ComposeFault → Type 0
ComposeAnswers l old new (Ok done) = HaveNeeded old l.parts (length l.parts) × IsMade l old new
ComposeAnswers l old new (Err (Missing part)) = IsFirstMissing old l.parts part
ComposeAnswers l old new (Err (SourceShort part at)) = IsFirstShort old l.parts part at
ComposeAnswers l old new (Err FileFault) = Unit {0}
ComposeAnswers l old new (Err NoMemory) = Unit {0}

-- the tables of the layout's file read as the layout has them
abbrev pub IsReadBack : Layout → Tree → Type 0
IsReadBack l file = ReadsBack (λ o. slice_index (bytes_of file l.file) o) l

-- a fact of the image that a stage leaves; a stage that reads no partition's file names none
abbrev pub StageAnswers : Type 0 → Result Unit ComposeFault → Type 0
StageAnswers fact (Ok done) = fact
StageAnswers fact (Err (Missing part)) = ⊥
StageAnswers fact (Err (SourceShort part at)) = ⊥
StageAnswers fact (Err FileFault) = Unit {0}
StageAnswers fact (Err NoMemory) = Unit {0}
