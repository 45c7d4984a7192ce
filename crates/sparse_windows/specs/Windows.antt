-- Whole blocks of an image that is read from a file.
use Rattle.std.specs.Prelude.{◌≡◌, ℕ, ◌-◌, ◌/◌, ◌<◌, ◌≤◌, List, ◌++◌, length, take, replicate, Option, Result, Ok, Err, IsOkAnd}
use Rattle.base_fields.specs.declared.spans.Span.{Span}
use Rattle.outside.specs.Counts.{Counts, Rose}
use Rattle.outside.specs.Reading.{span_of}
use Rattle.outside.specs.declared.files.ComposeFault.{ComposeFault}
use Rattle.outside.specs.declared.files.ComposeFault.TheVariants.{Missing, FileFault, SourceShort, NoMemory}
use Rattle.outside.specs.declared.reading.FillFault.TheVariants as fill
use Rattle.span_cover.specs.Cover.{Meets}
use Rattle.sparse_text.specs.Blocks.{block_span}

-- a refusal comes only where its count rose, and speaks of the one source
abbrev pub HasCause : Counts → Counts → ComposeFault → Type 0
HasCause before now (Missing part) = (part ≡ 0) × Rose before.absences now.absences
HasCause before now FileFault = Rose before.faults now.faults
HasCause before now (SourceShort part at) = (part ≡ 0) × Rose before.ends now.ends
HasCause before now NoMemory = Unit {0}

-- so many bytes of an image from an offset on are those of its file, and zeros; or the refusal is that of the file
abbrev pub ReadsWindow : Option (List ℕ) → ℕ → ℕ → ℕ → List ℕ → Result Unit ComposeFault → Type 0
ReadsWindow file at len n got (Ok done) = IsOkAnd (span_of file at len) (λ bytes. got ≡ bytes ++ replicate (n - len) 0)
ReadsWindow file at len n got (Err (Missing part)) = span_of file at len ≡ Err fill.Missing
ReadsWindow file at len n got (Err (SourceShort part place)) = span_of file at len ≡ Err (fill.Short place)
ReadsWindow file at len n got (Err FileFault) = Unit {0}
ReadsWindow file at len n got (Err NoMemory) = Unit {0}

-- the image of so many bytes that a file has; zeros where it ends before
abbrev pub sized : ℕ → List ℕ → List ℕ
sized size bytes = take size (bytes ++ replicate size 0)

-- a byte is needed: it is in the image, and its block has a covered offset
abbrev pub IsNeeded : List Span → ℕ → ℕ → ℕ → Type 0
IsNeeded cover block size o = (o < size) × Meets cover (block_span block (o / block))

-- the file has each needed byte below an offset
abbrev pub HasNeeded : List Span → ℕ → ℕ → ℕ → List ℕ → Type 0
HasNeeded cover block size end bytes = (o : ℕ) → o < end → IsNeeded cover block size o → o < length bytes

-- the first needed byte that a file hasn't
pub record IsFirstLack (cover : List Span) (block size : ℕ) (bytes : List ℕ) (at : ℕ) : Type 0 where
  pub lacks : length bytes ≤ at
  pub needed : IsNeeded cover block size at
  pub before : HasNeeded cover block size at bytes
