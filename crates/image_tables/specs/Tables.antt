-- Parts of an image that are put into its file.
use Rattle.std.specs.Prelude.{◌≡◌, ℕ, ◌+◌, ◌<◌, ◌≤◌, ◌⊎◌, List, [], ◌∷◌, Some, length, slice_index, if◌then◌else◌}
use Rattle.base_fields.specs.Parts.{HoldsPart, IsIn, Part}
use Rattle.outside.specs.Files.{Tree, bytes_of}
use Rattle.gpt_table.specs.Gpt.{back_byte, front_byte}
use Rattle.gpt_table.specs.GptParts.{back_entries_part, back_part, entries_part, front_part}
use Rattle.gpt_table.specs.declared.table.GptHeads.{GptHeads}
use Rattle.gpt_table.specs.declared.table.GptSpec.{GptSpec}
use Rattle.image_writes.specs.Images.{Serves}

-- each of the parts
abbrev pub Each : (Part → Type 0) → List Part → Type 0
Each P [] = Unit {0}
Each P (p ∷ ps) = P p × Each P ps

-- an offset of the image that one of the parts has
abbrev pub IsInOne : List Part → ℕ → Type 0
IsInOne [] o = ⊥
IsInOne (p ∷ ps) o = IsIn p o ⊎ IsInOne ps o

-- a part ends within so many bytes
abbrev pub EndsWithin : ℕ → Part → Type 0
EndsWithin size p = p.at + p.len ≤ size

-- the bytes of the parts are put, and all else stays: whichever image is wanted that holds them, the file serves it
pub record PutsParts (ps : List Part) (name : List ℕ) (old new : Tree) : Type 0 where
  pub there : new name ≡ Some (bytes_of new name)
  pub size : length (bytes_of new name) ≡ length (bytes_of old name)
  pub serves : (want : ℕ → ℕ) → Each (HoldsPart want) ps → Serves want (IsInOne ps) name old new

-- these bytes from a place on, and zeros behind them
abbrev pub head_part : ℕ → ℕ → List ℕ → Part
head_part at len head = record { at = at; len = len; byte = λ o. slice_index head o }

-- the first 512 bytes of both headers' sectors
pub record AreHeads (g : GptSpec) (heads : GptHeads) : Type 0 where
  pub front : (o : ℕ) → o < 512 → slice_index heads.front o ≡ front_byte g o
  pub back : (o : ℕ) → o < 512 → slice_index heads.back o ≡ back_byte g o
  pub front_len : length heads.front ≡ 512
  pub back_len : length heads.back ≡ 512

-- the entries in front, and in the backup where there is one
abbrev pub entries_parts : GptSpec → List Part
entries_parts g = entries_part g ∷ (if g.backup then back_entries_part g ∷ [] else [])

-- the sector of the front header, and where there is a backup that of its header
abbrev pub header_parts : GptSpec → List Part
header_parts g = front_part g ∷ (if g.backup then back_part g ∷ [] else [])
