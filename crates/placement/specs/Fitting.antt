-- What the tables of an image rest on: the numbers of its partitions fit their fields.
use Rattle.std.specs.Prelude.{◌≡◌, ℕ, ◌+◌, ◌*◌, ◌/◌, ◌^◌, ◌<◌, ◌≤◌, ◌⊎◌, Bool, true, false, List, All, IsTrue, length, unwrap_or}
use Rattle.base_fields.specs.declared.spans.TableKind.{TableKind}
use Rattle.conf_keys.specs.Within.{IsPartitionWithin}
use Rattle.extended_chain.specs.declared.chain.LogicalSpec.{LogicalSpec}
use Rattle.image_specs.specs.declared.specs.ImageSpec.{ImageSpec}
use Rattle.placement.specs.Layouts.{image_size, is_primary, logical_specs, wholes_as}
use Rattle.placement_rules.specs.Bounds.{IsFrame}
use Rattle.placement_rules.specs.Claims.{in_run, meets}
use Rattle.placement_rules.specs.Frames.{frame_of, has_guid, has_table, is_hybrid, is_mbr}
use Rattle.placement_rules.specs.Places.{Stood, end_of}
use Rattle.placement_rules.specs.Terms.{names_of}
use Rattle.placement_rules.specs.declared.terms.Frame.{Frame}
use Rattle.placement_rules.specs.declared.terms.Terms.{Terms}
use Rattle.placement_walk.specs.Walked.{Stands}

-- its sectors of 512 bytes have numbers of 32 bits
pub record FitsRecord (s : Stood) : Type 0 where
  pub head : unwrap_or s.place.head 0 / 512 < 2 ^ 32
  pub first : s.place.at / 512 < 2 ^ 32
  pub count : s.place.size / 512 < 2 ^ 32

-- where it passes a test
abbrev pub FitsWhere : (Stood → Bool) → Stood → Type 0
FitsWhere test s = IsTrue (test s) → FitsRecord s

-- a logical partition behind the first sector of a disk, with sectors of 32 bits
pub record IsChained (spec : LogicalSpec) : Type 0 where
  pub head : 1 ≤ spec.head
  pub first : spec.head ≤ spec.first
  pub end : spec.first + spec.count ≤ 2 ^ 32

abbrev pub IsSector : ℕ → Type 0
IsSector n = (n ≡ 512) ⊎ (n ≡ 4096)

-- what the rules look at of a partition of an image with a table of this kind: one whose sectors have 32 bits is in the
-- table; a logical one has such sectors, and in an mbr each one of the table
pub record IsTermed (kind : TableKind) (t : Terms) : Type 0 where
  pub tabled : t.narrow ≡ true → t.tabled ≡ true
  pub narrow : t.logical ≡ true → t.narrow ≡ true
  pub mbr : is_mbr kind ≡ true → t.tabled ≡ true → t.narrow ≡ true

-- it occupies no byte of the master boot record
abbrev pub IsOff : Frame → Stood → Type 0
IsOff frame s = has_table frame.table ≡ true → meets s (in_run 440 72) ≡ false

-- partitions that stand, none of which is refused by itself
pub record AreStood (spec : ImageSpec) (frame : Frame) (ss : List Stood) : Type 0 where
  pub is : frame ≡ frame_of spec
  pub within : All IsPartitionWithin spec.keys.parts
  pub framed : IsFrame frame
  pub names : length ss ≡ length (names_of spec)
  pub sources : length ss ≡ length spec.sources
  pub wholes : length ss ≡ length (wholes_as spec.kind spec.keys.parts)
  pub termed : All (λ s. IsTermed frame.table s.terms) ss
  pub off : All (IsOff frame) ss
  pub stand : All (Stands frame) ss

-- partitions of which the tables of an image can be made
pub record AreSettled (spec : ImageSpec) (frame : Frame) (ss : List Stood) : Type 0 where
  pub within : All IsPartitionWithin spec.keys.parts
  pub sector : IsSector frame.sector
  pub old : IsTrue (is_hybrid frame.table) → frame.sector ≡ 512
  pub count : IsTrue (has_table frame.table) → length ss ≡ length spec.keys.parts
  pub primary : IsTrue (is_mbr frame.table) → All (FitsWhere is_primary) ss
  pub logical : All (FitsWhere (λ s. s.terms.logical)) ss
  pub narrow : All (FitsWhere (λ s. s.terms.narrow)) ss
  pub ends : All (λ s. end_of s ≤ 2 ^ 43) ss
  pub chain : IsTrue (is_mbr frame.table) → All IsChained (logical_specs spec.keys.parts ss)
  pub front : IsTrue (has_guid frame.table) → 2 * frame.sector ≤ frame.front
  pub size : frame.front ≤ image_size frame ss
