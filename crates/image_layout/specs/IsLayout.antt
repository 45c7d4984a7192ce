-- What holds of every layout that is made of a configuration: its partitions and its tables lie apart and within the image, and
-- the tables can be written and read back.
use Rattle.std.specs.Prelude.{◌≡◌, ◌≢◌, ℕ, ◌+◌, ◌*◌, ◌/◌, ◌^◌, ◌<◌, ◌≤◌, ◌⊎◌, ◌==◌, ◌&&◌, List, [], ◌∷◌, None, IsSomeAnd, IsTrue, All, AllPairs, length}
use Rattle.std.specs.List.{position_or_len}
use Rattle.base_fields.specs.Parts.{AreApart}
use Rattle.base_fields.specs.declared.spans.Span.{Span}
use Rattle.base_fields.specs.declared.spans.TableKind.{TableKind}
use Rattle.base_fields.specs.declared.spans.TableKind.TheVariants as table
use Rattle.mbr_table.specs.Mbr.{HasLast, entry_of, no_entry, protective}
use Rattle.mbr_table.specs.Reading.{MbrFits}
use Rattle.mbr_table.specs.declared.mbr.MbrEntry.{MbrEntry}
use Rattle.mbr_table.specs.declared.mbr.MbrSpec.{MbrSpec}
use Rattle.extended_chain.specs.Chain.{Ascends, logical_of, start_of}
use Rattle.extended_chain.specs.ChainReading.{LogicalFits}
use Rattle.extended_chain.specs.Extended.{extended_entry_of}
use Rattle.extended_chain.specs.declared.chain.LogicalSpec.{LogicalSpec}
use Rattle.gpt_table.specs.Gpt.{GptFits, HasRoom, front_end}
use Rattle.gpt_table.specs.GptParts.{IsApart}
use Rattle.gpt_table.specs.declared.table.GptSpec.{GptSpec}
use Rattle.hybrid_table.specs.Hybrid.{HybridFits, hybrid_spec}
use Rattle.image_layout.specs.Layout.{end_of, is_claimed, table_byte, table_parts}
use Rattle.image_layout.specs.declared.layout.Layout.{Layout}
use Rattle.image_layout.specs.declared.layout.Placed.{Placed}

-- ---- partitions

-- holes aren't empty, and each begins where the one before it ends or behind that
pub record AreHoles (holes : List Span) : Type 0 where
  pub few : length holes ≤ 64
  pub filled : All (λ hole. 0 < hole.len) holes
  pub ascend : AllPairs (λ hole later. hole.at + hole.len ≤ later.at) holes
  pub bounded : All (λ hole. hole.at + hole.len ≤ 2 ^ 43) holes

-- a partition lies within so many bytes, and its file within it
pub record IsPart (size : ℕ) (p : Placed) : Type 0 where
  pub inside : end_of p ≤ size
  pub file : p.len ≤ p.size
  pub source : p.source ≡ None → p.len ≡ 0
  pub holes : AreHoles p.holes

-- no offset is claimed by both
abbrev pub ClaimApart : Placed → Placed → Type 0
ClaimApart p q = (o : ℕ) → IsTrue (is_claimed p o) → ¬ IsTrue (is_claimed q o)

-- no offset is in two claims, in two tables, or in a claim and a table
pub record LiesApart (l : Layout) : Type 0 where
  pub claims : AllPairs ClaimApart l.parts
  pub tables : AreApart (table_parts l)
  pub across : All (λ p. (o : ℕ) → IsTrue (is_claimed p o) → table_byte l o ≡ None) l.parts

-- ---- tables

-- one of two entries ends where the other begins, or before
abbrev pub SectorsApart : MbrEntry → MbrEntry → Type 0
SectorsApart e f = (e.first + e.count ≤ f.first) ⊎ (f.first + f.count ≤ e.first)

-- the slot number k, from 0, is the extended partition of these logical ones, and no other slot's sectors meet it
pub record IsChain (spec : MbrSpec) (specs : List LogicalSpec) (k : ℕ) : Type 0 where
  pub slot : k < 4
  pub entry : entry_of spec k ≡ extended_entry_of specs
  pub few : length specs ≤ 256
  pub fits : (j : ℕ) → j < length specs → LogicalFits (logical_of specs j)
  pub ascends : Ascends specs
  pub primaries : (j : ℕ) → j < 4 → j ≢ k → SectorsApart (entry_of spec j) (extended_entry_of specs)

-- the slot of the extended partition, from 0: the first that has its type and its first sector
abbrev pub extended_slot : MbrSpec → List LogicalSpec → ℕ
extended_slot spec specs =
    position_or_len (λ e. (e.kind == 0x0F) && (e.first == start_of specs)) spec.entries

-- no table
pub record IsBare (l : Layout) : Type 0 where
  pub mbr : l.mbr ≡ None
  pub gpt : l.gpt ≡ None
  pub logical : l.logical ≡ []
  pub hybrid : l.hybrid ≡ []

-- a master boot record, with a chain where there are logical partitions
pub record IsMbr (l : Layout) (spec : MbrSpec) : Type 0 where
  pub fits : MbrFits spec
  pub last : All (HasLast 0) spec.entries
  pub sector : l.sector ≡ 512
  pub gpt : l.gpt ≡ None
  pub hybrid : l.hybrid ≡ []
  pub chain : l.logical ≢ [] → IsChain spec l.logical (extended_slot spec l.logical)

-- a GUID partition table of all sectors of the image
pub record IsGuid (l : Layout) (g : GptSpec) : Type 0 where
  pub fits : GptFits g
  pub apart : IsApart g
  pub room : HasRoom g
  pub sector : g.sector ≡ l.sector
  pub size : g.sectors * g.sector ≡ l.size
  pub logical : l.logical ≡ []

-- the record beside it protects the whole disk
pub record IsProtected (l : Layout) (g : GptSpec) (spec : MbrSpec) : Type 0 where
  pub guid : IsGuid l g
  pub signature : spec.signature < 2 ^ 32
  pub entries : spec.entries ≡ protective g.sectors ∷ no_entry ∷ no_entry ∷ no_entry ∷ []
  pub hybrid : l.hybrid ≡ []

-- the record beside it protects what stands in front, and has up to three partitions
pub record IsHybrid (l : Layout) (g : GptSpec) (spec : MbrSpec) : Type 0 where
  pub guid : IsGuid l g
  pub sector : g.sector ≡ 512
  pub fits : HybridFits spec.signature l.hybrid
  pub last : All (HasLast 0) l.hybrid
  pub entries : spec ≡ hybrid_spec spec.signature (front_end g / 512) l.hybrid

abbrev pub IsTabled : TableKind → Layout → Type 0
IsTabled table.Bare l = IsBare l
IsTabled table.Mbr l = IsSomeAnd l.mbr (IsMbr l)
IsTabled table.Gpt l = IsSomeAnd l.gpt (λ g. IsSomeAnd l.mbr (IsProtected l g))
IsTabled table.Hybrid l = IsSomeAnd l.gpt (λ g. IsSomeAnd l.mbr (IsHybrid l g))

-- ---- the whole

pub record IsLayout (l : Layout) : Type 0 where
  pub size : l.size ≤ 2 ^ 43
  pub sector : (l.sector ≡ 512) ⊎ (l.sector ≡ 4096)
  pub few : length l.parts ≤ 256
  pub parts : All (IsPart l.size) l.parts
  pub tabled : IsTabled l.table l
  pub inside : All (λ p. p.at + p.len ≤ l.size) (table_parts l)
  pub apart : LiesApart l

-- a layout of nothing, as of an image whose bytes are those of its own file
pub record IsEmpty (l : Layout) : Type 0 where
  pub size : l.size ≤ 2 ^ 43
  pub bare : IsBare l
  pub parts : l.parts ≡ []
