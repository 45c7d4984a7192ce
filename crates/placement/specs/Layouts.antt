-- The layout of an image whose partitions stand in their places: its size, its tables and its parts.
use Rattle.std.specs.Prelude.{ℕ, ◌+◌, ◌-◌, ◌/◌, Bool, false, not, ◌&&◌, if◌then◌else◌, List, [], ◌∷◌, ◌++◌, Option, Some, None, map, replicate, take, unwrap_or}
use Rattle.base_fields.specs.declared.spans.Span.{Span}
use Rattle.base_fields.specs.declared.spans.TableKind.{TableKind}
use Rattle.base_fields.specs.declared.spans.TableKind.TheVariants as table
use Rattle.conf_keys.specs.declared.conf.Kind.{Kind}
use Rattle.conf_keys.specs.declared.conf.Kind.TheVariants as kind
use Rattle.conf_keys.specs.declared.conf.PartitionSection.{PartitionSection}
use Rattle.conf_values.specs.declared.values.Hole.{Hole}
use Rattle.image_specs.specs.declared.specs.ImageSpec.{ImageSpec}
use Rattle.image_specs.specs.declared.specs.Source.{Source}
use Rattle.mbr_table.specs.Mbr.{no_entry, protective}
use Rattle.mbr_table.specs.declared.mbr.MbrEntry.{MbrEntry}
use Rattle.mbr_table.specs.declared.mbr.MbrSpec.{MbrSpec}
use Rattle.extended_chain.specs.Extended.{extended_entry_of}
use Rattle.extended_chain.specs.declared.chain.LogicalSpec.{LogicalSpec}
use Rattle.gpt_table.specs.declared.entry.GptEntry.{GptEntry}
use Rattle.gpt_table.specs.declared.table.GptSpec.{GptSpec}
use Rattle.hybrid_table.specs.Hybrid.{hybrid_spec}
use Rattle.image_layout.specs.declared.layout.Layout.{Layout}
use Rattle.image_layout.specs.declared.layout.Placed.{Placed}
use Rattle.table_entries.specs.Entries.{disk_id, gpt_entry_of, logical_spec_of, mbr_entry_of}
use Rattle.placement_rules.specs.Frames.{backup_len, frame_of, has_guid, has_table}
use Rattle.placement_rules.specs.Places.{Stood, end_of, greatest, least_multiple, stood}
use Rattle.placement_rules.specs.Terms.{names_of}
use Rattle.placement_rules.specs.declared.terms.Frame.{Frame}

-- ---- the size

-- where an image ends that has no size of its own
abbrev pub needs_of : Frame → List Stood → ℕ
needs_of frame ss =
    least_multiple (if has_table frame.table then frame.sector else 1) (greatest (frame.front ∷ map end_of ss)) + backup_len frame

abbrev pub image_size : Frame → List Stood → ℕ
image_size frame ss = unwrap_or frame.size (needs_of frame ss)

-- ---- entries

-- what each partition gives that passes a test, in order
abbrev pub entries_for : {A : Type 0} → (Stood → Bool) → (PartitionSection → Stood → A) → List PartitionSection → List Stood → List A
entries_for test entry (part ∷ parts) (s ∷ ss) =
    if test s then entry part s ∷ entries_for test entry parts ss else entries_for test entry parts ss
entries_for test entry _ _ = []

abbrev pub is_primary : Stood → Bool
is_primary s = s.terms.tabled && not s.terms.logical

abbrev pub primary_entries : List PartitionSection → List Stood → List MbrEntry
primary_entries parts ss = entries_for is_primary (λ part s. mbr_entry_of part s.place.at s.place.size) parts ss

abbrev pub logical_specs : List PartitionSection → List Stood → List LogicalSpec
logical_specs parts ss =
    entries_for (λ s. s.terms.logical) (λ part s. logical_spec_of part (unwrap_or s.place.head 0) s.place.at s.place.size) parts ss

-- in a hybrid those that are narrow
abbrev pub hybrid_entries : List PartitionSection → List Stood → List MbrEntry
hybrid_entries parts ss = entries_for (λ s. s.terms.narrow) (λ part s. mbr_entry_of part s.place.at s.place.size) parts ss

-- those of the image of this name, in sectors of z bytes
abbrev pub guid_entries_in : List ℕ → ℕ → List PartitionSection → List Stood → List GptEntry
guid_entries_in image z parts ss =
    entries_for (λ s. s.terms.tabled) (λ part s. gpt_entry_of image part s.place.at s.place.size z) parts ss

abbrev pub guid_entries : ImageSpec → Frame → List Stood → List GptEntry
guid_entries spec frame ss = guid_entries_in spec.name frame.sector spec.keys.parts ss

-- ---- tables

-- the entry of the extended partition, where there is one
abbrev pub extended_entries : List LogicalSpec → List MbrEntry
extended_entries [] = []
extended_entries logical = extended_entry_of logical ∷ []

-- four slots: the primary partitions, the extended one behind them, and empty ones
abbrev pub slots : List MbrEntry → List LogicalSpec → List MbrEntry
slots primary logical = take 4 (primary ++ extended_entries logical ++ replicate 4 no_entry)

abbrev pub mbr_spec : ImageSpec → List MbrEntry → MbrSpec
mbr_spec spec entries = record { signature = spec.keys.hd.disk_signature; entries = entries }

abbrev pub mbr_for : TableKind → ImageSpec → Frame → List Stood → Option MbrSpec
mbr_for table.Bare spec frame ss = None
mbr_for table.Mbr spec frame ss =
    Some (mbr_spec spec (slots (primary_entries spec.keys.parts ss) (logical_specs spec.keys.parts ss)))
mbr_for table.Gpt spec frame ss =
    Some (mbr_spec spec (protective (image_size frame ss / frame.sector) ∷ no_entry ∷ no_entry ∷ no_entry ∷ []))
mbr_for table.Hybrid spec frame ss =
    Some (hybrid_spec spec.keys.hd.disk_signature (frame.front / 512) (hybrid_entries spec.keys.parts ss))

abbrev pub logical_for : TableKind → ImageSpec → List Stood → List LogicalSpec
logical_for table.Mbr spec ss = logical_specs spec.keys.parts ss
logical_for _ spec ss = []

abbrev pub hybrid_for : TableKind → ImageSpec → List Stood → List MbrEntry
hybrid_for table.Hybrid spec ss = hybrid_entries spec.keys.parts ss
hybrid_for _ spec ss = []

abbrev pub guid_spec : ImageSpec → Frame → List Stood → GptSpec
guid_spec spec frame ss = record {
  disk = disk_id spec.name spec.keys.hd;
  sectors = image_size frame ss / frame.sector;
  entries_at = frame.entries_at / frame.sector;
  backup = frame.backup;
  entries = guid_entries spec frame ss;
  sector = frame.sector;
}

abbrev pub guid_for : ImageSpec → Frame → List Stood → Option GptSpec
guid_for spec frame ss = if has_guid frame.table then Some (guid_spec spec frame ss) else None

-- ---- parts

abbrev pub hole_span : Hole → Span
hole_span hole = record { at = hole.from; len = hole.to - hole.from }

abbrev pub placed_of : List ℕ → Option (List ℕ) → Bool → Stood → Placed
placed_of name source whole s = record {
  name = name;
  source = source;
  at = s.place.at;
  size = s.place.size;
  len = s.terms.len;
  whole = whole;
  holes = map hole_span s.holes;
}

-- whether each part is covered to its end: by the key `fill` of a partition
abbrev pub wholes_as : Kind → List PartitionSection → List Bool
wholes_as kind.Hd parts = map (λ part. part.fill) parts
wholes_as _ parts = false ∷ []

abbrev pub parts_from : List (List ℕ) → List Source → List Bool → List Stood → List Placed
parts_from (name ∷ names) (source ∷ sources) (whole ∷ wholes) (s ∷ ss) =
    placed_of name source.file whole s ∷ parts_from names sources wholes ss
parts_from _ _ _ _ = []

-- ---- the layout

abbrev pub is_filled : Kind → Bool → Bool
is_filled kind.Hd fill = fill
is_filled _ fill = false

abbrev pub layout_in : ImageSpec → Frame → List Stood → Layout
layout_in spec frame ss = record {
  file = spec.full;
  size = image_size frame ss;
  fill = 0;
  whole = is_filled spec.kind spec.keys.hd.fill;
  table = frame.table;
  sector = frame.sector;
  mbr = mbr_for frame.table spec frame ss;
  hybrid = hybrid_for frame.table spec ss;
  logical = logical_for frame.table spec ss;
  gpt = guid_for spec frame ss;
  parts = parts_from (names_of spec) spec.sources (wholes_as spec.kind spec.keys.parts) ss;
}

abbrev pub layout_of : ImageSpec → List ℕ → Layout
layout_of spec lens = layout_in spec (frame_of spec) (stood spec lens)
