-- The tables of every image that is placed.
use Rattle.std.specs.Prelude.{◌≡◌, ℕ, ◌≤◌, List, [], ◌∷◌, None, Some, length, map, suc}
use Rattle.std.proofs.Common.{ap, refl, sym, ◌∙◌}
use Rattle.std.proofs.lemmas.List.Elements.{recursion_from_All}
use Rattle.base_fields.specs.declared.spans.TableKind.{TableKind}
use Rattle.base_fields.specs.declared.spans.TableKind.TheVariants as table
use Rattle.conf_keys.specs.Within.{IsImageWithin, IsPartitionWithin, IsSectorSize}
use Rattle.conf_keys.specs.declared.conf.Kind.{Kind}
use Rattle.conf_keys.specs.declared.conf.Kind.TheVariants as kind
use Rattle.conf_keys.specs.declared.conf.PartitionSection.{PartitionSection}
use Rattle.image_layout.specs.IsLayout.{IsTabled}
use Rattle.image_names.specs.Images.{counted_of}
use Rattle.image_specs.specs.Identifiers.{HasIdentifiers, HasPartIdentifiers}
use Rattle.image_specs.specs.IsSpec.{ArePartSources, AreSources, IsSpec}
use Rattle.image_specs.specs.declared.specs.ImageSpec.{ImageSpec}
use Rattle.image_specs.specs.declared.specs.Source.{Source}
use Rattle.placement.specs.Layouts.{layout_in}
use Rattle.placement.specs.Said.{refusal_in}
use Rattle.placement_rules.specs.Frames.{frame_as, table_as}
use Rattle.placement_rules.specs.Places.{Stood, stood_from}
use Rattle.placement_rules.specs.Terms.{holes_as, terms_as, terms_from}
use Rattle.placement_tables.specs.Tabled.{PlacedIsTabled}
use Rattle.placement_tables.proofs.Accepted.{accepted}
use Rattle.placement_tables.proofs.Sound.{Stand, stand}
use Rattle.placement_tables.proofs.Tables.{is_bare, is_gpt, is_hybrid, is_mbr}

length_sources :
    (parts : List PartitionSection) (sources : List Source) → ArePartSources parts sources
    → length parts ≡ length sources
length_sources [] [] h = refl
length_sources [] (source ∷ sources) h = absurd h
length_sources (part ∷ parts) [] h = absurd h
length_sources (part ∷ parts) (source ∷ sources) h = ap suc (length_sources parts sources h.1)

-- what is known of a disk image
record IsDisk (spec : ImageSpec) (lens : List ℕ) : Type 0 where
  sector : (t : TableKind) → (frame_as spec t).sector ≡ spec.keys.hd.sector_size
  within : IsImageWithin spec.keys
  identifiers : HasIdentifiers spec.keys
  few : length spec.keys.parts ≤ 256
  even : length lens ≡ length spec.keys.parts

-- its partitions with their places
abbrev disk_stood : ImageSpec → TableKind → List ℕ → List Stood
disk_stood spec t lens =
    stood_from (frame_as spec t) [] (terms_from spec t [] spec.keys.parts lens)
    (map (λ part. part.holes) spec.keys.parts)

disk_stand :
    (spec : ImageSpec) (t : TableKind) (lens : List ℕ) → IsDisk spec lens
    → refusal_in spec (frame_as spec t) (disk_stood spec t lens) ≡ None
    → Stand spec t [] [] spec.keys.parts (disk_stood spec t lens)
disk_stand spec t lens disk h =
    stand spec t [] [] spec.keys.parts lens disk.even disk.within.hd.align
    (recursion_from_All IsPartitionWithin spec.keys.parts disk.within.parts)
    (recursion_from_All HasPartIdentifiers spec.keys.parts disk.identifiers.parts)
    (accepted spec (frame_as spec t) (disk_stood spec t lens) h).parts

disk_tabled :
    (spec : ImageSpec) (t : TableKind) (lens : List ℕ) → IsDisk spec lens → IsSectorSize t spec.keys.hd.sector_size
    → refusal_in spec (frame_as spec t) (disk_stood spec t lens) ≡ None
    → IsTabled t (layout_in spec (frame_as spec t) (disk_stood spec t lens))
disk_tabled spec table.Bare lens disk size h = is_bare spec (disk_stood spec table.Bare lens)
disk_tabled spec table.Mbr lens disk size h =
    is_mbr spec (disk_stood spec table.Mbr lens) (disk.sector table.Mbr ∙ size) disk.within disk.few
    (disk_stand spec table.Mbr lens disk h)
    (accepted spec (frame_as spec table.Mbr) (disk_stood spec table.Mbr lens) h)
disk_tabled spec table.Gpt lens disk size h =
    is_gpt spec (disk_stood spec table.Gpt lens) (disk.sector table.Gpt) size disk.within disk.identifiers
    (disk_stand spec table.Gpt lens disk h)
    (accepted spec (frame_as spec table.Gpt) (disk_stood spec table.Gpt lens) h)
disk_tabled spec table.Hybrid lens disk size h =
    is_hybrid spec (disk_stood spec table.Hybrid lens) (disk.sector table.Hybrid) size disk.within disk.identifiers
    (disk_stand spec table.Hybrid lens disk h)
    (accepted spec (frame_as spec table.Hybrid) (disk_stood spec table.Hybrid lens) h)

-- an image of each kind
abbrev IsPlacedAs : ImageSpec → List ℕ → Kind → Type 0
IsPlacedAs spec lens k =
    refusal_in spec (frame_as spec (table_as k spec.keys.hd))
    (stood_from (frame_as spec (table_as k spec.keys.hd)) [] (terms_as k spec lens) (holes_as k spec.keys.parts)) ≡ None
    → IsTabled (table_as k spec.keys.hd)
    (layout_in spec (frame_as spec (table_as k spec.keys.hd))
    (stood_from (frame_as spec (table_as k spec.keys.hd)) [] (terms_as k spec lens) (holes_as k spec.keys.parts)))

kind_tabled :
    (spec : ImageSpec) (lens : List ℕ) (k : Kind) → spec.kind ≡ k → IsSpec spec → length lens ≡ length spec.sources
    → AreSources k spec.keys.parts spec.sources → length (counted_of (Some k) spec.keys.parts) ≤ 256
    → IsPlacedAs spec lens k
kind_tabled spec lens kind.Hd is valid even sources few h =
    disk_tabled spec spec.keys.hd.partition_table_type lens
    (record {
      sector = λ t. rw is refl;
      within = valid.within;
      identifiers = valid.identifiers;
      few = few;
      even = even ∙ sym (length_sources spec.keys.parts spec.sources sources);
    })
    valid.within.hd.sector_size h
kind_tabled spec lens kind.Flash is valid even sources few h = is_bare spec _
kind_tabled spec lens kind.Sparse is valid even sources few h = is_bare spec _
kind_tabled spec lens kind.Plain is valid even sources few h = is_bare spec _
kind_tabled spec lens kind.Ready is valid even sources few h = is_bare spec _

pub placed_is_tabled : PlacedIsTabled
placed_is_tabled spec lens valid even h = kind_tabled spec lens spec.kind refl valid even valid.sources valid.few h
