-- The layout of a flash image, and what is asked of it.
use Rattle.std.specs.Prelude.{◌≡◌, ℕ, true, false, List, [], ◌∷◌, Option, None, unwrap_or}
use Rattle.std.specs.List.{AllZip}
use Rattle.base_fields.specs.declared.spans.Span.{Span}
use Rattle.base_fields.specs.declared.spans.TableKind.TheVariants as table
use Rattle.conf_keys.specs.declared.conf.Kind.TheVariants.{Flash}
use Rattle.conf_keys.specs.declared.conf.PartitionSection.{PartitionSection}
use Rattle.image_layout.specs.declared.layout.Layout.{Layout}
use Rattle.image_layout.specs.declared.layout.Placed.{Placed}
use Rattle.image_specs.specs.IsSpec.{IsSpec}
use Rattle.image_specs.specs.declared.specs.ImageSpec.{ImageSpec}
use Rattle.image_specs.specs.declared.specs.Source.{Source}
use Rattle.placement_rules.specs.declared.faults.PlaceFault.{PlaceFault}
use Rattle.flash_geometry.specs.Faults.{refusal_of}
use Rattle.flash_geometry.specs.Places.{IsGeometryOf, last_end, places}
use Rattle.flash_geometry.specs.declared.geometry.Geometry.{Geometry}

-- ---- what is asked

-- a length for each source: that of its file, and 0 where it has none
abbrev pub AreLens : List Source → List ℕ → Type 0
AreLens sources lens = AllZip (λ source len. source.file ≡ None → len ≡ 0) sources lens

-- an image for the device
pub record IsFlash (spec : ImageSpec) (g : Geometry) : Type 0 where
  pub built : IsSpec spec
  pub kind : spec.kind ≡ Flash
  pub device : IsGeometryOf spec.flash g

-- ---- the layout

abbrev pub placed_of : PartitionSection → Source → ℕ → Span → Placed
placed_of part source len s = record {
  name = part.name;
  source = source.file;
  at = s.at;
  size = s.len;
  len = len;
  whole = false;
  holes = [];
}

-- one for each partition, in order
abbrev pub parts_from : List PartitionSection → List Source → List ℕ → List Span → List Placed
parts_from (part ∷ parts) (source ∷ sources) (len ∷ lens) (s ∷ ss) =
    placed_of part source len s ∷ parts_from parts sources lens ss
parts_from _ _ _ _ = []

-- no table, FF where no file has a byte, and every byte covered
abbrev pub layout_in : ImageSpec → List ℕ → List Span → Layout
layout_in spec lens ss = record {
  file = spec.full;
  size = unwrap_or spec.keys.size (last_end ss);
  fill = 0xFF;
  whole = true;
  table = table.Bare;
  sector = 512;
  mbr = None;
  hybrid = [];
  logical = [];
  gpt = None;
  parts = parts_from spec.keys.parts spec.sources lens ss;
}

abbrev pub layout_of : ImageSpec → Geometry → List ℕ → Layout
layout_of spec g lens = layout_in spec lens (places g spec.keys.parts lens)

-- why an image isn't placed
abbrev pub refusal : ImageSpec → Geometry → List ℕ → Option PlaceFault
refusal spec g lens = refusal_of g spec.name spec.keys.size spec.keys.parts lens
