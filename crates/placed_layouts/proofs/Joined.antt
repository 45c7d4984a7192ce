-- What two crates of laws say of a layout, joined.
use Rattle.std.specs.Prelude.{◌≡◌, ℕ, List, [], ◌∷◌, None, length}
use Rattle.std.proofs.Common.{ap, refl, suc}
use Rattle.image_layout.specs.IsLayout.{IsLayout}
use Rattle.image_specs.specs.IsSpec.{IsSpec}
use Rattle.image_specs.specs.declared.specs.ImageSpec.{ImageSpec}
use Rattle.image_specs.specs.declared.specs.Source.{Source}
use Rattle.placement.specs.Layouts.{layout_of}
use Rattle.placement.specs.Said.{refusal}
use Rattle.placement_apart.specs.Apart.{AreLengths}
use Rattle.placement_apart.proofs.Law.{placed_lies_apart}
use Rattle.placement_tables.proofs.Tabled.{placed_is_tabled}
use Rattle.placed_layouts.specs.Layouts.{PlacedIsLayout}

as_many : (sources : List Source) (lens : List ℕ) → AreLengths sources lens → length lens ≡ length sources
as_many [] [] even = refl
as_many [] (len ∷ lens) even = absurd even
as_many (source ∷ sources) [] even = absurd even
as_many (source ∷ sources) (len ∷ lens) even = ap suc (as_many sources lens even.1)

pub placed_is_layout : PlacedIsLayout
placed_is_layout spec lens valid lengths none =
    let spread = placed_lies_apart spec lens valid lengths none in
    record {
      size = spread.size;
      sector = spread.sector;
      few = spread.few;
      parts = spread.parts;
      tabled = placed_is_tabled spec lens valid (as_many spec.sources lens lengths) none;
      inside = spread.inside;
      apart = spread.apart;
    }
