-- The children of images that are built.
use Rattle.std.specs.Prelude.{ℕ, List, map}
use Rattle.std.specs.List.{filter_map}
use Rattle.image_specs.specs.declared.specs.ImageSpec.{ImageSpec}

-- the numbers of an image's children, in the order of its sources
abbrev pub children_of : ImageSpec → List ℕ
children_of spec = filter_map (λ source. source.child) spec.sources

abbrev pub families_of : List ImageSpec → List (List ℕ)
families_of specs = map children_of specs
