-- Images of which each may be built from the files that those before it left.
use Rattle.std.specs.Prelude.{◌≢◌, ℕ, List, [], ◌++◌, All, Option, None, Some, slice_get}
use Rattle.std.specs.List.{AllPairs, filter_map, flat_map}
use Rattle.build_laws.specs.Builds.{child_in}
use Rattle.image_graph.specs.declared.images.Graph.{Graph}
use Rattle.image_names.specs.Names.{AreApart}
use Rattle.image_specs.specs.declared.specs.ImageSpec.{ImageSpec}
use Rattle.image_specs.specs.declared.specs.Source.{Source}
use Rattle.image_specs.specs.Specs.{full_names}

abbrev pub sources_in : Option ImageSpec → List Source
sources_in None = []
sources_in (Some spec) = spec.sources

-- its sources, and those of the images that are built for them: what it is made from, and what their layouts are from
abbrev pub inputs_of : List ImageSpec → ImageSpec → List Source
inputs_of all spec = spec.sources ++ flat_map (λ source. sources_in (child_in all source)) spec.sources

-- no source of its own has that file
abbrev pub IsWithout : List ℕ → ImageSpec → Type 0
IsWithout name spec = All (λ source. source.file ≢ Some name) spec.sources

-- no input has that file
abbrev pub IsFreeOf : List ImageSpec → List ℕ → ImageSpec → Type 0
IsFreeOf all name spec = All (λ source. source.file ≢ Some name) (inputs_of all spec)

-- no two have the same file, and none is made from its own file or from that of a later image
pub record AreInOrder (all specs : List ImageSpec) : Type 0 where
  pub apart : AreApart (full_names specs)
  pub own : All (λ spec. IsFreeOf all spec.full spec) specs
  pub later : AllPairs (λ spec later. IsFreeOf all later.full spec) specs

-- the images of a graph, one behind another
abbrev pub ordered : Graph → List ImageSpec
ordered graph = filter_map (slice_get graph.specs) graph.order
