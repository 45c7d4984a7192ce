-- What is said of a sparse image before its file is made, and the lengths of all files that are made.
use Rattle.std.specs.Prelude.{ℕ, ◌^◌, List, [], None, Result, length, map, nat_le, slice_index_or}
use Rattle.base_fields.specs.Results.{◌>>=◌, when}
use Rattle.build_laws.specs.Order.{ordered}
use Rattle.image_graph.specs.declared.images.Graph.{Graph}
use Rattle.image_plan.specs.Lengths.{length_said}
use Rattle.image_plan.specs.declared.faults.PlanFault.{PlanFault}
use Rattle.image_plan.specs.declared.faults.PlanFault.TheVariants.{Place}
use Rattle.image_specs.specs.declared.specs.ImageSpec.{ImageSpec}
use Rattle.image_specs.specs.declared.specs.Source.{Source}
use Rattle.outside.specs.Files.{Tree, bytes_of}
use Rattle.placement_rules.specs.declared.faults.PlaceFault.TheVariants.{TooFar}

-- its one source
abbrev pub first_source : ImageSpec → Source
first_source spec = slice_index_or spec.sources 0 (record { file = None; child = None })

-- the length of what is put into a sparse image, at most 2^43 bytes
abbrev pub sparse_said : Tree → ImageSpec → Result ℕ PlanFault
sparse_said file spec =
    length_said file 0 (first_source spec)
    >>= (λ len. when (nat_le len (2 ^ 43)) len (Place (TooFar spec.name len (2 ^ 43))))

-- the length of each image's file in bytes, in the order of the graph
abbrev pub sizes_of : Graph → Tree → List ℕ
sizes_of graph file = map (λ spec. length (bytes_of file spec.full)) (ordered graph)
