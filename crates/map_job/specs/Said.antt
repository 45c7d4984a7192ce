-- What is said of a block map before it is made: of which image it is, and what of that counts, or the first refusal.
use Rattle.std.specs.Prelude.{ℕ, ◌^◌, Bool, true, false, ◌||◌, not, List, Result, length, nat_eq, nat_le, nat_lt, slice_get}
use Rattle.base_fields.specs.Results.{◌>>=◌, or_else, refused_by, when}
use Rattle.build_job.specs.Said.{sparse_said}
use Rattle.image_graph.specs.Clashes.{taken}
use Rattle.image_graph.specs.declared.images.Graph.{Graph}
use Rattle.image_layout.specs.Layout.{is_covered}
use Rattle.image_layout.specs.declared.layout.Layout.{Layout}
use Rattle.image_names.specs.Names.{holds, number_of}
use Rattle.image_plan.specs.Plans.{is_planned, plan_said}
use Rattle.image_plan.specs.declared.faults.PlanFault.TheVariants.{Place}
use Rattle.image_specs.specs.Specs.{full_names, spec_names}
use Rattle.image_specs.specs.declared.specs.ImageSpec.{ImageSpec}
use Rattle.outside.specs.Files.{Tree}
use Rattle.outside.specs.declared.files.FileErr.TheVariants.{Missing}
use Rattle.placement_rules.specs.declared.faults.PlaceFault.TheVariants.{TooFar}
use Rattle.map_job.specs.declared.faults.MappingFault.{MappingFault}
use Rattle.map_job.specs.declared.faults.MappingFault.TheVariants.{NoImage, NameClash, Plan, Measure, ImageStale}

-- an image as its map sees it: which offsets count, and its bytes
pub record Image : Type 0 where
  pub counts : ℕ → Bool
  pub bytes : List ℕ

-- ---- which image, and where its map goes

-- a text has that name, or a file that is taken ready, or the file of an image that is built
abbrev pub is_named : List (List ℕ) → List ImageSpec → List ℕ → Bool
is_named texts specs out = holds texts out || holds (taken specs) out || holds (full_names specs) out

-- the number of the image of that name, where the map's file has a name of its own
abbrev pub chosen_said : List (List ℕ) → List ImageSpec → List ℕ → List ℕ → Result ℕ MappingFault
chosen_said texts specs image out =
    or_else (number_of (spec_names specs) image) NoImage
    >>= (λ number. when (not (is_named texts specs out)) number NameClash)

-- ---- what of an image counts

-- the bytes of its file
abbrev pub bytes_said : Tree → ℕ → ImageSpec → Result (List ℕ) MappingFault
bytes_said file number spec = or_else (file spec.full) (Measure number Missing)

-- where they are as many as the layout has, those that the layout covers
abbrev pub covered_said : Layout → List ℕ → Result Image MappingFault
covered_said layout bytes =
    when (nat_eq (length bytes) layout.size) (record { counts = is_covered layout; bytes = bytes })
    (ImageStale (length bytes) layout.size)

abbrev pub laid_said : Tree → ℕ → ImageSpec → Result Image MappingFault
laid_said file number spec =
    refused_by (Plan number) (plan_said file spec)
    >>= (λ layout. bytes_said file number spec >>= covered_said layout)

-- where they are at most 2^43, all of them
abbrev pub whole_said : ℕ → ImageSpec → List ℕ → Result Image MappingFault
whole_said number spec bytes =
    when (nat_le (length bytes) (2 ^ 43)) (record { counts = λ o. nat_lt o (length bytes); bytes = bytes })
    (Plan number (Place (TooFar spec.name (length bytes) (2 ^ 43))))

-- an Android sparse image
abbrev pub sparse_image_said : Tree → ℕ → ImageSpec → Result Image MappingFault
sparse_image_said file number spec =
    refused_by (Plan number) (sparse_said file spec)
    >>= (λ len. bytes_said file number spec >>= whole_said number spec)

abbrev pub image_by : Bool → Tree → ℕ → ImageSpec → Result Image MappingFault
image_by true file number spec = laid_said file number spec
image_by false file number spec = sparse_image_said file number spec

-- the image of that number: its plan by the files as they are, and then its own file
abbrev pub image_said : Tree → ℕ → ImageSpec → Result Image MappingFault
image_said file number spec = image_by (is_planned spec.kind) file number spec

-- ---- all of it

abbrev pub mapping_said : List (List ℕ) → Graph → Tree → List ℕ → List ℕ → Result Image MappingFault
mapping_said texts graph file image out =
    chosen_said texts graph.specs image out
    >>= (λ number. or_else (slice_get graph.specs number) NoImage >>= image_said file number)
