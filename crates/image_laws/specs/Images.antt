-- An image that was built and mapped, and a target that it was copied to by that map. The trees are the files before the
-- build, behind it, and behind the writing of the map.
use Rattle.std.specs.Prelude.{◌≡◌, ℕ, ◌<◌, Bool, true, false, List, length, slice_get, Some, Ok, IsOkAnd, IsTrue}
use Rattle.bench.specs.Disk.{Disk, EachPair}
use Rattle.bench.specs.declared.Dev.TheVariants.{Target}
use Rattle.build_laws.specs.Builds.{Built}
use Rattle.copy_states.specs.Standing.{IsByteOf}
use Rattle.image_graph.specs.declared.images.Graph.{Graph}
use Rattle.image_layout.specs.Layout.{byte_at, is_covered}
use Rattle.image_plan.specs.Plans.{is_planned, plan_said}
use Rattle.image_specs.specs.declared.specs.ImageSpec.{ImageSpec}
use Rattle.map_job.specs.Mapped.{IsMapped}
use Rattle.map_job.specs.Said.{Image, chosen_said, mapping_said}
use Rattle.map_job.specs.declared.mapping.Mapped.{Mapped}
use Rattle.map_source.specs.Said.{map_said}
use Rattle.map_source.specs.declared.sources.MapSource.{MapSource}
use Rattle.outside.specs.Files.{OthersStay, Tree, bytes_of}

-- ---- before the copy
-- The images of a graph were built; then the one of that name was mapped, in blocks of so many bytes, to a file of another
-- name, which holds the text of its map. Every other name is as the build left it.
pub record IsMappedIn (graph : Graph) (texts : List (List ℕ)) (name out : List ℕ) (block : ℕ) (before built after : Tree)
    (image : Image) : Type 0 where
  pub build : Built graph.specs before graph.specs built
  pub said : mapping_said texts graph built name out ≡ Ok image
  pub mapped : Mapped
  pub map : IsMapped image block (after out) mapped
  pub others : OthersStay out built after

-- it is this one of the graph's
pub record IsChosen (graph : Graph) (texts : List (List ℕ)) (name out : List ℕ) (spec : ImageSpec) : Type 0 where
  pub number : ℕ
  pub chosen : chosen_said texts graph.specs name out ≡ Ok number
  pub there : slice_get graph.specs number ≡ Some spec

-- what is copied: these bytes, which the image's file has, by the map that the map's file is read as
pub record IsCopyFrom (spec : ImageSpec) (out : List ℕ) (file : Tree) (bytes : List ℕ) (source : MapSource) : Type 0 where
  pub bytes_are : file spec.full ≡ Some bytes
  pub map : map_said (file out) ≡ Ok source

-- ---- on the target
-- at each offset of the image that counts the target has its byte
abbrev pub HasImage : Image → List ℕ → Type 0
HasImage image t = (o : ℕ) → o < length image.bytes → IsTrue (image.counts o) → IsByteOf image.bytes t o

-- of an image that has a plan, the byte of its layout at every offset that this covers; of another, which is a sparse one,
-- the byte of its file at every offset below its length
abbrev pub has_on_target : Bool → Tree → ImageSpec → List ℕ → Type 0
has_on_target true file spec t = IsOkAnd (plan_said file spec) (λ layout. (o : ℕ) → o < layout.size →
    IsTrue (is_covered layout o) → slice_get t o ≡ Some (byte_at layout (bytes_of file) o))
has_on_target false file spec t = (o : ℕ) → o < length (bytes_of file spec.full) →
    slice_get t o ≡ slice_get (bytes_of file spec.full) o

abbrev pub IsOnTarget : Tree → ImageSpec → List ℕ → Type 0
IsOnTarget file spec t = has_on_target (is_planned spec.kind) file spec t

-- so it is as the target reads, and on each image that a stop may leave of it
pub record HoldsImage (new : Disk) (file : Tree) (spec : ImageSpec) : Type 0 where
  pub reads : IsOnTarget file spec (new.reads Target)
  pub each : EachPair new (λ t j. IsOnTarget file spec t)
