-- The laws of an image and its map.
use Rattle.std.specs.Prelude.{◌≡◌, ◌≤◌, ℕ, List, ◌∷◌, length, All, Option, Some, Ok}
use Rattle.sha2.specs.Sha256.{sha256}
use Rattle.bench.specs.Disk.{Disk}
use Rattle.chain_laws.specs.Chains.{EndsDone, IsChain, Job, Run}
use Rattle.copy_states.specs.Jobs.{IsJobOf}
use Rattle.copy_states.specs.Standing.{Copied}
use Rattle.image_graph.specs.declared.images.Graph.{Graph}
use Rattle.image_specs.specs.declared.specs.ImageSpec.{ImageSpec}
use Rattle.journal_format.specs.declared.jobs.JobId.{JobId}
use Rattle.map_job.specs.Mapped.{IsMapped}
use Rattle.map_job.specs.Said.{Image}
use Rattle.map_job.specs.declared.mapping.Mapped.{Mapped}
use Rattle.map_source.specs.Said.{map_said, most_bytes}
use Rattle.map_source.specs.declared.sources.MapSource.{MapSource}
use Rattle.outside.specs.Files.{Tree}
use Rattle.image_laws.specs.Images.{HasImage, HoldsImage, IsChosen, IsCopyFrom, IsMappedIn, IsOnTarget}

-- ---- the map
-- a map that is read of the text that was written for an image is the map of that image
abbrev pub MappedTextsAreTheMap : Type 0
MappedTextsAreTheMap = (image : Image) (block : ℕ) (file : Option (List ℕ)) (mapped : Mapped) (source : MapSource) →
    (is : IsMapped image block file mapped) → map_said file ≡ Ok source → source.map ≡ is.map

-- and it is read, where the text isn't too long
abbrev pub MappedTextsAreRead : Type 0
MappedTextsAreRead = (image : Image) (block : ℕ) (text : List ℕ) (mapped : Mapped) →
    (is : IsMapped image block (Some text) mapped) → length text ≤ most_bytes →
    map_said (Some text) ≡ Ok (record { map = is.map; digest = sha256 text })

-- ---- the image
-- a target that the image's bytes are copied to, by that map, has the image
abbrev pub CopiesHaveTheImage : Type 0
CopiesHaveTheImage = (image : Image) (block : ℕ) (file : Option (List ℕ)) (mapped : Mapped) (source : MapSource)
    (id : JobId) (t j : List ℕ) → IsMapped image block file mapped → map_said file ≡ Ok source →
    Copied id source.map (Some image.bytes) t j → HasImage image t

-- so it has what was built, where the image was built, and mapped from the files that the build left
abbrev pub BuiltImagesAreOnTarget : Type 0
BuiltImagesAreOnTarget = (graph : Graph) (texts : List (List ℕ)) (name out : List ℕ) (block : ℕ)
    (before built after : Tree) (image : Image) (spec : ImageSpec) (bytes : List ℕ) (source : MapSource) (id : JobId)
    (t j : List ℕ) → IsMappedIn graph texts name out block before built after image →
    IsChosen graph texts name out spec → IsCopyFrom spec out after bytes source →
    Copied id source.map (Some bytes) t j → IsOnTarget built spec t

-- the job of the runs that copy it
abbrev pub copy_of : JobId → MapSource → List ℕ → Job
copy_of id source bytes = record { id = id; map = source.map; source = Some bytes }

-- and so has every image that a stop may leave of a target, and what it reads, once a run of a chain with that image and
-- map is done
abbrev pub DoneChainsPutImages : {B : Type 0} → (B → Disk) → Type 0
DoneChainsPutImages {B} disk = (graph : Graph) (texts : List (List ℕ)) (name out : List ℕ) (block : ℕ)
    (before built after : Tree) (image : Image) (spec : ImageSpec) (bytes : List ℕ) (source : MapSource) (id : JobId)
    (first : Run B) (later : List (Run B)) → IsMappedIn graph texts name out block before built after image →
    IsChosen graph texts name out spec → IsCopyFrom spec out after bytes source →
    IsJobOf id source.map → IsChain disk (copy_of id source bytes) first later →
    All (λ run. EndsDone (copy_of id source bytes) (disk run.new) → HoldsImage (disk run.new) built spec) (first ∷ later)
