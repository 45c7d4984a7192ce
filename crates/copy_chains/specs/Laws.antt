-- The laws of the runs of a copy: what the clauses of a copy say is what a chain asks for.
use Rattle.std.specs.Prelude.{◌≡◌, ℕ, List, ◌∷◌, Option, Some, Ok, All}
use Rattle.bench.specs.Disk.{Disk, Looked}
use Rattle.chain_laws.specs.Chains.{EndsDone, IsChain, IsRunOf, Job, Run}
use Rattle.copier.specs.Runs.{IsDone, IsTold}
use Rattle.copier_course.specs.declared.jobs.CopyJob.{CopyJob}
use Rattle.copy_job.specs.Said.{copying_said}
use Rattle.copy_job.specs.declared.requests.CopyRequest.{CopyRequest}
use Rattle.copy_run.specs.Runs.{RunKeepsSince}
use Rattle.image_graph.specs.declared.images.Graph.{Graph}
use Rattle.image_laws.specs.Images.{HoldsImage, IsChosen, IsMappedIn}
use Rattle.image_specs.specs.declared.specs.ImageSpec.{ImageSpec}
use Rattle.map_job.specs.Said.{Image}
use Rattle.outside.specs.Files.{Tree}
use Rattle.copy_chains.specs.Copies.{IsOfImage, IsSaid, SameCopy, common_of}

-- ---- the job
abbrev pub CopyingSaysTheJob : Type 0
CopyingSaysTheJob = (file : Tree) (request : CopyRequest) (job : CopyJob) → copying_said file request ≡ Ok job →
    IsSaid file request job

-- all runs of one copy have the same in common
abbrev pub CopiesHaveOneJob : Type 0
CopiesHaveOneJob = (file : Tree) (one other : CopyRequest) (job too : CopyJob) (source : Option (List ℕ)) →
    SameCopy one other → copying_said file one ≡ Ok job → copying_said file other ≡ Ok too →
    common_of job source ≡ common_of too source

-- ---- its runs
-- where the source is told, or none is, what a run keeps makes it a run of a chain; so does that it only looked
abbrev pub RunsAreOfChains : {B : Type 0} → Type 0 → (B → Disk) → Type 0
RunsAreOfChains {B} told disk = (file source : Option (List ℕ)) (job : CopyJob) (old new : B) → IsTold told file source →
    RunKeepsSince told file job (disk old) (disk new) → IsRunOf (common_of job source) (disk old) (disk new)

abbrev pub LooksAreOfChains : {B : Type 0} → (B → Disk) → Type 0
LooksAreOfChains {B} disk = (job : Job) (old new : B) → Looked (disk old) (disk new) → IsRunOf job (disk old) (disk new)

-- a run that is done is one at a chain's end
abbrev pub DoneRunsEndChains : {B : Type 0} → (B → Disk) → Type 0
DoneRunsEndChains {B} disk = (job : CopyJob) (source : Option (List ℕ)) (new : B) → IsDone job (disk new) →
    EndsDone (common_of job source) (disk new)

-- ---- the image
-- Where an image was built, and mapped from the files that the build left, and a chain of runs of the copy that the words
-- ask for, with that image as the source and that map, is done, the target has what was built.
abbrev pub CopiedImagesAreOnTarget : {B : Type 0} → (B → Disk) → Type 0
CopiedImagesAreOnTarget {B} disk = (graph : Graph) (texts : List (List ℕ)) (name out : List ℕ) (block : ℕ)
    (before built after : Tree) (image : Image) (spec : ImageSpec) (request : CopyRequest) (job : CopyJob) (bytes : List ℕ)
    (first : Run B) (later : List (Run B)) → IsMappedIn graph texts name out block before built after image →
    IsChosen graph texts name out spec → IsOfImage request spec out → copying_said after request ≡ Ok job →
    after spec.full ≡ Some bytes → IsChain disk (common_of job (Some bytes)) first later →
    All (λ run. IsDone job (disk run.new) → HoldsImage (disk run.new) built spec) (first ∷ later)
