-- What shows that an image is not built.
use Rattle.std.specs.Prelude.{◌≡◌, ℕ, ◌<◌, ◌⊎◌, List, Some, IsOk, IsSomeAnd, IsTrue, slice_get, take}
use Rattle.std.specs.List.{filter_map}
use Rattle.build_laws.specs.Builds.{BuildsTo}
use Rattle.build_laws.specs.Order.{ordered}
use Rattle.conf_keys.specs.declared.conf.Kind.{Kind}
use Rattle.conf_keys.specs.declared.conf.Kind.TheVariants as kind
use Rattle.image_graph.specs.declared.images.Graph.{Graph}
use Rattle.image_plan.specs.Faults.{is_counted, IsShown as IsPlanShown}
use Rattle.image_plan.specs.Plans.{is_planned, plan_said}
use Rattle.image_plan.specs.declared.faults.PlanFault.{PlanFault}
use Rattle.image_specs.specs.declared.specs.ImageSpec.{ImageSpec}
use Rattle.image_specs.specs.declared.specs.Source.{Source}
use Rattle.job_stages.specs.Stages.{Refuses}
use Rattle.outside.specs.Counts.{Counts, Rose}
use Rattle.outside.specs.Files.{OthersStay, Tree}
use Rattle.outside.specs.declared.files.ComposeFault.{ComposeFault}
use Rattle.outside.specs.declared.files.ComposeFault.TheVariants as compose
use Rattle.outside.specs.declared.files.FileErr.{FileErr}
use Rattle.outside.specs.declared.files.FileErr.TheVariants as measure
use Rattle.build_job.specs.Said.{first_source, sparse_said}
use Rattle.build_job.specs.declared.faults.BuildFault.{BuildFault}
use Rattle.build_job.specs.declared.faults.BuildFault.TheVariants.{Plan, Compose, Measure, NoMemory}

-- a fault names one of so many images
abbrev pub IsOfImages : ℕ → BuildFault → Type 0
IsOfImages n (Plan image fault) = image < n
IsOfImages n (Compose image fault) = image < n
IsOfImages n (Measure image fault) = image < n
IsOfImages n NoMemory = Unit {0}

-- ---- by the counts of the files

abbrev pub IsComposeShown : Counts → Counts → ComposeFault → Type 0
IsComposeShown before now (compose.Missing part) = Rose before.absences now.absences
IsComposeShown before now compose.FileFault = Rose before.faults now.faults
IsComposeShown before now (compose.SourceShort part at) = Rose before.ends now.ends
IsComposeShown before now compose.NoMemory = Unit {0}

abbrev pub IsLengthShown : Counts → Counts → FileErr → Type 0
IsLengthShown before now measure.Missing = Rose before.absences now.absences
IsLengthShown before now measure.Failed = Rose before.faults now.faults

abbrev pub IsShown : Counts → Counts → BuildFault → Type 0
IsShown before now (Plan image fault) = IsPlanShown before now fault
IsShown before now (Compose image fault) = IsComposeShown before now fault
IsShown before now (Measure image fault) = IsLengthShown before now fault
IsShown before now NoMemory = Unit {0}

-- ---- over told files, one image

-- a file that is planned is made, but where a call failed or memory was refused: no byte that it needs is lacking
abbrev pub IsComposeCounted : ComposeFault → Type 0
IsComposeCounted (compose.Missing part) = ⊥
IsComposeCounted compose.FileFault = Unit {0}
IsComposeCounted (compose.SourceShort part at) = ⊥
IsComposeCounted compose.NoMemory = Unit {0}

-- an image with parts has no layout by the files before, or its file is not made
abbrev pub IsLayoutRefused : ℕ → ImageSpec → Tree → BuildFault → Type 0
IsLayoutRefused number spec before (Plan image fault) =
    (image ≡ number) × Refuses is_counted (plan_said before spec) fault
IsLayoutRefused number spec before (Compose image fault) =
    (image ≡ number) × IsOk (plan_said before spec) × IsComposeCounted fault
IsLayoutRefused number spec before (Measure image fault) = ⊥
IsLayoutRefused number spec before NoMemory = ⊥

-- the image of that number, which is put into a sparse one, has no layout, or memory was refused
abbrev pub IsLaidCoverRefused : ℕ → ImageSpec → Tree → BuildFault → Type 0
IsLaidCoverRefused number child before (Plan image fault) =
    (image ≡ number) × Refuses is_counted (plan_said before child) fault
IsLaidCoverRefused number child before (Compose image fault) = ⊥
IsLaidCoverRefused number child before (Measure image fault) = ⊥
IsLaidCoverRefused number child before NoMemory = Unit {0}

-- the image that is built for a source has no layout
abbrev pub IsChildRefused : List ImageSpec → Source → Tree → ℕ → PlanFault → Type 0
IsChildRefused all source before image fault =
    (source.child ≡ Some image)
    × IsSomeAnd (slice_get all image)
    (λ child. IsTrue (is_planned child.kind) × Refuses is_counted (plan_said before child) fault)

-- so it has none, or memory was refused
abbrev pub IsCoverRefused : List ImageSpec → Source → Tree → BuildFault → Type 0
IsCoverRefused all source before (Plan image fault) = IsChildRefused all source before image fault
IsCoverRefused all source before (Compose image fault) = ⊥
IsCoverRefused all source before (Measure image fault) = ⊥
IsCoverRefused all source before NoMemory = Unit {0}

-- a sparse image's source isn't there or too long, or its file is not made
abbrev pub IsSparseRefused : List ImageSpec → ℕ → ImageSpec → Tree → BuildFault → Type 0
IsSparseRefused all number spec before (Plan image fault) =
    ((image ≡ number) × Refuses is_counted (sparse_said before spec) fault)
    ⊎ IsChildRefused all (first_source spec) before image fault
IsSparseRefused all number spec before (Compose image fault) =
    (image ≡ number) × IsOk (sparse_said before spec) × IsComposeCounted fault
IsSparseRefused all number spec before (Measure image fault) = ⊥
IsSparseRefused all number spec before NoMemory = Unit {0}

abbrev pub IsRefusedAs : Kind → List ImageSpec → ℕ → ImageSpec → Tree → BuildFault → Type 0
IsRefusedAs kind.Hd all number spec before fault = IsLayoutRefused number spec before fault
IsRefusedAs kind.Plain all number spec before fault = IsLayoutRefused number spec before fault
IsRefusedAs kind.Flash all number spec before fault = IsLayoutRefused number spec before fault
IsRefusedAs kind.Sparse all number spec before fault = IsSparseRefused all number spec before fault
IsRefusedAs kind.Ready all number spec before fault = ⊥

abbrev pub IsRefused : List ImageSpec → ℕ → ImageSpec → Tree → BuildFault → Type 0
IsRefused all number spec before fault = IsRefusedAs spec.kind all number spec before fault

-- ---- over told files, all images

-- those before an image in the order are built, it is refused by the files that they left, and every name but that of its
-- file is still as they left it
pub record IsStopped (graph : Graph) (before after : Tree) (fault : BuildFault) : Type 0 where
  pub place : ℕ
  pub number : ℕ
  pub spec : ImageSpec
  pub at : slice_get graph.order place ≡ Some number
  pub is : slice_get graph.specs number ≡ Some spec
  pub middle : Tree
  pub built : BuildsTo graph.specs (filter_map (slice_get graph.specs) (take place graph.order)) before middle
  pub refused : IsRefused graph.specs number spec middle fault
  pub others : OthersStay spec.full middle after

-- a length was not given, or memory was refused
abbrev pub IsUnmeasured : BuildFault → Type 0
IsUnmeasured (Plan image fault) = ⊥
IsUnmeasured (Compose image fault) = ⊥
IsUnmeasured (Measure image fault) = fault ≡ measure.Failed
IsUnmeasured NoMemory = Unit {0}

-- all are built, and their files' lengths are not given
pub record IsBuiltBut (graph : Graph) (before after : Tree) (fault : BuildFault) : Type 0 where
  pub built : BuildsTo graph.specs (ordered graph) before after
  pub why : IsUnmeasured fault

abbrev pub IsEnded : Graph → Tree → Tree → BuildFault → Type 0
IsEnded graph before after fault = IsStopped graph before after fault ⊎ IsBuiltBut graph before after fault
