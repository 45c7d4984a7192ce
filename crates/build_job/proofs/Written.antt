-- A sparse image that is written.
use Rattle.std.specs.Prelude.{◌≡◌, ℕ, ◌^◌, List, [], ◌∷◌, Some, None, Ok, length}
use Rattle.std.specs.Prelude.{slice_index_or}
use Rattle.std.proofs.Common.{ap, subst, ◌∙◌}
use Rattle.base_fields.specs.declared.spans.Span.{Span}
use Rattle.build_laws.specs.Builds.{Builds, IsCoverFor, child_in}
use Rattle.build_laws.proofs.Steps.{sparse_builds}
use Rattle.conf_keys.specs.declared.conf.Kind.TheVariants as kind
use Rattle.image_plan.specs.declared.faults.PlanFault.TheVariants.{Place}
use Rattle.image_specs.specs.declared.specs.ImageSpec.{ImageSpec}
use Rattle.image_specs.specs.declared.specs.Source.{Source}
use Rattle.outside.specs.Files.{OthersStay, Tree}
use Rattle.placement_rules.specs.declared.faults.PlaceFault.TheVariants.{TooFar}
use Rattle.sparse_writer.specs.Answers.{Writes}
use Rattle.build_job.specs.Said.{first_source, sparse_said}
use Rattle.build_job.proofs.Measured.{IsRead, read_by}

-- ---- its one source

first_is : (spec : ImageSpec) (source : Source) → spec.sources ≡ source ∷ [] → first_source spec ≡ source
first_is spec source one = ap (λ (ss : List Source). slice_index_or ss 0 (record { file = None; child = None })) one

-- ---- its length

read_of : (before : Tree) (spec : ImageSpec) (source : Source) (name : List ℕ) (len : ℕ) → spec.sources ≡ source ∷ []
    → source.file ≡ Some name → sparse_said before spec ≡ Ok len → IsRead (before name) (2 ^ 43) len
read_of before spec source name len one named said =
    read_by before (2 ^ 43) len (λ n. Place (TooFar spec.name n (2 ^ 43))) (first_source spec).file name
    (ap (λ (s : Source). s.file) (first_is spec source one) ∙ named) said

-- ---- its file

pub written_builds : (all : List ImageSpec) (spec : ImageSpec) (source : Source) (name : List ℕ) (len : ℕ)
    (cover : List Span) (before first middle after : Tree) (from to : List ℕ) (done : Unit {0})
    → spec.kind ≡ kind.Sparse → spec.sources ≡ source ∷ [] → source.file ≡ Some name → sparse_said before spec ≡ Ok len
    → IsCoverFor first len cover (child_in all source) → first ≡ before → middle ≡ first → from ≡ name → to ≡ spec.full
    → Writes cover spec.keys.sparse.block_size len from to middle after (Ok done) → OthersStay to middle after
    → Builds all spec before after
written_builds all spec source name len cover before first middle after from to done is one named said counts
    same_first same_middle same_from same_to writes others =
    let block : ℕ = spec.keys.sparse.block_size in
    let same : middle ≡ before = same_middle ∙ same_first in
    let read : IsRead (before name) (2 ^ 43) len = read_of before spec source name len one named said in
    let wrote : Writes cover block len name spec.full before after (Ok done) =
    subst (λ (t : Tree). Writes cover block len name spec.full t after (Ok done)) same
    (subst (λ (n : List ℕ). Writes cover block len n spec.full middle after (Ok done)) same_from
    (subst (λ (n : List ℕ). Writes cover block len from n middle after (Ok done)) same_to writes)) in
    sparse_builds all spec source name len cover before after is one named read.found read.long read.small
    (subst (λ (t : Tree). IsCoverFor t len cover (child_in all source)) same_first counts) wrote.1
    (subst (λ (t : Tree). OthersStay spec.full t after) same
    (subst (λ (n : List ℕ). OthersStay n middle after) same_to others))
