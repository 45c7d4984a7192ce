-- The lengths of the files of images that are built, one after another.
use Rattle.std.specs.Prelude.{◌≡◌, ℕ, suc, List, [], ◌∷◌, ◌++◌, Some, length, map, slice_get, take}
use Rattle.std.specs.List.{filter_map}
use Rattle.std.proofs.Common.{ap, subst, sym, ◌∙◌}
use Rattle.std.proofs.lemmas.List.{map-append}
use Rattle.image_graph.specs.declared.images.Graph.{Graph}
use Rattle.image_specs.specs.declared.specs.ImageSpec.{ImageSpec}
use Rattle.outside.specs.Files.{Tree, bytes_of}
use Rattle.build_job.proofs.Steps.{StandsAt, found_at, taken_at}

-- ---- one length more

abbrev pub size_in : Tree → ImageSpec → ℕ
size_in file spec = length (bytes_of file spec.full)

pub sizes_more : (graph : Graph) (file : Tree) (k n d : ℕ) (spec : ImageSpec) (sizes new : List ℕ) (len : ℕ) → n ≡ suc k
    → StandsAt graph k d spec
    → sizes ≡ map (size_in file) (filter_map (slice_get graph.specs) (take k graph.order))
    → len ≡ size_in file spec → new ≡ sizes ++ len ∷ []
    → new ≡ map (size_in file) (filter_map (slice_get graph.specs) (take n graph.order))
sizes_more graph file k n d spec sizes new len next_number stands so_far long grown =
    let front : List ImageSpec = filter_map (slice_get graph.specs) (take k graph.order) in
    let more : filter_map (slice_get graph.specs) (take n graph.order) ≡ front ++ spec ∷ [] =
    taken_at graph.specs graph.order k n d spec next_number stands.below (found_at graph k d spec stands) in
    grown
    ∙ ap (λ (ls : List ℕ). ls ++ len ∷ []) so_far
    ∙ ap (λ (l : ℕ). map (size_in file) front ++ l ∷ []) long
    ∙ sym (map-append (size_in file) front (spec ∷ []))
    ∙ ap (map (size_in file)) (sym more)

-- ---- a file under the same name in the same files

pub there_still : (old now : Tree) (name given : List ℕ) → now ≡ old → given ≡ name → old name ≡ Some (bytes_of old name)
    → now given ≡ Some (bytes_of now given)
there_still old now name given same_files same_name there =
    subst (λ (t : Tree). t given ≡ Some (bytes_of t given)) (sym same_files)
    (subst (λ (n : List ℕ). old n ≡ Some (bytes_of old n)) (sym same_name) there)

pub long_still : (old now : Tree) (name given : List ℕ) (len : ℕ) → now ≡ old → given ≡ name
    → len ≡ length (bytes_of now given) → len ≡ length (bytes_of old name)
long_still old now name given len same_files same_name long =
    long
    ∙ ap (λ (t : Tree). length (bytes_of t given)) same_files
    ∙ ap (λ (n : List ℕ). length (bytes_of old n)) same_name
