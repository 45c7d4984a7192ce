-- The names that a map's file may not have, and the number of an image.
use Rattle.std.specs.Prelude.{◌≡◌, ℕ, ◌<◌, ◌||◌, List, [], ◌∷◌, Option, Some, Result, Ok, length, slice_get, slice_index_or}
use Rattle.std.specs.List.{flat_map, list_any}
use Rattle.std.specs.Str.{bytes_eq}
use Rattle.std.proofs.Common.{ap, refl, sym, ◌∙◌}
use Rattle.std.proofs.lemmas.List.Folds.{list_any-append}
use Rattle.std.proofs.lemmas.Option.{slice_get-get_or}
use Rattle.base_fields.specs.Results.{◌>>=◌, or_else}
use Rattle.image_graph.specs.Clashes.{ready_name, taken}
use Rattle.image_graph.specs.declared.images.Graph.{Graph}
use Rattle.image_names.specs.Names.{holds}
use Rattle.image_names.proofs.NameLemmas.{list_any-map}
use Rattle.image_specs.specs.declared.specs.ImageSpec.{ImageSpec}
use Rattle.image_specs.specs.Specs.{full_names}
use Rattle.outside.specs.Files.{Tree}
use Rattle.map_job.specs.Said.{chosen_said, image_said, mapping_said}
use Rattle.map_job.specs.declared.faults.MappingFault.{MappingFault}
use Rattle.map_job.specs.declared.faults.MappingFault.TheVariants.{NoImage}

-- ---- names

-- a name among those of any
held_by_any : {X : Type 0} (names : X → List (List ℕ)) (xs : List X) (name : List ℕ)
    → holds (flat_map names xs) name ≡ list_any (λ x. holds (names x) name) xs
held_by_any names [] name = refl
held_by_any names (x ∷ xs) name =
    list_any-append (bytes_eq name) (names x) (flat_map names xs)
    ∙ ap (λ b. holds (names x) name || b) (held_by_any names xs name)

-- a name among the files that are taken ready, and among those of images
pub ready_held : (specs : List ImageSpec) (name : List ℕ)
    → holds (taken specs) name
    ≡ list_any (λ spec. list_any (λ source. holds (ready_name source) name) spec.sources) specs
ready_held specs name =
    held_by_any (λ (spec : ImageSpec). flat_map ready_name spec.sources) specs name
    ∙ any_same specs
  where
    any_same : (ss : List ImageSpec) → list_any (λ spec. holds (flat_map ready_name spec.sources) name) ss
        ≡ list_any (λ spec. list_any (λ source. holds (ready_name source) name) spec.sources) ss
    any_same [] = refl
    any_same (s ∷ ss) =
        ap (λ b. b || list_any (λ spec. holds (flat_map ready_name spec.sources) name) ss)
        (held_by_any ready_name s.sources name)
        ∙ ap (λ b. list_any (λ source. holds (ready_name source) name) s.sources || b) (any_same ss)

pub full_held : (specs : List ImageSpec) (name : List ℕ)
    → holds (full_names specs) name ≡ list_any (λ spec. bytes_eq name spec.full) specs
full_held specs name = list_any-map (bytes_eq name) (λ (spec : ImageSpec). spec.full) specs

-- ---- the image

-- what is said of the whole is said of the image that is chosen
pub mapping_is : (texts : List (List ℕ)) (graph : Graph) (file : Tree) (image out : List ℕ) (number : ℕ)
    (specs : List ImageSpec) (spec : ImageSpec) → Ok number ≡ chosen_said texts graph.specs image out
    → specs ≡ graph.specs → number < length graph.specs → spec ≡ slice_index_or specs number spec
    → mapping_said texts graph file image out ≡ image_said file number spec
mapping_is texts graph file image out number specs spec chosen same below is =
    let found : slice_get graph.specs number ≡ Some spec =
    slice_get-get_or graph.specs number spec below
    ∙ ap Some (sym (is ∙ ap (λ (ss : List ImageSpec). slice_index_or ss number spec) same)) in
    ap (λ (r : Result ℕ MappingFault).
    r >>= (λ n. or_else (slice_get graph.specs n) NoImage >>= image_said file n)) (sym chosen)
    ∙ ap (λ (o : Option ImageSpec). or_else o NoImage >>= image_said file number) found
