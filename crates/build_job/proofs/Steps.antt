-- One image more of a graph.
use Rattle.std.specs.Prelude.{◌≡◌, ℕ, zero, suc, ◌<◌, List, [], ◌∷◌, ◌++◌, All, Contains, Option, Some, None, length}
use Rattle.std.specs.Prelude.{slice_get, slice_index_or, take}
use Rattle.std.specs.List.{cons_option, filter_map}
use Rattle.std.proofs.Common.{refl, ap, sym, subst, ◌∙◌, arith}
use Rattle.std.proofs.lemmas.List.{length-map}
use Rattle.std.proofs.lemmas.List.Elements.{All-head, All-tail}
use Rattle.std.proofs.lemmas.Option.{slice_get-get_or}
use Rattle.build_laws.specs.Builds.{Builds, BuildsTo}
use Rattle.build_laws.specs.Order.{IsWithout, ordered}
use Rattle.build_laws.proofs.Graphs.{none_of_own}
use Rattle.build_laws.proofs.Steps.{builds_more}
use Rattle.image_graph.specs.Children.{children_of}
use Rattle.image_graph.specs.IsGraph.{IsGraph, IsMadeOf}
use Rattle.image_graph.specs.declared.images.Graph.{Graph}
use Rattle.image_specs.specs.declared.specs.ImageSpec.{ImageSpec}
use Rattle.image_specs.specs.Specs.{full_names}
use Rattle.outside.specs.Files.{OthersStay, Tree}
use Rattle.build_job.specs.Faults.{IsRefused, IsStopped}
use Rattle.build_job.specs.Files.{StayOutside}
use Rattle.build_job.specs.declared.faults.BuildFault.{BuildFault}

cons_append : (o : Option ImageSpec) (xs ys : List ImageSpec) → cons_option o xs ++ ys ≡ cons_option o (xs ++ ys)
cons_append None xs ys = refl
cons_append (Some x) xs ys = refl

-- the images of one number more
taken_more : (specs : List ImageSpec) (order : List ℕ) (k d : ℕ) → k < length order
    → filter_map (slice_get specs) (take (suc k) order)
    ≡ filter_map (slice_get specs) (take k order) ++ cons_option (slice_get specs (slice_index_or order k d)) []
taken_more specs [] k d inside = absurd (omega arith)
taken_more specs (image ∷ order) zero d inside = refl
taken_more specs (image ∷ order) (suc k) d inside =
    ap (cons_option (slice_get specs image)) (taken_more specs order k d (omega arith))
    ∙ sym (cons_append (slice_get specs image) (filter_map (slice_get specs) (take k order))
    (cons_option (slice_get specs (slice_index_or order k d)) []))

pub taken_at : (specs : List ImageSpec) (order : List ℕ) (k n d : ℕ) (spec : ImageSpec) → n ≡ suc k → k < length order
    → slice_get specs (slice_index_or order k d) ≡ Some spec
    → filter_map (slice_get specs) (take n order) ≡ filter_map (slice_get specs) (take k order) ++ spec ∷ []
taken_at specs order k n d spec next_number inside there =
    ap (λ (m : ℕ). filter_map (slice_get specs) (take m order)) next_number
    ∙ taken_more specs order k d inside
    ∙ ap (λ (o : Option ImageSpec). filter_map (slice_get specs) (take k order) ++ cons_option o []) there

-- one more is built
pub built_more : (specs : List ImageSpec) (order : List ℕ) (k n d : ℕ) (spec : ImageSpec) (before middle after : Tree)
    → n ≡ suc k → k < length order → slice_get specs (slice_index_or order k d) ≡ Some spec
    → BuildsTo specs (filter_map (slice_get specs) (take k order)) before middle → Builds specs spec middle after
    → BuildsTo specs (filter_map (slice_get specs) (take n order)) before after
built_more specs order k n d spec before middle after next_number inside there built next =
    subst (λ (xs : List ImageSpec). BuildsTo specs xs before after)
    (sym (taken_at specs order k n d spec next_number inside there))
    (builds_more specs (filter_map (slice_get specs) (take k order)) spec before middle after built next)

all_behind : (Q : ImageSpec → Type 0) (o : Option ImageSpec) (xs : List ImageSpec) → All Q (cons_option o xs) → All Q xs
all_behind Q None xs all = all
all_behind Q (Some x) xs all = All-tail Q x xs all

-- what holds of the images in an order holds of that at a place of it
of_ordered : (Q : ImageSpec → Type 0) (specs : List ImageSpec) (order : List ℕ) (k d : ℕ) (spec : ImageSpec)
    → All Q (filter_map (slice_get specs) order) → k < length order
    → slice_get specs (slice_index_or order k d) ≡ Some spec → Q spec
of_ordered Q specs [] k d spec all inside there = absurd (omega arith)
of_ordered Q specs (image ∷ order) zero d spec all inside there =
    All-head Q spec (filter_map (slice_get specs) order)
    (subst (λ (o : Option ImageSpec). All Q (cons_option o (filter_map (slice_get specs) order))) there all)
of_ordered Q specs (image ∷ order) (suc k) d spec all inside there =
    of_ordered Q specs order k d spec
    (all_behind Q (slice_get specs image) (filter_map (slice_get specs) order) all) (omega arith) there

-- an image's file is among the names
pub full_there : (specs : List ImageSpec) (k : ℕ) (d : ImageSpec) → k < length specs
    → Contains (full_names specs) (slice_index_or specs k d).full
full_there [] k d inside = absurd (omega arith)
full_there (spec ∷ specs) zero d inside = (zero, omega arith, refl)
full_there (spec ∷ specs) (suc k) d inside =
    let h : Contains (full_names specs) (slice_index_or specs k d).full = full_there specs k d (omega arith) in
    (suc h.0, omega (arith, h.1), h.2)

pub others_more : (names : List (List ℕ)) (name : List ℕ) (before middle after : Tree) → Contains names name
    → StayOutside names before middle → OthersStay name middle after → StayOutside names before after
others_more names name before middle after there behind next =
    λ other none. next other (λ same. none (subst (Contains names) (sym same) there)) ∙ behind other none

-- ---- the image at a place of the order

pub record StandsAt (graph : Graph) (k d : ℕ) (spec : ImageSpec) : Type 0 where
  pub below : k < length graph.order
  pub inside : slice_index_or graph.order k d < length graph.specs
  pub is : slice_index_or graph.specs (slice_index_or graph.order k d) spec ≡ spec

pub stands_at : (graph : Graph) → IsGraph graph → (order : List ℕ) (specs : List ImageSpec) (k d : ℕ) (spec : ImageSpec)
    → order ≡ graph.order → specs ≡ graph.specs → k < length order
    → spec ≡ slice_index_or specs (slice_index_or order k d) spec → StandsAt graph k d spec
stands_at graph sound order specs k d spec same_order same_specs below is =
    let here : k < length graph.order = subst (λ (xs : List ℕ). k < length xs) same_order below in
    record {
      below = here;
      inside =
          subst (λ (n : ℕ). slice_index_or graph.order k d < n) (length-map graph.specs children_of)
          (sound.in_order.only k d here);
      is =
          sym (is
          ∙ ap (λ (xs : List ImageSpec). slice_index_or xs (slice_index_or order k d) spec) same_specs
          ∙ ap (λ (xs : List ℕ). slice_index_or graph.specs (slice_index_or xs k d) spec) same_order);
    }

pub found_at : (graph : Graph) (k d : ℕ) (spec : ImageSpec) → StandsAt graph k d spec
    → slice_get graph.specs (slice_index_or graph.order k d) ≡ Some spec
found_at graph k d spec stands =
    slice_get-get_or graph.specs (slice_index_or graph.order k d) spec stands.inside ∙ ap Some stands.is

-- what holds of the graph's images in its order holds of that one
pub holds_at : (Q : ImageSpec → Type 0) (graph : Graph) (k d : ℕ) (spec : ImageSpec) → StandsAt graph k d spec
    → All Q (ordered graph) → Q spec
holds_at Q graph k d spec stands all =
    of_ordered Q graph.specs graph.order k d spec all stands.below (found_at graph k d spec stands)

pub own_at : (graph : Graph) → IsGraph graph → (k d : ℕ) (spec : ImageSpec) → StandsAt graph k d spec
    → IsWithout spec.full spec
own_at graph sound k d spec stands =
    subst (λ (s : ImageSpec). IsWithout s.full s) stands.is
    (none_of_own graph sound (slice_index_or graph.order k d) spec stands.inside)

-- its sources have the files of their images
pub children_at : (graph : Graph) → IsGraph graph → (k d : ℕ) (spec : ImageSpec) → StandsAt graph k d spec
    → All (IsMadeOf graph.specs) spec.sources
children_at graph sound k d spec stands =
    subst (λ (s : ImageSpec). All (IsMadeOf graph.specs) s.sources) stands.is
    (sound.children (slice_index_or graph.order k d) spec stands.inside)

pub others_at : (graph : Graph) (k d : ℕ) (spec : ImageSpec) (before middle after : Tree) → StandsAt graph k d spec
    → StayOutside (full_names graph.specs) before middle → OthersStay spec.full middle after
    → StayOutside (full_names graph.specs) before after
others_at graph k d spec before middle after stands behind next =
    others_more (full_names graph.specs) spec.full before middle after
    (subst (λ (s : ImageSpec). Contains (full_names graph.specs) s.full) stands.is
    (full_there graph.specs (slice_index_or graph.order k d) spec stands.inside)) behind next

pub built_at : (graph : Graph) (k n d : ℕ) (spec : ImageSpec) (before middle after : Tree) → n ≡ suc k
    → StandsAt graph k d spec
    → BuildsTo graph.specs (filter_map (slice_get graph.specs) (take k graph.order)) before middle
    → Builds graph.specs spec middle after
    → BuildsTo graph.specs (filter_map (slice_get graph.specs) (take n graph.order)) before after
built_at graph k n d spec before middle after next_number stands built next =
    built_more graph.specs graph.order k n d spec before middle after next_number stands.below
    (found_at graph k d spec stands) built next

pub stopped_at : (graph : Graph) (order : List ℕ) (k d : ℕ) (spec : ImageSpec) (before middle after : Tree)
    (fault : BuildFault) → order ≡ graph.order → StandsAt graph k d spec
    → BuildsTo graph.specs (filter_map (slice_get graph.specs) (take k graph.order)) before middle
    → IsRefused graph.specs (slice_index_or order k d) spec middle fault → OthersStay spec.full middle after
    → IsStopped graph before after fault
stopped_at graph order k d spec before middle after fault same_order stands built refused others = record {
  place = k;
  number = slice_index_or graph.order k d;
  spec = spec;
  at = slice_get-get_or graph.order k d stands.below;
  is = found_at graph k d spec stands;
  middle = middle;
  built = built;
  refused =
      subst (λ (xs : List ℕ). IsRefused graph.specs (slice_index_or xs k d) spec middle fault) same_order refused;
  others = others;
}
