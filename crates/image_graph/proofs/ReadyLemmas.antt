-- What the layers above read of a graph: a file that is taken ready isn't the file of an image.
use Rattle.std.proofs.Common.{◌≡◌, ℕ, zero, suc, ◌<◌, List, [], ◌∷◌, Some, None, refl, ap, sym, subst, ◌∙◌, length, slice_index_or, arith}
use Rattle.std.specs.Prelude.{Contains}
use Rattle.std.specs.List.{flat_map}
use Rattle.std.specs.Option.{option_to_list}
use Rattle.std.proofs.lemmas.List.Elements.{Contains-append_left, Contains-append_right}
use Rattle.image_specs.specs.declared.specs.ImageSpec.{ImageSpec}
use Rattle.image_specs.specs.declared.specs.Source.{Source}
use Rattle.image_specs.specs.Specs.{full_names}
use Rattle.image_graph.specs.declared.images.Graph.{Graph}
use Rattle.image_graph.specs.Clashes.{ready_name, ready_name_of, taken}
use Rattle.image_graph.specs.IsGraph.{IsGraph}

flat_at : {X A : Type 0} (f : X → List A) (xs : List X) (x : X) (a : A) (k : ℕ) → k < length xs → slice_index_or xs k x ≡ x → Contains (f x) a → Contains (flat_map f xs) a
flat_at f [] x a k below is has = absurd (omega arith)
flat_at {X} {A} f (y ∷ xs) x a zero below is has = Contains-append_left (f y) (flat_map f xs) a (subst (λ (z : X). Contains (f z) a) (sym is) has)
flat_at f (y ∷ xs) x a (suc k) below is has = Contains-append_right (f y) (flat_map f xs) a (flat_at f xs x a k (omega arith) is has)

-- what comes of an element is in what comes of all
flat_has : {X A : Type 0} (f : X → List A) (xs : List X) (x : X) (a : A) → Contains xs x → Contains (f x) a → Contains (flat_map f xs) a
flat_has f xs x a there has = flat_at f xs x a there.0 there.1 there.2 has

-- the file of a source without a child is one that is taken ready
pub taken_has : (specs : List ImageSpec) (user : ImageSpec) (source : Source) (file : List ℕ) → Contains specs user → Contains user.sources source → source.child ≡ None → source.file ≡ Some file → Contains (taken specs) file
taken_has specs user source file there among none is =
    let names : ready_name source ≡ file ∷ [] = ap (ready_name_of source) none ∙ ap option_to_list is in
    let here : Contains (file ∷ []) file = (0, omega arith, refl) in
    flat_has (λ (spec : ImageSpec). flat_map ready_name spec.sources) specs user file there
    (flat_has ready_name user.sources source file among (subst (λ (ns : List (List ℕ)). Contains ns file) (sym names) here))

-- of a graph: it is the file of no image
pub ready_apart : (graph : Graph) → IsGraph graph → (user : ImageSpec) (source : Source) (file : List ℕ) → Contains graph.specs user → Contains user.sources source → source.child ≡ None → source.file ≡ Some file → Contains (full_names graph.specs) file → ⊥
ready_apart graph sound user source file there among none is made = sound.ready file made (taken_has graph.specs user source file there among none is)
