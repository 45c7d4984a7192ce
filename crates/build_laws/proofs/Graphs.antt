-- The images of a graph, in its order: each stands behind its children, and so behind what they are made from; a file
-- that is taken ready is that of none.
use Rattle.std.specs.Prelude.{◌≡◌, ◌≢◌, ℕ, zero, suc, ◌+◌, ◌<◌, ◌≤◌, ◌⊎◌, nat_eq, Bool, true, false, cond, List, []}
use Rattle.std.specs.Prelude.{◌∷◌, ◌++◌, All, Contains, Option, Some, None, IfSome, count_by, length, slice_get}
use Rattle.std.specs.Prelude.{option_and_then, slice_index_or, unwrap_or}
use Rattle.std.specs.List.{cons_option, filter_map, flat_map}
use Rattle.std.specs.Option.{option_map}
use Rattle.std.proofs.Common.{refl, ap, sym, subst, ◌∙◌, append_assoc, arith, inl, inr}
use Rattle.std.proofs.lemmas.Bool.{cases_order, eq-eqb, eqb-true}
use Rattle.std.proofs.lemmas.List.{length-map}
use Rattle.std.proofs.lemmas.List.Elements.{All-append, All-cons, All-nil, Contains-append_right}
use Rattle.std.proofs.lemmas.List.Elements.{Contains-get_or}
use Rattle.std.proofs.lemmas.List.Kept.{AllPairs-cons}
use Rattle.std.proofs.lemmas.List.Sums.{sum_by-append, sum_by-cons}
use Rattle.std.proofs.lemmas.Option.{get_or_from_slice_get, slice_get-get_or, slice_get-map, slice_get_within}
use Rattle.image_graph.specs.Children.{children_of, families_of}
use Rattle.image_graph.specs.IsGraph.{IsGraph, IsMadeOf}
use Rattle.image_graph.specs.declared.images.Graph.{Graph}
use Rattle.image_graph.proofs.ReadyLemmas.{ready_apart}
use Rattle.image_names.specs.Names.{AreApart}
use Rattle.image_order.specs.Chains.{children}
use Rattle.image_order.proofs.Members.{contains_here, contains_next}
use Rattle.image_specs.specs.declared.specs.ImageSpec.{ImageSpec}
use Rattle.image_specs.specs.declared.specs.Source.{Source}
use Rattle.image_specs.specs.Specs.{full_names}
use Rattle.outside.specs.Files.{Tree}
use Rattle.build_laws.specs.Builds.{BuildsTo, Built, IsBuilt, child_in}
use Rattle.build_laws.specs.Order.{AreInOrder, IsFreeOf, IsWithout, ordered, sources_in}
use Rattle.build_laws.proofs.Afterwards.{built_afterwards}

-- ---- numbers in a list

counted_at : (x : ℕ) (xs : List ℕ) (k : ℕ) → k < length xs → slice_index_or xs k x ≡ x → 1 ≤ count_by (nat_eq x) xs
counted_at x [] k below is = absurd (omega arith)
counted_at x (y ∷ xs) zero below is =
    let here : count_by (nat_eq x) (y ∷ xs) ≡ 1 + count_by (nat_eq x) xs =
    sum_by-cons (λ z. cond (nat_eq x z) 1 0) y xs
    ∙ ap (λ (t : Bool). cond t 1 0 + count_by (nat_eq x) xs) (eq-eqb x y (sym is)) in
    omega arith
counted_at x (y ∷ xs) (suc k) below is =
    let front : ℕ = cond (nat_eq x y) 1 0 in
    let more : count_by (nat_eq x) (y ∷ xs) ≡ front + count_by (nat_eq x) xs =
    sum_by-cons (λ z. cond (nat_eq x z) 1 0) y xs in
    let behind : 1 ≤ count_by (nat_eq x) xs = counted_at x xs k (omega arith) is in
    omega arith

-- one that stands once doesn't stand in two parts
twice : (x : ℕ) (front behind : List ℕ) → Contains front x → Contains behind x
    → count_by (nat_eq x) (front ++ behind) ≡ 1 → ⊥
twice x front behind a b once =
    let both : count_by (nat_eq x) (front ++ behind) ≡ count_by (nat_eq x) front + count_by (nat_eq x) behind =
    sum_by-append (λ z. cond (nat_eq x z) 1 0) front behind in
    let first : 1 ≤ count_by (nat_eq x) front = counted_at x front a.0 a.1 a.2 in
    let second : 1 ≤ count_by (nat_eq x) behind = counted_at x behind b.0 b.1 b.2 in
    absurd (omega arith)

contains_last : (front : List ℕ) (x : ℕ) → Contains (front ++ x ∷ []) x
contains_last [] x = contains_here x []
contains_last (y ∷ front) x = contains_next y (front ++ x ∷ []) x (contains_last front x)

split_at : (x : ℕ) (xs : List ℕ) (k : ℕ) → k < length xs → slice_index_or xs k x ≡ x
    → (front : List ℕ) × (behind : List ℕ) × (xs ≡ front ++ (x ∷ behind))
split_at x [] k below is = absurd (omega arith)
split_at x (y ∷ ys) zero below is = ([], ys, ap (λ (z : ℕ). z ∷ ys) is)
split_at x (y ∷ ys) (suc k) below is =
    let rest : (front : List ℕ) × (behind : List ℕ) × (ys ≡ front ++ (x ∷ behind)) = split_at x ys k (omega arith) is in
    (y ∷ rest.0, rest.1, ap (λ (zs : List ℕ). y ∷ zs) rest.2)

-- names that are apart have one number each
same_number : (names : List (List ℕ)) → AreApart names → (i j : ℕ) (name : List ℕ)
    → slice_get names i ≡ Some name → slice_get names j ≡ Some name → i ≡ j
same_number names apart i j name first second = by_order (cases_order i j)
  where
    same : slice_index_or names i name ≡ slice_index_or names j name
    same = get_or_from_slice_get names i name name first ∙ sym (get_or_from_slice_get names j name name second)

    by_order : (i ≡ j) ⊎ ((i < j) ⊎ (j < i)) → i ≡ j
    by_order (inl is) = is
    by_order (inr (inl less)) = absurd (apart i j name less (slice_get_within names j name second) same)
    by_order (inr (inr more)) = absurd (apart j i name more (slice_get_within names i name first) (sym same))

-- ---- lists

all_left : {X : Type 0} (P : X → Type 0) (xs ys : List X) → All P (xs ++ ys) → All P xs
all_left P [] ys h = All-nil P
all_left P (x ∷ xs) ys h =
    All-cons P x xs (h 0 x (omega arith)) (all_left P xs ys (λ k d inside. h (suc k) d (omega arith)))

all_flat : {X Y : Type 0} (P : Y → Type 0) (f : X → List Y) (xs : List X)
    → ((k : ℕ) (d : X) → k < length xs → All P (f (slice_index_or xs k d))) → All P (flat_map f xs)
all_flat P f [] h = All-nil P
all_flat P f (x ∷ xs) h =
    All-append P (f x) (flat_map f xs) (h 0 x (omega arith)) (all_flat P f xs (λ k d inside. h (suc k) d (omega arith)))

-- ---- images in order

none_in_order : (all : List ImageSpec) → AreInOrder all []
none_in_order all = record {
  apart = λ i j d less inside. absurd (omega arith);
  own = All-nil (λ (spec : ImageSpec). IsFreeOf all spec.full spec);
  later = λ i j d less inside. absurd (omega arith);
}

names_apart : (name : List ℕ) (rest : List ImageSpec) → All (λ later. name ≢ later.full) rest
    → All (λ other. name ≢ other) (full_names rest)
names_apart name [] h = All-nil (λ (other : List ℕ). name ≢ other)
names_apart name (spec ∷ rest) h =
    All-cons (λ (other : List ℕ). name ≢ other) spec.full (full_names rest) (h 0 spec (omega arith))
    (names_apart name rest (λ k d inside. h (suc k) d (omega arith)))

one_more : (all : List ImageSpec) (spec : ImageSpec) (rest : List ImageSpec) → AreInOrder all rest
    → All (λ later. spec.full ≢ later.full) rest → IsFreeOf all spec.full spec
    → All (λ later. IsFreeOf all later.full spec) rest → AreInOrder all (spec ∷ rest)
one_more all spec rest behind apart own later = record {
  apart =
      AllPairs-cons (λ (a b : List ℕ). a ≢ b) spec.full (full_names rest)
      (names_apart spec.full rest apart) behind.apart;
  own = All-cons (λ (s : ImageSpec). IsFreeOf all s.full s) spec rest own behind.own;
  later = AllPairs-cons (λ (s t : ImageSpec). IsFreeOf all t.full s) spec rest later behind.later;
}

-- ---- children

kept : (o : Option ℕ) (cs : List ℕ) (c : ℕ) → Contains cs c → Contains (cons_option o cs) c
kept None cs c h = h
kept (Some x) cs c h = contains_next x cs c h

child_among : (sources : List Source) (k : ℕ) (d : Source) (child : ℕ) → k < length sources
    → (slice_index_or sources k d).child ≡ Some child → Contains (filter_map (λ source. source.child) sources) child
child_among [] k d child inside is = absurd (omega arith)
child_among (source ∷ sources) zero d child inside is =
    let behind : List ℕ = filter_map (λ (s : Source). s.child) sources in
    subst (λ (o : Option ℕ). Contains (cons_option o behind) child) (sym is) (contains_here child behind)
child_among (source ∷ sources) (suc k) d child inside is =
    kept source.child (filter_map (λ (s : Source). s.child) sources) child
    (child_among sources k d child (omega arith) is)

-- ---- images by their numbers

module _ (graph : Graph) (sound : IsGraph graph) where
  abbrev specs : List ImageSpec
  specs = graph.specs

  family_at : (image : ℕ) (spec : ImageSpec) → slice_get specs image ≡ Some spec
      → children (families_of specs) image ≡ children_of spec
  family_at image spec there =
      ap (λ (o : Option (List ℕ)). unwrap_or o [])
      (slice_get-map children_of specs image ∙ ap (option_map children_of) there)

  name_at : (image : ℕ) (spec : ImageSpec) → slice_get specs image ≡ Some spec
      → slice_get (full_names specs) image ≡ Some spec.full
  name_at image spec there =
      slice_get-map (λ (s : ImageSpec). s.full) specs image ∙ ap (option_map (λ (s : ImageSpec). s.full)) there

  stands_once : (image : ℕ) → image < length specs → count_by (nat_eq image) graph.order ≡ 1
  stands_once image inside =
      sound.in_order.once image (subst (λ (n : ℕ). image < n) (sym (length-map specs children_of)) inside)

  -- the image of that number has this file
  abbrev HasNumber : Option (List ℕ) → ℕ → Type 0
  HasNumber file child = (child < length specs) × (slice_get (full_names specs) child ≡ file)

  -- an image of this number is among those of the graph
  there_at : (image : ℕ) (spec : ImageSpec) → slice_get specs image ≡ Some spec → Contains specs spec
  there_at image spec there =
      (image, slice_get_within specs image spec there, get_or_from_slice_get specs image spec spec there)

  named_at : (image : ℕ) (spec : ImageSpec) → slice_get specs image ≡ Some spec → Contains (full_names specs) spec.full
  named_at image spec there =
      let found : slice_get (full_names specs) image ≡ Some spec.full = name_at image spec there in (
        image,
        slice_get_within (full_names specs) image spec.full found,
        get_or_from_slice_get (full_names specs) image spec.full spec.full found,
      )

  -- a child of an image stands before it
  child_before : (front : List ℕ) (image : ℕ) (rest : List ℕ) → graph.order ≡ front ++ (image ∷ rest)
      → (spec : ImageSpec) → slice_get specs image ≡ Some spec → (child : ℕ) → Contains (children_of spec) child
      → Contains front child
  child_before front image rest split spec there child made =
      let made_at : Contains (children (families_of specs) image) child =
      subst (λ (cs : List ℕ). Contains cs child) (sym (family_at image spec there)) made in
      let all : All (Contains front) (children (families_of specs) image) =
      sound.in_order.behind front image rest split in
      subst (Contains front) made_at.2 (all made_at.0 child made_at.1)

  -- a number of the order from some place on isn't that of a child of the image that stands there
  no_child : (front : List ℕ) (image : ℕ) (rest : List ℕ) → graph.order ≡ front ++ (image ∷ rest)
      → (spec : ImageSpec) → slice_get specs image ≡ Some spec → (child : ℕ) → child < length specs
      → Contains (children_of spec) child → Contains (image ∷ rest) child → ⊥
  no_child front image rest split spec there child inside made among =
      let before : Contains front child = child_before front image rest split spec there child made in
      twice child front (image ∷ rest) before among
      (ap (count_by (nat_eq child)) (sym split) ∙ stands_once child inside)

  -- a source of an image has no file of an image that stands there or behind it
  without : (front : List ℕ) (image : ℕ) (rest : List ℕ) → graph.order ≡ front ++ (image ∷ rest)
      → (spec : ImageSpec) → slice_get specs image ≡ Some spec → (j : ℕ) (later : ImageSpec) → Contains (image ∷ rest) j
      → slice_get specs j ≡ Some later → IsWithout later.full spec
  without front image rest split spec there j later among found k d inside named =
      by_child (slice_index_or spec.sources k d).child refl
    where
      all_made : All (IsMadeOf specs) spec.sources
      all_made =
          subst (λ (s : ImageSpec). All (IsMadeOf specs) s.sources) (get_or_from_slice_get specs image spec spec there)
          (sound.children image spec (slice_get_within specs image spec there))

      by_child : (o : Option ℕ) → (slice_index_or spec.sources k d).child ≡ o → ⊥
      by_child None none =
          ready_apart graph sound spec (slice_index_or spec.sources k d) later.full (there_at image spec there)
          (Contains-get_or spec.sources k d inside) none named (named_at j later found)
      by_child (Some child) is =
          let made : HasNumber (slice_index_or spec.sources k d).file child =
          subst (λ (o : Option ℕ). IfSome o (HasNumber (slice_index_or spec.sources k d).file))
          is (all_made k d inside) in
          let same : child ≡ j =
          same_number (full_names specs) sound.fulls child j later.full (made.1 ∙ named) (name_at j later found) in
          no_child front image rest split spec there child made.0 (child_among spec.sources k d child inside is)
          (subst (Contains (image ∷ rest)) (sym same) among)

  -- nor has a source of what is built for one of its sources: that image stands before it
  module _ (front : List ℕ) (image : ℕ) (rest : List ℕ) (split : graph.order ≡ front ++ (image ∷ rest))
      (spec : ImageSpec) (there : slice_get specs image ≡ Some spec) (j : ℕ) (later : ImageSpec) (among : Contains (image ∷ rest) j)
      (found : slice_get specs j ≡ Some later) where
    abbrev IsFree : Source → Type 0
    IsFree source = source.file ≢ Some later.full

    built_free : (child : ℕ) → Contains (children_of spec) child → (o : Option ImageSpec) → slice_get specs child ≡ o
        → All IsFree (sources_in o)
    built_free child made None none = All-nil IsFree
    built_free child made (Some built) is =
        let before : Contains front child = child_before front image rest split spec there child made in
        let at : (first : List ℕ) × (behind : List ℕ) × (front ≡ first ++ (child ∷ behind)) =
        split_at child front before.0 before.1 before.2 in
        without at.0 child (at.1 ++ (image ∷ rest))
        (split ∙ ap (λ (xs : List ℕ). xs ++ (image ∷ rest)) at.2 ∙ append_assoc at.0 (child ∷ at.1) (image ∷ rest))
        built is j later
        (contains_next child (at.1 ++ (image ∷ rest)) j (Contains-append_right at.1 (image ∷ rest) j among)) found

    child_free : (o : Option ℕ) → ((child : ℕ) → o ≡ Some child → Contains (children_of spec) child)
        → All IsFree (sources_in (option_and_then (slice_get specs) o))
    child_free None made = All-nil IsFree
    child_free (Some child) made = built_free child (made child refl) (slice_get specs child) refl

    -- so it is made from the file of none that stands there or behind it
    free : IsFreeOf specs later.full spec
    free =
        All-append IsFree spec.sources (flat_map (λ (source : Source). sources_in (child_in specs source)) spec.sources)
        (without front image rest split spec there j later among found)
        (all_flat IsFree (λ (source : Source). sources_in (child_in specs source)) spec.sources
        (λ k d inside.
        child_free (slice_index_or spec.sources k d).child
        (λ child is. child_among spec.sources k d child inside is)))

  -- an image has no file of one behind it
  two_files : (front : List ℕ) (image : ℕ) (rest : List ℕ) → graph.order ≡ front ++ (image ∷ rest)
      → (spec : ImageSpec) → slice_get specs image ≡ Some spec → (j : ℕ) (later : ImageSpec) → Contains rest j
      → slice_get specs j ≡ Some later → spec.full ≢ later.full
  two_files front image rest split spec there j later among found same =
      let number : image ≡ j =
      same_number (full_names specs) sound.fulls image j later.full (name_at image spec there ∙ ap Some same)
      (name_at j later found) in
      twice image (front ++ image ∷ []) rest (contains_last front image) (subst (Contains rest) (sym number) among)
      (ap (count_by (nat_eq image)) (append_assoc front (image ∷ []) rest ∙ sym split)
      ∙ stands_once image (slice_get_within specs image spec there))

  -- ---- the list of them

  among_rest : (Q : ImageSpec → Type 0) (rest : List ℕ)
      → ((j : ℕ) (later : ImageSpec) → Contains rest j → slice_get specs j ≡ Some later → Q later)
      → All Q (filter_map (slice_get specs) rest)
  among_rest Q [] f = All-nil Q
  among_rest Q (j ∷ rest) f =
      by_found (slice_get specs j) refl
      (among_rest Q rest (λ i later there found. f i later (contains_next j rest i there) found))
    where
      by_found : (o : Option ImageSpec) → slice_get specs j ≡ o → All Q (filter_map (slice_get specs) rest)
          → All Q (cons_option o (filter_map (slice_get specs) rest))
      by_found None none behind = behind
      by_found (Some later) found behind =
          All-cons Q later (filter_map (slice_get specs) rest) (f j later (contains_here j rest) found) behind

  from_place : (front rest : List ℕ) → graph.order ≡ front ++ rest
      → AreInOrder specs (filter_map (slice_get specs) rest)
  from_place front [] split = none_in_order specs
  from_place front (image ∷ rest) split =
      by_found (slice_get specs image) refl
      (from_place (front ++ image ∷ []) rest (split ∙ sym (append_assoc front (image ∷ []) rest)))
    where
      by_found : (o : Option ImageSpec) → slice_get specs image ≡ o
          → AreInOrder specs (filter_map (slice_get specs) rest)
          → AreInOrder specs (cons_option o (filter_map (slice_get specs) rest))
      by_found None none behind = behind
      by_found (Some spec) there behind =
          one_more specs spec (filter_map (slice_get specs) rest) behind
          (among_rest (λ later. spec.full ≢ later.full) rest (two_files front image rest split spec there))
          (free front image rest split spec there image spec (contains_here image rest) there)
          (among_rest (λ later. IsFreeOf specs later.full spec) rest
          (λ j later among found.
          free front image rest split spec there j later (contains_next image rest j among) found))

  pub in_order : AreInOrder specs (ordered graph)
  in_order = from_place [] graph.order refl

pub graphs_are_built : (graph : Graph) (before after : Tree) → IsGraph graph
    → BuildsTo graph.specs (ordered graph) before after → Built graph.specs before (ordered graph) after
graphs_are_built graph before after sound builds =
    built_afterwards graph.specs (ordered graph) before after (in_order graph sound) builds

-- ---- all images

found_counted : (x : ℕ) (xs : List ℕ) → 1 ≤ count_by (nat_eq x) xs → Contains xs x
found_counted x [] h = let none : count_by (nat_eq x) [] ≡ 0 = refl in absurd (omega arith)
found_counted x (y ∷ ys) h = by_head (nat_eq x y) refl (found_counted x ys)
  where
    by_head : (b : Bool) → nat_eq x y ≡ b → (1 ≤ count_by (nat_eq x) ys → Contains ys x) → Contains (y ∷ ys) x
    by_head true e behind = (zero, omega arith, sym (eqb-true x y e))
    by_head false e behind =
        let less : count_by (nat_eq x) (y ∷ ys) ≡ 0 + count_by (nat_eq x) ys =
        sum_by-cons (λ z. cond (nat_eq x z) 1 0) y ys ∙ ap (λ (t : Bool). cond t 1 0 + count_by (nat_eq x) ys) e in
        contains_next y ys x (behind (omega arith))

kept_spec : (o : Option ImageSpec) (specs : List ImageSpec) (spec : ImageSpec) → Contains specs spec
    → Contains (cons_option o specs) spec
kept_spec None specs spec h = h
kept_spec (Some first) specs spec h = (suc h.0, omega (arith, h.1), h.2)

ordered_at : (specs : List ImageSpec) (order : List ℕ) (image : ℕ) (spec : ImageSpec) (k : ℕ) → k < length order
    → slice_index_or order k image ≡ image → slice_get specs image ≡ Some spec
    → Contains (filter_map (slice_get specs) order) spec
ordered_at specs [] image spec k below is there = absurd (omega arith)
ordered_at specs (j ∷ rest) image spec zero below is there =
    let behind : List ImageSpec = filter_map (slice_get specs) rest in
    subst (λ (o : Option ImageSpec). Contains (cons_option o behind) spec) (sym (ap (slice_get specs) is ∙ there))
    (zero, omega arith, refl)
ordered_at specs (j ∷ rest) image spec (suc k) below is there =
    kept_spec (slice_get specs j) (filter_map (slice_get specs) rest) spec
    (ordered_at specs rest image spec k (omega arith) is there)

named_among : (Q : List ℕ → Type 0) (specs : List ImageSpec) → All (λ spec. Q spec.full) specs → (name : List ℕ) (k : ℕ)
    → k < length (full_names specs) → slice_index_or (full_names specs) k name ≡ name → Q name
named_among Q [] h name k below is = absurd (omega arith)
named_among Q (spec ∷ specs) h name zero below is = subst Q is (h 0 spec (omega arith))
named_among Q (spec ∷ specs) h name (suc k) below is =
    named_among Q specs (λ j d inside. h (suc j) d (omega arith)) name k (omega arith) is

module _ (graph : Graph) (sound : IsGraph graph) (old new : Tree)
    (built : Built graph.specs old (ordered graph) new) where
  each_built : All (IsBuilt graph.specs new) graph.specs
  each_built k d inside =
      let spec : ImageSpec = slice_index_or graph.specs k d in
      let once : count_by (nat_eq k) graph.order ≡ 1 = stands_once graph sound k inside in
      let stands : Contains graph.order k = found_counted k graph.order (omega arith) in
      let there : Contains (ordered graph) spec =
      ordered_at graph.specs graph.order k spec stands.0 stands.1 stands.2 (slice_get-get_or graph.specs k d inside) in
      subst (IsBuilt graph.specs new) there.2 (built.each there.0 spec there.1)

  -- what is in order has no other names
  no_others : (name : List ℕ) → Contains (full_names (ordered graph)) name → Contains (full_names graph.specs) name
  no_others name there =
      named_among (Contains (full_names graph.specs)) (ordered graph)
      (among_rest graph sound (λ spec. Contains (full_names graph.specs) spec.full) graph.order
      (λ j later among found. named_at graph sound j later found)) name there.0 there.1 there.2

  pub all_built : Built graph.specs old graph.specs new
  all_built = record {
    each = each_built;
    others = λ name none. built.others name (λ there. none (no_others name there));
  }

pub none_left_out : (graph : Graph) (before after : Tree) → IsGraph graph
    → Built graph.specs before (ordered graph) after → Built graph.specs before graph.specs after
none_left_out graph before after sound built = all_built graph sound before after built

-- no image of a graph is made of its own file
pub none_of_own : (graph : Graph) → IsGraph graph → All (λ spec. IsWithout spec.full spec) graph.specs
none_of_own graph sound k d inside =
    let spec : ImageSpec = slice_index_or graph.specs k d in
    let once : count_by (nat_eq k) graph.order ≡ 1 = stands_once graph sound k inside in
    let stands : Contains graph.order k = found_counted k graph.order (omega arith) in
    let there : Contains (ordered graph) spec =
    ordered_at graph.specs graph.order k spec stands.0 stands.1 stands.2 (slice_get-get_or graph.specs k d inside) in
    let free : IsFreeOf graph.specs spec.full spec =
    subst (λ (s : ImageSpec). IsFreeOf graph.specs s.full s) there.2
    ((in_order graph sound).own there.0 spec there.1) in
    all_left (λ (source : Source). source.file ≢ Some spec.full) spec.sources
    (flat_map (λ (source : Source). sources_in (child_in graph.specs source)) spec.sources) free
