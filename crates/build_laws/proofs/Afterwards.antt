-- What is built stands by the files afterwards, too: no later image has the file of an earlier one, or of its inputs.
use Rattle.std.specs.Prelude.{◌≡◌, ◌≢◌, ℕ, suc, ◌≤◌, ◌<◌, ◌^◌, Bool, true, false, List, [], ◌∷◌, ◌++◌, All, Contains}
use Rattle.std.specs.Prelude.{Option, Some, None, IsOkAnd, Result, length, slice_index, slice_index_or, unwrap_or}
use Rattle.std.specs.List.{AllByRecursion, flat_map}
use Rattle.std.proofs.Common.{ap, sym, subst, ◌∙◌, arith}
use Rattle.std.proofs.lemmas.List.Elements.{All-cons, All-nil}
use Rattle.base_fields.specs.declared.spans.Span.{Span}
use Rattle.conf_keys.specs.declared.conf.Kind.{Kind}
use Rattle.conf_keys.specs.declared.conf.Kind.TheVariants as kind
use Rattle.image_layout.specs.ReadsBack.{ReadsBack}
use Rattle.image_layout.specs.declared.layout.Layout.{Layout}
use Rattle.image_plan.specs.Plans.{is_planned}
use Rattle.image_plan.specs.declared.faults.PlanFault.{PlanFault}
use Rattle.image_specs.specs.declared.specs.ImageSpec.{ImageSpec}
use Rattle.image_specs.specs.declared.specs.Source.{Source}
use Rattle.image_specs.specs.Specs.{full_names}
use Rattle.outside.specs.Files.{Tree}
use Rattle.sparse_text.specs.Text.{IsSparseText}
use Rattle.build_laws.specs.Builds.{BuildsTo, Built, IsBuilt, IsCoverBy, IsCoverFor, IsCoverOf, IsLaid}
use Rattle.build_laws.specs.Builds.{IsOfKind, IsSparse, child_in}
use Rattle.build_laws.specs.Order.{AreInOrder, inputs_of, sources_in}
use Rattle.build_laws.proofs.Sources.{NameStays, SourcesStay, byte_same, plan_same}

-- ---- lists

from_all : {X : Type 0} (P : X → Type 0) (xs : List X) → All P xs → AllByRecursion P xs
from_all P [] h = tt
from_all P (x ∷ xs) h = (h 0 x (omega arith), from_all P xs (λ k d inside. h (suc k) d (omega arith)))

rest_in_order : (all : List ImageSpec) (spec : ImageSpec) (rest : List ImageSpec) → AreInOrder all (spec ∷ rest)
    → AreInOrder all rest
rest_in_order all spec rest h = record {
  apart = λ i j d less inside. h.apart (suc i) (suc j) d (omega arith) (omega arith);
  own = λ k d inside. h.own (suc k) d (omega arith);
  later = λ i j d less inside. h.later (suc i) (suc j) d (omega arith) (omega arith);
}

-- ---- names that are no image's

abbrev IsFree : List ℕ → List ImageSpec → Type 0
IsFree name specs = AllByRecursion (λ spec. spec.full ≢ name) specs

stays : (all specs : List ImageSpec) (before after : Tree) (name : List ℕ) → BuildsTo all specs before after
    → IsFree name specs → after name ≡ before name
stays all [] before after name b free = ap (λ (file : Tree). file name) b
stays all (spec ∷ rest) before after name b free =
    stays all rest b.0 after name b.2 free.1 ∙ b.1.others name (λ same. free.0 (sym same))

not_among : (specs : List ImageSpec) (name : List ℕ) → (Contains (full_names specs) name → ⊥) → IsFree name specs
not_among [] name none = tt
not_among (spec ∷ rest) name none = (
  (λ same. none (0, omega arith, same)),
  not_among rest name (λ there.
      let inside : there.0 < length (full_names rest) = there.1 in none (suc there.0, omega arith, there.2)),
)

-- the file of an image is that of no later one
own_free : (name : List ℕ) (rest : List ImageSpec)
    → ((k : ℕ) (d : List ℕ) → k < length (full_names rest) → name ≢ slice_index_or (full_names rest) k d)
    → IsFree name rest
own_free name [] h = tt
own_free name (spec ∷ rest) h =
    ((λ same. h 0 name (omega arith) (sym same)), own_free name rest (λ k d inside. h (suc k) d (omega arith)))

-- ---- inputs

source_free : (specs : List ImageSpec) (name : List ℕ) → AllByRecursion (λ spec. Some name ≢ Some spec.full) specs
    → IsFree name specs
source_free [] name h = tt
source_free (spec ∷ rest) name h = ((λ same. h.0 (ap Some (sym same))), source_free rest name h.1)

source_stays : (all specs : List ImageSpec) (before after : Tree) → BuildsTo all specs before after
    → (file : Option (List ℕ)) → AllByRecursion (λ spec. file ≢ Some spec.full) specs → NameStays before after file
source_stays all specs before after b None h = tt
source_stays all specs before after b (Some name) h = stays all specs before after name b (source_free specs name h)

all_stay : (all specs : List ImageSpec) (before after : Tree) → BuildsTo all specs before after
    → (sources : List Source)
    → ((k : ℕ) (d : Source) → k < length sources
    → AllByRecursion (λ spec. (slice_index_or sources k d).file ≢ Some spec.full) specs)
    → SourcesStay before after sources
all_stay all specs before after b [] h = tt
all_stay all specs before after b (source ∷ sources) h = (
  source_stays all specs before after b source.file (h 0 source (omega arith)),
  all_stay all specs before after b sources (λ k d inside. h (suc k) d (omega arith)),
)

-- those of the first image
first_stay : (all : List ImageSpec) (spec : ImageSpec) (rest : List ImageSpec) (before after : Tree)
    → AreInOrder all (spec ∷ rest) → BuildsTo all (spec ∷ rest) before after
    → SourcesStay before after (inputs_of all spec)
first_stay all spec rest before after h b =
    all_stay all (spec ∷ rest) before after b (inputs_of all spec)
    (λ k d inside. (
      h.own 0 spec (omega arith) k d inside,
      from_all (λ (later : ImageSpec). (slice_index_or (inputs_of all spec) k d).file ≢ Some later.full) rest
          (λ j e within. h.later 0 (suc j) e (omega arith) (omega arith) k d inside),
    ))

left_stay : (before after : Tree) (xs ys : List Source) → SourcesStay before after (xs ++ ys)
    → SourcesStay before after xs
left_stay before after [] ys h = tt
left_stay before after (x ∷ xs) ys h = (h.0, left_stay before after xs ys h.1)

right_stay : (before after : Tree) (xs ys : List Source) → SourcesStay before after (xs ++ ys)
    → SourcesStay before after ys
right_stay before after [] ys h = h
right_stay before after (x ∷ xs) ys h = right_stay before after xs ys h.1

-- what is built for the one source
child_stays : (all : List ImageSpec) (before after : Tree) (spec : ImageSpec) (source : Source)
    → spec.sources ≡ source ∷ [] → SourcesStay before after (inputs_of all spec)
    → SourcesStay before after (sources_in (child_in all source))
child_stays all before after spec source one h =
    let inner : List Source = sources_in (child_in all source) in
    let stay : SourcesStay before after ((source ∷ []) ++ (inner ++ [])) =
    subst
    (λ (ss : List Source). SourcesStay before after (ss ++ flat_map (λ (s : Source). sources_in (child_in all s)) ss))
    one h in
    left_stay before after inner [] (right_stay before after (source ∷ []) (inner ++ []) stay)

name_stays : (before after : Tree) (spec : ImageSpec) (source : Source) (name : List ℕ) → spec.sources ≡ source ∷ []
    → source.file ≡ Some name → SourcesStay before after spec.sources → after name ≡ before name
name_stays before after spec source name one named h =
    let stay : SourcesStay before after (source ∷ []) = subst (SourcesStay before after) one h in
    let file : NameStays before after (Some name) = subst (NameStays before after) named stay.0 in
    file

-- ---- an image with a layout

laid_same : (before middle after : Tree) (spec : ImageSpec) → SourcesStay before after spec.sources
    → after spec.full ≡ middle spec.full → IsLaid before spec middle → IsLaid after spec after
laid_same before middle after spec stay same laid = record {
  layout = laid.layout;
  plan = plan_same before after spec stay ∙ laid.plan;
  apart = laid.apart;
  has = record {
    there = same ∙ laid.has.there ∙ ap (λ (o : Option (List ℕ)). Some (unwrap_or o [])) (sym same);
    size = ap (λ (o : Option (List ℕ)). length (unwrap_or o [])) same ∙ laid.has.size;
    each = λ o inside.
        ap (λ (found : Option (List ℕ)). slice_index (unwrap_or found []) o) same
        ∙ laid.has.each o inside
        ∙ byte_same before after spec laid.layout laid.plan stay o;
  };
  back = subst (λ (found : Option (List ℕ)). ReadsBack (λ o. slice_index (unwrap_or found []) o) laid.layout)
      (sym same) laid.back;
}

-- ---- a sparse image

cover_by : (planned : Bool) (before after : Tree) (size : ℕ) (cover : List Span) (child : ImageSpec)
    → SourcesStay before after child.sources → IsCoverBy planned before size cover child
    → IsCoverBy planned after size cover child
cover_by true before after size cover child stay h =
    subst (λ (said : Result Layout PlanFault). IsOkAnd said (IsCoverOf cover))
    (sym (plan_same before after child stay)) h
cover_by false before after size cover child stay h = h

cover_same : (before after : Tree) (size : ℕ) (cover : List Span) (child : Option ImageSpec)
    → SourcesStay before after (sources_in child) → IsCoverFor before size cover child
    → IsCoverFor after size cover child
cover_same before after size cover None stay h = h
cover_same before after size cover (Some child) stay h =
    cover_by (is_planned child.kind) before after size cover child stay h

text_same : (cover : List Span) (block : ℕ) (from from_now to to_now : Option (List ℕ)) → from_now ≡ from → to_now ≡ to
    → IsSparseText (unwrap_or from []) cover block (unwrap_or to [])
    → IsSparseText (unwrap_or from_now []) cover block (unwrap_or to_now [])
text_same cover block from from_now to to_now same_from same_to h =
    subst (λ (o : Option (List ℕ)). IsSparseText (unwrap_or o []) cover block (unwrap_or to_now [])) (sym same_from)
    (subst (λ (o : Option (List ℕ)). IsSparseText (unwrap_or from []) cover block (unwrap_or o [])) (sym same_to) h)

sparse_same : (all : List ImageSpec) (before middle after : Tree) (spec : ImageSpec)
    → SourcesStay before after (inputs_of all spec) → SourcesStay before after spec.sources
    → after spec.full ≡ middle spec.full → IsSparse all before spec middle → IsSparse all after spec after
sparse_same all before middle after spec inputs stay same s =
    let from : after s.name ≡ before s.name = name_stays before after spec s.source s.name s.one s.named stay in
    record {
      source = s.source;
      one = s.one;
      name = s.name;
      named = s.named;
      found = from ∙ s.found ∙ ap (λ (o : Option (List ℕ)). Some (unwrap_or o [])) (sym from);
      small = subst (λ (o : Option (List ℕ)). length (unwrap_or o []) ≤ 2 ^ 43) (sym from) s.small;
      cover = s.cover;
      counts = subst
          (λ (o : Option (List ℕ)). IsCoverFor after (length (unwrap_or o [])) s.cover (child_in all s.source))
          (sym from)
          (cover_same before after (length (unwrap_or (before s.name) [])) s.cover (child_in all s.source)
          (child_stays all before after spec s.source s.one inputs) s.counts);
      has = (
        same ∙ s.has.0 ∙ ap (λ (o : Option (List ℕ)). Some (unwrap_or o [])) (sym same),
        text_same s.cover spec.keys.sparse.block_size (before s.name) (after s.name) (middle spec.full)
            (after spec.full) from same s.has.1,
      );
    }

-- ---- images

kind_same : (chosen : Kind) (all : List ImageSpec) (before middle after : Tree) (spec : ImageSpec)
    → SourcesStay before after (inputs_of all spec) → SourcesStay before after spec.sources
    → after spec.full ≡ middle spec.full → IsOfKind chosen all before spec middle → IsOfKind chosen all after spec after
kind_same kind.Hd all before middle after spec inputs stay same made = laid_same before middle after spec stay same made
kind_same kind.Plain all before middle after spec inputs stay same made =
    laid_same before middle after spec stay same made
kind_same kind.Flash all before middle after spec inputs stay same made =
    laid_same before middle after spec stay same made
kind_same kind.Sparse all before middle after spec inputs stay same made =
    sparse_same all before middle after spec inputs stay same made
kind_same kind.Ready all before middle after spec inputs stay same made = made

first_built : (all : List ImageSpec) (spec : ImageSpec) (rest : List ImageSpec) (before after : Tree)
    → AreInOrder all (spec ∷ rest) → BuildsTo all (spec ∷ rest) before after → IsBuilt all after spec
first_built all spec rest before after h b =
    let inputs : SourcesStay before after (inputs_of all spec) = first_stay all spec rest before after h b in
    let stay : SourcesStay before after spec.sources =
    left_stay before after spec.sources
    (flat_map (λ (source : Source). sources_in (child_in all source)) spec.sources) inputs in
    let same : after spec.full ≡ b.0 spec.full = stays all rest b.0 after spec.full b.2
    (own_free spec.full rest (λ k d inside. h.apart 0 (suc k) d (omega arith) (omega arith))) in
    kind_same spec.kind all before b.0 after spec inputs stay same b.1.made

each_built : (all specs : List ImageSpec) (before after : Tree) → AreInOrder all specs
    → BuildsTo all specs before after → All (IsBuilt all after) specs
each_built all [] before after h b = All-nil (IsBuilt all after)
each_built all (spec ∷ rest) before after h b =
    All-cons (IsBuilt all after) spec rest (first_built all spec rest before after h b)
    (each_built all rest b.0 after (rest_in_order all spec rest h) b.2)

pub built_afterwards : (all specs : List ImageSpec) (before after : Tree) → AreInOrder all specs
    → BuildsTo all specs before after → Built all before specs after
built_afterwards all specs before after h b = record {
  each = each_built all specs before after h b;
  others = λ name none. stays all specs before after name b (not_among specs name none);
}
