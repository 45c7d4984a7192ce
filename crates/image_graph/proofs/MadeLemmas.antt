-- What holds of a graph that is made.
use Rattle.std.proofs.Common.{◌≡◌, ℕ, zero, suc, ◌<◌, List, [], ◌∷◌, Option, Some, None, Result, Ok, refl, ap, sym, subst, ◌∙◌, map, get_or, length, arith}
use Rattle.std.specs.Prelude.{All, slice_get, unwrap_or}
use Rattle.std.specs.List.{AllByRecursion, range_with_len}
use Rattle.std.specs.Option.{option_map}
use Rattle.std.specs.Str.{bytes_eq}
use Rattle.std.proofs.lemmas.List.{length-map}
use Rattle.std.proofs.lemmas.List.Elements.{All-from_recursion}
use Rattle.std.proofs.lemmas.List.Quantifiers.{position-Some}
use Rattle.std.proofs.lemmas.Slice.Eq.{bytes_eq-Decides}
use Rattle.conf_keys.specs.declared.conf.Conf.{Conf}
use Rattle.conf_keys.specs.declared.conf.ImageSection.{ImageSection}
use Rattle.conf_keys.specs.declared.conf.Kind.{Kind}
use Rattle.conf_keys.specs.declared.conf.Kind.TheVariants as kind
use Rattle.conf_keys.specs.declared.conf.PartitionSection.{PartitionSection}
use Rattle.file_names.specs.FullName.{full_name}
use Rattle.image_names.specs.declared.fault.GraphFault.{GraphFault}
use Rattle.image_names.specs.declared.fault.GraphFault.TheVariants.{Cycle}
use Rattle.image_names.specs.Checked.{IsChecked}
use Rattle.image_names.specs.Clashes.{full_of}
use Rattle.image_names.specs.Counts.{first_fault}
use Rattle.image_names.specs.Images.{built_images, built_names, names_built, only_kind}
use Rattle.image_names.specs.Names.{AreDisjoint, number_of}
use Rattle.image_names.specs.Stages.{section_fault}
use Rattle.image_names.proofs.CheckLemmas.{is_checked}
use Rattle.image_names.proofs.ClashLemmas.{few_built, neither}
use Rattle.image_order.specs.Chains.{HasNone, first_cycle}
use Rattle.image_order.proofs.CycleLemmas.{none_at_all}
use Rattle.image_order.proofs.PlacingLemmas.{order_places, order_stands}
use Rattle.image_order.specs.Order.{Places}
use Rattle.image_specs.specs.declared.specs.ImageSpec.{ImageSpec}
use Rattle.image_specs.specs.Specs.{file_or_child, full_names, source_of, sources_of, spec_names, spec_of, specs_of}
use Rattle.image_graph.specs.declared.images.Graph.{Graph}
use Rattle.image_graph.specs.Children.{families_of}
use Rattle.image_graph.specs.Clashes.{file_clash, file_fault, taken}
use Rattle.image_graph.specs.Graph.{cycle, name_at, order_of, ordered, refused_or}
use Rattle.image_graph.specs.IsGraph.{IsGraph, IsMadeOf}
use Rattle.image_graph.proofs.FileLemmas.{disjoint_from}
use Rattle.image_graph.proofs.NumberLemmas.{numbered, spec_count}

-- ---- no stage refused

passed : (fault : Option GraphFault) (behind : Result Graph GraphFault) (graph : Graph) → refused_or fault behind ≡ Ok graph → (fault ≡ None) × (behind ≡ Ok graph)
passed None behind graph h = (refl, h)
passed (Some fault) behind graph h = cc

no_first : (specs : List ImageSpec) → cycle specs ≡ None → first_cycle (families_of specs) ≡ None
no_first specs h = by_case (first_cycle (families_of specs)) h
  where
    by_case : (o : Option ℕ) → option_map (λ image. Cycle (name_at specs image)) o ≡ None → o ≡ None
    by_case None h = refl
    by_case (Some image) h = cc

-- ---- names

names_are : (conf : Conf) (names : List (List ℕ)) (images : List ImageSection) → spec_names (map (spec_of conf names) images) ≡ map (λ image. image.name) images
names_are conf names [] = refl
names_are conf names (image ∷ images) = ap (λ ns. image.name ∷ ns) (names_are conf names images)

fulls_are : (conf : Conf) (names : List (List ℕ)) (images : List ImageSection) → full_names (map (spec_of conf names) images) ≡ map (full_of conf.output) images
fulls_are conf names [] = refl
fulls_are conf names (image ∷ images) = ap (λ ns. full_of conf.output image ∷ ns) (fulls_are conf names images)

-- the full name of the image at a place
full_at : (output : List ℕ) (images : List ImageSection) (k : ℕ) → k < length images → slice_get (map (full_of output) images) k ≡ Some (full_name output (get_or (map (λ (image : ImageSection). image.name) images) k []))
full_at output [] k below = absurd (omega arith)
full_at output (image ∷ images) zero below = refl
full_at output (image ∷ images) (suc k) below = full_at output images k (omega arith)

-- ---- a source with a child has that image's file

child_made : (conf : Conf) (name : List ℕ) (o : Option ℕ) → number_of (built_names conf) name ≡ o → IsMadeOf (specs_of conf) (file_or_child conf name o)
child_made conf name None e = tt
child_made conf name (Some child) e =
    let found = position-Some (bytes_eq name) (built_names conf) child [] e in
    let few : length (built_names conf) ≡ length (built_images conf) = length-map (built_images conf) (λ (image : ImageSection). image.name) in
    let long : length (specs_of conf) ≡ length (built_images conf) = length-map (built_images conf) (spec_of conf (built_names conf)) in
    let same : name ≡ get_or (built_names conf) child [] = (bytes_eq-Decides name (get_or (built_names conf) child [])).0 found.1 in (
      omega (arith, found.0, few, long),
      ap (λ ns. slice_get ns child) (fulls_are conf (built_names conf) (built_images conf))
          ∙ full_at conf.output (built_images conf) child (omega (arith, found.0, few))
          ∙ ap (λ n. Some (full_name conf.output n)) (sym same),
    )

source_made : (conf : Conf) (image : Option (List ℕ)) → IsMadeOf (specs_of conf) (source_of conf (built_names conf) image)
source_made conf None = tt
source_made conf (Some name) = child_made conf name (number_of (built_names conf) name) refl

parts_made : (conf : Conf) (parts : List PartitionSection) → AllByRecursion (IsMadeOf (specs_of conf)) (map (λ part. source_of conf (built_names conf) part.image) parts)
parts_made conf [] = tt
parts_made conf (part ∷ parts) = (source_made conf part.image, parts_made conf parts)

sources_made : (conf : Conf) (image : ImageSection) (k : Kind) → AllByRecursion (IsMadeOf (specs_of conf)) (sources_of conf (built_names conf) image k)
sources_made conf image kind.Hd = parts_made conf image.parts
sources_made conf image kind.Flash = parts_made conf image.parts
sources_made conf image kind.Sparse = (source_made conf image.sparse.image, tt)
sources_made conf image kind.Plain = (tt, tt)
sources_made conf image kind.Ready = tt

specs_made : (conf : Conf) (images : List ImageSection) → AllByRecursion (λ spec. All (IsMadeOf (specs_of conf)) spec.sources) (map (spec_of conf (built_names conf)) images)
specs_made conf [] = tt
specs_made conf (image ∷ images) =
    (All-from_recursion (IsMadeOf (specs_of conf)) (spec_of conf (built_names conf) image).sources (sources_made conf image (unwrap_or (only_kind image.kinds) kind.Ready)), specs_made conf images)

-- ---- all of it

sound_order : (conf : Conf) → section_fault conf ≡ None → file_clash conf.texts (specs_of conf) ≡ None → HasNone (families_of (specs_of conf)) → IsGraph (record { order = order_of (specs_of conf); specs = specs_of conf })
sound_order conf checked free none =
    let holds : IsChecked conf = is_checked conf checked in
    let files = neither (first_fault (file_fault (taken (specs_of conf))) (specs_of conf)) (first_fault (file_fault conf.texts) (specs_of conf)) free in
    let long : length (specs_of conf) ≡ length (names_built conf.images) = length-map (built_images conf) (spec_of conf (built_names conf)) ∙ sym (length-map (built_images conf) (λ (image : ImageSection). image.name)) in
    record {
      few = omega (arith, holds.few, few_built conf.images, long);
      names = rw (names_are conf (built_names conf) (built_images conf)) holds.built;
      fulls = rw (fulls_are conf (built_names conf) (built_images conf)) holds.fulls;
      ready = disjoint_from (taken (specs_of conf)) (specs_of conf) files.0;
      children = All-from_recursion (λ spec. All (IsMadeOf (specs_of conf)) spec.sources) (specs_of conf) (specs_made conf (built_images conf));
      no_cycle = none;
      in_order = order_stands (families_of (specs_of conf)) (numbered conf) none;
      placed = subst (λ (n : ℕ). Places (families_of (specs_of conf)) (range_with_len 0 n) [] (order_of (specs_of conf))) (spec_count conf) (order_places (families_of (specs_of conf)) (numbered conf) none);
    }

-- a graph is that of the images of its configuration
pub record HasMade (conf : Conf) (graph : Graph) : Type 0 where
  pub specs : graph.specs ≡ specs_of conf
  pub sound : IsGraph graph
  pub texts : AreDisjoint (full_names graph.specs) conf.texts

pub has_made : (conf : Conf) (graph : Graph) → section_fault conf ≡ None → file_clash conf.texts (specs_of conf) ≡ None → ordered (specs_of conf) ≡ Ok graph → HasMade conf graph
has_made conf graph checked free h =
    let stage = passed (cycle (specs_of conf)) (Ok (record { order = order_of (specs_of conf); specs = specs_of conf })) graph h in
    let whole : record { order = order_of (specs_of conf); specs = specs_of conf } ≡ graph = cc (stage.1) in
    let none : HasNone (families_of (specs_of conf)) = none_at_all (families_of (specs_of conf)) (no_first (specs_of conf) stage.0) in
    let files = neither (first_fault (file_fault (taken (specs_of conf))) (specs_of conf)) (first_fault (file_fault conf.texts) (specs_of conf)) free in
    subst (λ (g : Graph). HasMade conf g) whole (record { specs = refl; sound = sound_order conf checked free none; texts = disjoint_from conf.texts (specs_of conf) files.1 })
