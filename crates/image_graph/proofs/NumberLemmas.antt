-- Each child is the number of an image that is built.
use Rattle.std.proofs.Common.{◌≡◌, ℕ, ◌<◌, inl, inr, List, [], ◌∷◌, true, Option, Some, None, refl, ap, sym, subst, ◌∙◌, map, length, arith}
use Rattle.std.specs.Prelude.{Contains, slice_get, unwrap_or}
use Rattle.std.specs.List.{filter_map}
use Rattle.std.specs.Option.{option_map}
use Rattle.std.specs.Str.{bytes_eq}
use Rattle.std.proofs.lemmas.List.{length-map}
use Rattle.std.proofs.lemmas.List.Quantifiers.{position-Some}
use Rattle.std.proofs.lemmas.Option.{slice_get-map}
use Rattle.conf_keys.specs.declared.conf.Conf.{Conf}
use Rattle.conf_keys.specs.declared.conf.ImageSection.{ImageSection}
use Rattle.conf_keys.specs.declared.conf.Kind.{Kind}
use Rattle.conf_keys.specs.declared.conf.Kind.TheVariants as kind
use Rattle.conf_keys.specs.declared.conf.PartitionSection.{PartitionSection}
use Rattle.image_specs.specs.declared.specs.Source.{Source}
use Rattle.image_order.specs.Chains.{AreNumbered, children}
use Rattle.image_order.specs.Order.{is_placed}
use Rattle.image_order.proofs.ChainLemmas.{none_contains}
use Rattle.image_order.proofs.Members.{placed_cons, placed_from}
use Rattle.image_graph.specs.Children.{children_of, families_of}
use Rattle.image_names.specs.Images.{built_images, built_names, only_kind}
use Rattle.image_names.specs.Names.{number_of}
use Rattle.image_specs.specs.Specs.{file_or_child, source_of, sources_of, spec_of, specs_of}

-- a source has no child, or one below a limit
abbrev IsBelow : ℕ → Source → Type 0
IsBelow n source = (child : ℕ) → source.child ≡ Some child → child < n

abbrev AreBelow : ℕ → List Source → Type 0
AreBelow n [] = Unit {0}
AreBelow n (source ∷ rest) = IsBelow n source × AreBelow n rest

named_below : (conf : Conf) (names : List (List ℕ)) (name : List ℕ) (o : Option ℕ) → number_of names name ≡ o → IsBelow (length names) (file_or_child conf name o)
named_below conf names name None e child is = cc
named_below conf names name (Some k) e child is =
    let within : k < length names = (position-Some (bytes_eq name) names k [] e).0 in
    let same : k ≡ child = cc in
    omega arith

source_below : (conf : Conf) (names : List (List ℕ)) (given : Option (List ℕ)) → IsBelow (length names) (source_of conf names given)
source_below conf names None child is = cc
source_below conf names (Some name) child is = named_below conf names name (number_of names name) refl child is

parts_below : (conf : Conf) (names : List (List ℕ)) (parts : List PartitionSection) → AreBelow (length names) (map (λ part. source_of conf names part.image) parts)
parts_below conf names [] = tt
parts_below conf names (part ∷ parts) = (source_below conf names part.image, parts_below conf names parts)

sources_below : (conf : Conf) (names : List (List ℕ)) (image : ImageSection) (k : Kind) → AreBelow (length names) (sources_of conf names image k)
sources_below conf names image kind.Sparse = (source_below conf names image.sparse.image, tt)
sources_below conf names image kind.Plain = ((λ child is. cc), tt)
sources_below conf names image kind.Ready = tt
sources_below conf names image kind.Hd = parts_below conf names image.parts
sources_below conf names image kind.Flash = parts_below conf names image.parts

-- of the children of sources each is below the limit
children_below : (n : ℕ) (sources : List Source) → AreBelow n sources → (child : ℕ) → is_placed (filter_map (λ source. source.child) sources) child ≡ true → child < n
children_below n [] below child there = cc
children_below n (source ∷ rest) below child there = head_below source.child refl there (children_below n rest below.1 child)
  where
    head_below : (o : Option ℕ) → source.child ≡ o → is_placed (filter_map (λ (s : Source). s.child) (record { file = source.file; child = o } ∷ rest)) child ≡ true → (is_placed (filter_map (λ source. source.child) rest) child ≡ true → child < n) → child < n
    head_below None e h tail = tail h
    head_below (Some first) e h tail = elim (placed_cons first (filter_map (λ source. source.child) rest) child h) [ inl same ↦ below.0 child (e ∙ ap Some (sym same)) | inr later ↦ tail later ]

pub spec_count : (conf : Conf) → length (families_of (specs_of conf)) ≡ length (specs_of conf)
spec_count conf = length-map (specs_of conf) children_of

name_count : (conf : Conf) → length (built_names conf) ≡ length (families_of (specs_of conf))
name_count conf =
    length-map (built_images conf) (λ (image : ImageSection). image.name)
    ∙ sym (length-map (built_images conf) (spec_of conf (built_names conf)))
    ∙ sym (spec_count conf)

-- the children of an image of a configuration have numbers of images
pub numbered : (conf : Conf) → AreNumbered (families_of (specs_of conf))
numbered conf image child there =
    let found : children (families_of (specs_of conf)) image ≡ unwrap_or (option_map children_of (option_map (spec_of conf (built_names conf)) (slice_get (built_images conf) image))) [] =
    ap (λ o. unwrap_or o []) (slice_get-map children_of (specs_of conf) image ∙ ap (option_map children_of) (slice_get-map (spec_of conf (built_names conf)) (built_images conf) image)) in
    let less : child < length (built_names conf) = among (slice_get (built_images conf) image) (subst (λ (cs : List ℕ). Contains cs child) found there) in
    subst (λ (n : ℕ). child < n) (name_count conf) less
  where
    among : (o : Option ImageSection) → Contains (unwrap_or (option_map children_of (option_map (spec_of conf (built_names conf)) o)) []) child → child < length (built_names conf)
    among None h = absurd (none_contains child h)
    among (Some section) h =
        children_below (length (built_names conf)) (spec_of conf (built_names conf) section).sources (sources_below conf (built_names conf) section (unwrap_or (only_kind section.kinds) kind.Ready)) child (placed_from (children_of (spec_of conf (built_names conf) section)) child h)
