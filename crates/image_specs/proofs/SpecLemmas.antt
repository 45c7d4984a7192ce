-- What is built of a configuration that keeps within the limits, and whose sections have no fault, holds what placement
-- rests on.
use Rattle.std.proofs.Common.{◌≡◌, ℕ, ◌≤◌, ◌||◌, List, [], ◌∷◌, Bool, true, false, cond, Option, Some, None, refl, ap, sym, subst, ◌∙◌, map, length, arith}
use Rattle.std.specs.Prelude.{All, Contains, IsSome, filter, option_and_then, unwrap_or}
use Rattle.std.specs.List.{AllByRecursion}
use Rattle.std.specs.Option.{option_map_or}
use Rattle.std.specs.Str.{bytes_eq}
use Rattle.std.proofs.lemmas.List.Elements.{All-cons, All-from_recursion, All-nil, recursion_from_All}
use Rattle.std.proofs.lemmas.Slice.Eq.{bytes_eq-Decides}
use Rattle.conf_keys.specs.declared.conf.Conf.{Conf}
use Rattle.conf_keys.specs.declared.conf.FlashSection.{FlashSection}
use Rattle.conf_keys.specs.declared.conf.ImageSection.{ImageSection}
use Rattle.conf_keys.specs.declared.conf.Kind.{Kind}
use Rattle.conf_keys.specs.declared.conf.Kind.TheVariants as kind
use Rattle.conf_keys.specs.declared.conf.PartitionSection.{PartitionSection}
use Rattle.conf_keys.specs.Within.{IsFlashWithin, IsImageWithin, IsWithin}
use Rattle.image_names.specs.Checked.{IsChecked, IsImageChecked}
use Rattle.image_names.specs.Counts.{has_flash, names_of}
use Rattle.image_names.specs.Images.{built_names, counted_of, is_built, is_made, only_kind}
use Rattle.image_names.specs.Names.{AreApart, holds, number_of}
use Rattle.image_specs.specs.declared.specs.ImageSpec.{ImageSpec}
use Rattle.image_specs.specs.declared.specs.Source.{Source}
use Rattle.image_specs.specs.Identifiers.{HasIdentifiers}
use Rattle.image_specs.specs.IsSpec.{ArePartSources, AreSources, IsFlashFor, IsOneSource, IsSourceFor, IsSpec}
use Rattle.image_specs.specs.Specs.{file_or_child, flash_named, flash_of, ready_file, source_of, sources_of, spec_as, spec_of, specs_of}

-- ---- the only kind

only_one : (kinds : List Kind) (k : Kind) → only_kind kinds ≡ Some k → kinds ≡ k ∷ []
only_one [] k e = cc
only_one (first ∷ []) k e = let same : first ≡ k = cc in ap (λ (x : Kind). x ∷ []) same
only_one (first ∷ (second ∷ rest)) k e = cc

not_ready : (k : Kind) → is_made k ≡ true → k ≡ kind.Ready → ⊥
not_ready k made is = let never : is_made kind.Ready ≡ true = sym (ap is_made is) ∙ made in cc

-- ---- sources

named_file : (conf : Conf) (name : List ℕ) (o : Option ℕ) → IsSome (file_or_child conf name o).file
named_file conf name None = refl
named_file conf name (Some child) = refl

source_for : (conf : Conf) (names : List (List ℕ)) (image : Option (List ℕ)) → IsSourceFor image (source_of conf names image)
source_for conf names None = (refl, refl)
source_for conf names (Some name) = named_file conf name (number_of names name)

part_sources : (conf : Conf) (names : List (List ℕ)) (parts : List PartitionSection) → ArePartSources parts (map (λ part. source_of conf names part.image) parts)
part_sources conf names [] = tt
part_sources conf names (part ∷ parts) = (source_for conf names part.image, part_sources conf names parts)

one_source : (source : Source) → IsSome source.file → IsOneSource (source ∷ [])
one_source source file = record { one = refl; file = All-cons (λ source. IsSome source.file) source [] file (All-nil (λ source. IsSome source.file)) }

given_file : (conf : Conf) (names : List (List ℕ)) (image : Option (List ℕ)) → IsSome image → IsSome (source_of conf names image).file
given_file conf names None some = cc
given_file conf names (Some name) some = named_file conf name (number_of names name)

sources_fit : (conf : Conf) (names : List (List ℕ)) (image : ImageSection) (k : Kind) → is_made k ≡ true → (k ≡ kind.Sparse → IsSome image.sparse.image) → AreSources k image.parts (sources_of conf names image k)
sources_fit conf names image kind.Hd made sparse = part_sources conf names image.parts
sources_fit conf names image kind.Flash made sparse = part_sources conf names image.parts
sources_fit conf names image kind.Sparse made sparse = one_source (source_of conf names image.sparse.image) (given_file conf names image.sparse.image (sparse refl))
sources_fit conf names image kind.Plain made sparse = one_source (ready_file conf (unwrap_or image.plain.name image.name)) refl
sources_fit conf names image kind.Ready made sparse = cc

-- as many as there are partitions
pub as_many : (parts : List PartitionSection) (sources : List Source) → ArePartSources parts sources → length sources ≡ length parts
as_many [] [] each = refl
as_many [] (source ∷ sources) each = absurd each
as_many (part ∷ parts) [] each = absurd each
as_many (part ∷ parts) (source ∷ sources) each = let rest : length sources ≡ length parts = as_many parts sources each.1 in omega arith

-- ---- flash devices

-- the flash section that is found has the name, and keeps within the limits
record IsFound (name : List ℕ) (found : Option FlashSection) : Type 0 where
  flash : FlashSection
  is : found ≡ Some flash
  name_is : name ≡ flash.name
  within : IsFlashWithin flash

flash_found : (flashes : List FlashSection) (name : List ℕ) → AllByRecursion IsFlashWithin flashes → holds (names_of flashes) name ≡ true → IsFound name (flash_named flashes name)
flash_found [] name within h = cc
flash_found (flash ∷ flashes) name within h = by_case (bytes_eq name flash.name) refl h (flash_found flashes name within.1)
  where
    by_case : (b : Bool) → bytes_eq name flash.name ≡ b → (b || holds (names_of flashes) name) ≡ true → (holds (names_of flashes) name ≡ true → IsFound name (flash_named flashes name)) → IsFound name (cond (bytes_eq name flash.name) (Some flash) (flash_named flashes name))
    by_case true e h rest = rw e (record { flash = flash; is = refl; name_is = (bytes_eq-Decides name flash.name).0 e; within = within.0 })
    by_case false e h rest = rw e (rest h)

flash_here : (flashtype : Option (List ℕ)) (name : List ℕ) (found : Option FlashSection) → flashtype ≡ Some name → IsFound name found → IsFlashFor kind.Flash flashtype found
flash_here flashtype name found is f = rw f.is ((is ∙ ap Some f.name_is), f.within)

flash_given : (flashes : List FlashSection) (flashtype : Option (List ℕ)) → AllByRecursion IsFlashWithin flashes → option_map_or (holds (names_of flashes)) flashtype false ≡ true → IsFlashFor kind.Flash flashtype (option_and_then (flash_named flashes) flashtype)
flash_given flashes None within h = cc
flash_given flashes (Some name) within h = flash_here (Some name) name (flash_named flashes name) refl (flash_found flashes name within h)

flash_fits : (flashes : List FlashSection) (image : ImageSection) (k : Kind) → AllByRecursion IsFlashWithin flashes → (k ≡ kind.Flash → has_flash (names_of flashes) image ≡ true) → IsFlashFor k image.flashtype (flash_of flashes image k)
flash_fits flashes image kind.Flash within named = flash_given flashes image.flashtype within (named refl)
flash_fits flashes image kind.Hd within named = refl
flash_fits flashes image kind.Sparse within named = refl
flash_fits flashes image kind.Plain within named = refl
flash_fits flashes image kind.Ready within named = refl

-- ---- an image

spec_fits : (conf : Conf) (names : List (List ℕ)) (image : ImageSection) (k : Kind) → AllByRecursion IsFlashWithin conf.flashes → only_kind image.kinds ≡ Some k → is_made k ≡ true → IsImageWithin image → IsImageChecked (names_of conf.flashes) image → HasIdentifiers image → IsSpec (spec_as conf names image k)
spec_fits conf names image k flashes is made within checked whole =
    let kinds : image.kinds ≡ k ∷ [] = only_one image.kinds k is in
    record {
      name = refl;
      only = kinds;
      built = not_ready k made;
      within = within;
      identifiers = whole;
      few = subst (λ (o : Option Kind). length (counted_of o image.parts) ≤ 256) is checked.few;
      apart = subst (λ (o : Option Kind). AreApart (map (λ part. part.name) (counted_of o image.parts))) is checked.parts;
      sources = sources_fit conf names image k made (λ sparse. within.sparse_image (subst (λ (ks : List Kind). Contains ks kind.Sparse) (sym kinds) (subst (λ (x : Kind). Contains (k ∷ []) x) sparse (here k))));
      flash = flash_fits conf.flashes image k flashes (λ flash. checked.flash (is ∙ ap Some flash));
    }
  where
    here : (x : Kind) → Contains (x ∷ []) x
    here x = (0, omega arith, refl)

built_fits : (conf : Conf) (names : List (List ℕ)) (image : ImageSection) (o : Option Kind) → only_kind image.kinds ≡ o → option_map_or is_made o false ≡ true → AllByRecursion IsFlashWithin conf.flashes → IsImageWithin image → IsImageChecked (names_of conf.flashes) image → HasIdentifiers image → IsSpec (spec_of conf names image)
built_fits conf names image None is built flashes within checked whole = cc
built_fits conf names image (Some k) is built flashes within checked whole =
    let same : spec_of conf names image ≡ spec_as conf names image k = ap (λ o. spec_as conf names image (unwrap_or o kind.Ready)) is in
    rw same (spec_fits conf names image k flashes is built within checked whole)

-- ---- all images

abbrev HasAll : List ImageSpec → Type 0
HasAll specs = AllByRecursion (λ spec. HasIdentifiers spec.keys) specs

-- one more image, where it is built and where it isn't
case_fits : (conf : Conf) (names : List (List ℕ)) (image : ImageSection) (images : List ImageSection) (b : Bool) → (b ≡ true → HasIdentifiers image → IsSpec (spec_of conf names image)) → (HasAll (map (spec_of conf names) (filter is_built images)) → AllByRecursion IsSpec (map (spec_of conf names) (filter is_built images))) → HasAll (map (spec_of conf names) (cond b (image ∷ filter is_built images) (filter is_built images))) → AllByRecursion IsSpec (map (spec_of conf names) (cond b (image ∷ filter is_built images) (filter is_built images)))
case_fits conf names image images true here rest whole = (here refl whole.0, rest whole.1)
case_fits conf names image images false here rest whole = rest whole

each_fits : (conf : Conf) (names : List (List ℕ)) (images : List ImageSection) → AllByRecursion IsFlashWithin conf.flashes → AllByRecursion IsImageWithin images → AllByRecursion (IsImageChecked (names_of conf.flashes)) images → HasAll (map (spec_of conf names) (filter is_built images)) → AllByRecursion IsSpec (map (spec_of conf names) (filter is_built images))
each_fits conf names [] flashes within checked whole = tt
each_fits conf names (image ∷ images) flashes within checked whole =
    case_fits conf names image images (is_built image)
    (λ built identifiers. built_fits conf names image (only_kind image.kinds) refl built flashes within.0 checked.0 identifiers)
    (each_fits conf names images flashes within.1 checked.1) whole

pub all_fit : (conf : Conf) → IsWithin conf → IsChecked conf → All (λ spec. HasIdentifiers spec.keys) (specs_of conf) → All IsSpec (specs_of conf)
all_fit conf within checked whole =
    All-from_recursion IsSpec (specs_of conf)
    (each_fits conf (built_names conf) conf.images
    (recursion_from_All IsFlashWithin conf.flashes within.flashes)
    (recursion_from_All IsImageWithin conf.images within.images)
    (recursion_from_All (IsImageChecked (names_of conf.flashes)) conf.images checked.each)
    (recursion_from_All (λ (spec : ImageSpec). HasIdentifiers spec.keys) (specs_of conf) whole))
