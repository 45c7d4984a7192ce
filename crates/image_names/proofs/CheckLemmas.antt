-- What holds of a configuration whose sections have no fault.
use Rattle.std.proofs.Common.{◌≡◌, ℕ, ◌<◌, ◌≤◌, ◌||◌, List, [], ◌∷◌, ◌++◌, Bool, true, false, cond, Option, Some, None, refl, ap, sym, ◌∙◌, map, length, nat_eq, arith}
use Rattle.std.specs.Prelude.{◌≢◌, nat_lt, filter}
use Rattle.std.specs.List.{AllByRecursion}
use Rattle.std.specs.Str.{bytes_eq}
use Rattle.std.proofs.lemmas.Bool.{eqb-true, lt-ltb}
use Rattle.std.proofs.lemmas.List.{map-append}
use Rattle.std.proofs.lemmas.List.Elements.{All-from_recursion, filter-append}
use Rattle.std.proofs.lemmas.List.Folds.{list_any-append}
use Rattle.std.proofs.lemmas.List.Kept.{AllPairs-cons}
use Rattle.std.proofs.lemmas.Slice.Eq.{bytes_eq-Decides}
use Rattle.conf_keys.specs.declared.conf.Conf.{Conf}
use Rattle.conf_keys.specs.declared.conf.ImageSection.{ImageSection}
use Rattle.image_names.specs.declared.fault.GraphFault.{GraphFault}
use Rattle.image_names.specs.declared.fault.GraphFault.TheVariants.{NoFlash, NoKind, TooMany}
use Rattle.image_names.specs.Checked.{IsChecked, IsImageChecked, NamesFlash}
use Rattle.image_names.specs.Clashes.{again, built_fulls, clash_among, clash_with, flash_clash, full_clash, full_of, image_again, image_clash, part_clash, section_clash}
use Rattle.image_names.specs.Counts.{first_fault, flash_fault, flash_fault_of, has_flash, kind_fault, names_of, no_flash, no_kind, past, too_many}
use Rattle.image_names.specs.Images.{all_names, counted_parts, is_built, names_built}
use Rattle.image_names.specs.Names.{AreApart, holds}
use Rattle.image_names.specs.Stages.{section_fault}
use Rattle.image_names.proofs.ClashLemmas.{built_held, neither, not_held}

-- ---- no fault of the first stages

past_none : (limit count : ℕ) → past limit count ≡ None → count ≤ limit
past_none limit count h = by_case (nat_lt limit count) refl h
  where
    by_case : (b : Bool) → nat_lt limit count ≡ b → cond b (Some (TooMany count limit)) None ≡ None → count ≤ limit
    by_case true e h = cc
    by_case false e h =
        let within : limit < count → ⊥ = λ above. (let passes : nat_lt limit count ≡ true = lt-ltb limit count above in cc) in
        omega arith

kind_none : (image : ImageSection) → kind_fault image ≡ None → length image.kinds ≡ 1
kind_none image h = by_case (nat_eq (length image.kinds) 1) refl h
  where
    by_case : (b : Bool) → nat_eq (length image.kinds) 1 ≡ b → cond b None (Some (NoKind image.name (length image.kinds))) ≡ None → length image.kinds ≡ 1
    by_case true e h = eqb-true (length image.kinds) 1 e
    by_case false e h = cc

flash_none : (names : List (List ℕ)) (image : ImageSection) → flash_fault names image ≡ None → NamesFlash names image
flash_none names image h is = by_case (has_flash names image) refl (sym (ap (flash_fault_of names image) is) ∙ h)
  where
    by_case : (b : Bool) → has_flash names image ≡ b → cond b None (Some (NoFlash image.name)) ≡ None → has_flash names image ≡ true
    by_case true e h = e
    by_case false e h = cc

-- of no image
pub none_of : {X : Type 0} (f : X → Option GraphFault) (xs : List X) → first_fault f xs ≡ None → AllByRecursion (λ x. f x ≡ None) xs
none_of f [] h = tt
none_of f (x ∷ xs) h = let parts = neither (f x) (first_fault f xs) h in (parts.0, none_of f xs parts.1)

-- ---- no name again

or_none : (a b : Bool) → (a || b) ≡ false → (a ≡ false) × (b ≡ false)
or_none true b h = cc
or_none false b h = (refl, h)

-- a name that isn't among names and one more
not_among : (names : List (List ℕ)) (more name : List ℕ) → holds (names ++ more ∷ []) name ≡ false → (holds names name ≡ false) × (more ≢ name)
not_among names more name h =
    let parts = or_none (holds names name) (bytes_eq name more || false) (sym (list_any-append (bytes_eq name) names (more ∷ [])) ∙ h) in
    let differs = or_none (bytes_eq name more) false parts.1 in
    (parts.0, λ same. (let equal : bytes_eq name more ≡ true = (bytes_eq-Decides name more).1 (sym same) in let other : bytes_eq name more ≡ false = differs.0 in cc))

-- each of the names is new among the earlier ones, and differs from those behind it
pub record AreNew (earlier names : List (List ℕ)) : Type 0 where
  pub fresh : AllByRecursion (λ name. holds earlier name ≡ false) names
  pub apart : AreApart names

fresh_of : (earlier : List (List ℕ)) (name : List ℕ) (names : List (List ℕ)) → AllByRecursion (λ n. holds (earlier ++ name ∷ []) n ≡ false) names → AllByRecursion (λ n. holds earlier n ≡ false) names × AllByRecursion (λ n. name ≢ n) names
fresh_of earlier name [] h = (tt, tt)
fresh_of earlier name (n ∷ names) h =
    let here = not_among earlier name n h.0 in
    let rest = fresh_of earlier name names h.1 in
    ((here.0, rest.0), (here.1, rest.1))

apart_nil : AreApart []
apart_nil i j d less within = absurd (omega arith)

pub new_cons : (earlier : List (List ℕ)) (name : List ℕ) (names : List (List ℕ)) → holds earlier name ≡ false → AreNew (earlier ++ name ∷ []) names → AreNew earlier (name ∷ names)
new_cons earlier name names fresh rest =
    let both = fresh_of earlier name names rest.fresh in
    record { fresh = (fresh, both.0); apart = AllPairs-cons (λ a b. a ≢ b) name names (All-from_recursion (λ n. name ≢ n) names both.1) rest.apart }

pub again_new : (earlier names : List (List ℕ)) → again earlier names ≡ None → AreNew earlier names
again_new earlier [] h = record { fresh = tt; apart = apart_nil }
again_new earlier (name ∷ names) h =
    let parts = neither (clash_among earlier name) (again (earlier ++ name ∷ []) names) h in
    new_cons earlier name names (not_held earlier name (holds earlier name) refl parts.0) (again_new (earlier ++ name ∷ []) names parts.1)

pub again_apart : (names : List (List ℕ)) → again [] names ≡ None → AreApart names
again_apart names h = (again_new [] names h).apart

-- ---- no image with one name with an earlier one

pub record ImagesNew (output : List ℕ) (earlier images : List ImageSection) : Type 0 where
  pub names : AreNew (all_names earlier) (all_names images)
  pub built : AreNew (names_built earlier) (names_built images)
  pub fulls : AreNew (built_fulls output earlier) (built_fulls output images)

-- what is made of the images up to one
made_to : {X : Type 0} (f : ImageSection → X) (earlier : List ImageSection) (image : ImageSection) (b : Bool) → is_built image ≡ b → map f (filter is_built (earlier ++ image ∷ [])) ≡ map f (filter is_built earlier) ++ map f (cond b (image ∷ []) [])
made_to f earlier image b e =
    ap (map f) (filter-append is_built earlier (image ∷ []))
    ∙ map-append f (filter is_built earlier) (filter is_built (image ∷ []))
    ∙ ap (λ t. map f (filter is_built earlier) ++ map f (cond t (image ∷ []) [])) e

-- one more image, where it is built and where it isn't
new_made : (f : ImageSection → List ℕ) (earlier : List ImageSection) (image : ImageSection) (images : List ImageSection) (b : Bool) → is_built image ≡ b → (b ≡ true → holds (map f (filter is_built earlier)) (f image) ≡ false) → AreNew (map f (filter is_built (earlier ++ image ∷ []))) (map f (filter is_built images)) → AreNew (map f (filter is_built earlier)) (map f (filter is_built (image ∷ images)))
new_made f earlier image images true e fresh rest =
    let so_far : map f (filter is_built (earlier ++ image ∷ [])) ≡ map f (filter is_built earlier) ++ f image ∷ [] = made_to f earlier image true e in
    let more : map f (filter is_built (image ∷ images)) ≡ f image ∷ map f (filter is_built images) = ap (λ b. map f (cond b (image ∷ filter is_built images) (filter is_built images))) e in
    rw more (new_cons (map f (filter is_built earlier)) (f image) (map f (filter is_built images)) (fresh refl) (rw (sym so_far) rest))
new_made f earlier image images false e fresh rest =
    let so_far : map f (filter is_built (earlier ++ image ∷ [])) ≡ map f (filter is_built earlier) ++ [] = made_to f earlier image false e in
    let same : map f (filter is_built (earlier ++ image ∷ [])) ≡ map f (filter is_built earlier) = so_far ∙ append_nil (map f (filter is_built earlier)) in
    let more : map f (filter is_built (image ∷ images)) ≡ map f (filter is_built images) = ap (λ b. map f (cond b (image ∷ filter is_built images) (filter is_built images))) e in
    rw more (rw (sym same) rest)
  where
    append_nil : (xs : List (List ℕ)) → xs ++ [] ≡ xs
    append_nil [] = refl
    append_nil (x ∷ xs) = ap (λ ys. x ∷ ys) (append_nil xs)

full_fresh : (fulls : List (List ℕ)) (output : List ℕ) (image : ImageSection) → full_clash fulls output image ≡ None → is_built image ≡ true → holds fulls (full_of output image) ≡ false
full_fresh fulls output image none built =
    let clash : clash_among fulls (full_of output image) ≡ None = sym (ap (λ b. cond b (clash_among fulls (full_of output image)) None) built) ∙ none in
    not_held fulls (full_of output image) (holds fulls (full_of output image)) refl clash

pub images_fresh : (output : List ℕ) (earlier : List ImageSection) → ImagesNew output earlier []
images_fresh output earlier = record {
  names = record { fresh = tt; apart = apart_nil };
  built = record { fresh = tt; apart = apart_nil };
  fulls = record { fresh = tt; apart = apart_nil };
}

-- one more image in front that has no name with an earlier one
pub images_more : (output : List ℕ) (earlier : List ImageSection) (image : ImageSection) (images : List ImageSection) → clash_with (all_names earlier) (built_fulls output earlier) output image ≡ None → ImagesNew output (earlier ++ image ∷ []) images → ImagesNew output earlier (image ∷ images)
images_more output earlier image images clash rest =
    let named = neither (clash_among (all_names earlier) image.name) (full_clash (built_fulls output earlier) output image) clash in
    let free : holds (all_names earlier) image.name ≡ false = not_held (all_names earlier) image.name (holds (all_names earlier) image.name) refl named.0 in
    let so_far : all_names (earlier ++ image ∷ []) ≡ all_names earlier ++ image.name ∷ [] = map-append (λ (image : ImageSection). image.name) earlier (image ∷ []) in
    record {
      names = new_cons (all_names earlier) image.name (all_names images) free (rw (sym so_far) rest.names);
      built = new_made (λ (image : ImageSection). image.name) earlier image images (is_built image) refl (λ built. built_held earlier image.name free) rest.built;
      fulls = new_made (full_of output) earlier image images (is_built image) refl (full_fresh (built_fulls output earlier) output image named.1) rest.fulls;
    }

images_new : (output : List ℕ) (earlier images : List ImageSection) → image_again output earlier images ≡ None → ImagesNew output earlier images
images_new output earlier [] h = images_fresh output earlier
images_new output earlier (image ∷ images) h =
    let parts = neither (clash_with (all_names earlier) (built_fulls output earlier) output image) (image_again output (earlier ++ image ∷ []) images) h in
    images_more output earlier image images parts.0 (images_new output (earlier ++ image ∷ []) images parts.1)

pub images_apart : (output : List ℕ) (images : List ImageSection) → image_clash output images ≡ None → ImagesNew output [] images
images_apart output images h = images_new output [] images h

-- ---- all of it

pub no_clash : (conf : Conf) → section_fault conf ≡ None → section_clash conf ≡ None
no_clash conf h = (neither (no_flash conf) _ (neither (no_kind conf) _ (neither (too_many conf) _ h).1).1).1

each_checked : (flashes : List (List ℕ)) (images : List ImageSection) → AllByRecursion (λ image. past 256 (length (counted_parts image)) ≡ None) images → AllByRecursion (λ image. kind_fault image ≡ None) images → AllByRecursion (λ image. flash_fault flashes image ≡ None) images → AllByRecursion (λ image. part_clash image ≡ None) images → AllByRecursion (IsImageChecked flashes) images
each_checked flashes [] few one named apart = tt
each_checked flashes (image ∷ images) few one named apart = (
  record {
    few = past_none 256 (length (counted_parts image)) few.0;
    one_kind = kind_none image one.0;
    flash = flash_none flashes image named.0;
    parts = again_apart _ apart.0;
  },
  each_checked flashes images few.1 one.1 named.1 apart.1,
)

pub is_checked : (conf : Conf) → section_fault conf ≡ None → IsChecked conf
is_checked conf h =
    let counts = neither _ _ h in
    let kinds = neither _ _ counts.1 in
    let flashes = neither _ _ kinds.1 in
    let clashes = neither (image_clash conf.output conf.images) _ flashes.1 in
    let behind = neither (flash_clash conf.flashes) (first_fault part_clash conf.images) clashes.1 in
    let numbers = neither (past 64 (length conf.images)) (first_fault (λ image. past 256 (length (counted_parts image))) conf.images) counts.0 in
    let new = images_new conf.output [] conf.images clashes.0 in
    record {
      few = past_none 64 (length conf.images) numbers.0;
      each = All-from_recursion (IsImageChecked (names_of conf.flashes)) conf.images
          (each_checked (names_of conf.flashes) conf.images
          (none_of (λ image. past 256 (length (counted_parts image))) conf.images numbers.1)
          (none_of kind_fault conf.images kinds.0)
          (none_of (flash_fault (names_of conf.flashes)) conf.images flashes.0)
          (none_of part_clash conf.images behind.1));
      images = new.names.apart;
      built = new.built.apart;
      fulls = new.fulls.apart;
      flashes = again_apart (names_of conf.flashes) behind.0;
    }
