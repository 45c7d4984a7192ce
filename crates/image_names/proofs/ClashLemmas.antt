-- One step of the search for two things with one name.
use Rattle.std.proofs.Common.{◌≡◌, ℕ, ◌+◌, ◌<◌, ◌≤◌, ◌||◌, List, [], ◌∷◌, ◌++◌, Bool, true, false, not, cond, Option, Some, None, Result, refl, subst, ap, sym, ◌∙◌, map, take, drop, get_or, length}
use Rattle.std.specs.Prelude.{filter}
use Rattle.std.specs.Option.{option_map_or, option_or}
use Rattle.std.specs.Str.{bytes_eq}
use Rattle.std.proofs.lemmas.List.{length-map, map-append}
use Rattle.std.proofs.lemmas.List.Elements.{filter-append}
use Rattle.std.proofs.lemmas.List.Sums.{count_by-le-length, length-filter}
use Rattle.conf_keys.specs.declared.conf.ImageSection.{ImageSection}
use Rattle.conf_keys.specs.declared.conf.Kind.{Kind}
use Rattle.conf_keys.specs.declared.conf.Kind.TheVariants as kind
use Rattle.image_names.specs.declared.fault.GraphFault.{GraphFault}
use Rattle.image_names.specs.declared.fault.GraphFault.TheVariants.{NameClash, NoFlash}
use Rattle.image_names.specs.Stages.{Passes}
use Rattle.image_names.specs.Clashes.{built_fulls, clash_among, clash_with, full_clash, image_again}
use Rattle.image_names.specs.Counts.{first_fault, flash_fault, flash_fault_of}
use Rattle.image_names.specs.Images.{all_names, is_built, names_built, only_kind}
use Rattle.image_names.specs.Names.{HoldSame, holds}
use Rattle.image_names.proofs.Reading.{drop_read, take_read}

-- ---- lists that hold the same names give the same refusals

pub first_same : {X : Type 0} (f g : X → Option GraphFault) → ((x : X) → f x ≡ g x) → (xs : List X) → first_fault f xs ≡ first_fault g xs
first_same f g same [] = refl
first_same f g same (x ∷ xs) = ap (λ o. option_or o (first_fault f xs)) (same x) ∙ ap (option_or (g x)) (first_same f g same xs)

pub flash_same : (names others : List (List ℕ)) → HoldSame names others → (images : List ImageSection) → first_fault (flash_fault names) images ≡ first_fault (flash_fault others) images
flash_same names others same = first_same (flash_fault names) (flash_fault others) (λ image. of_kind image (only_kind image.kinds))
  where
    has_same : (given : Option (List ℕ)) → option_map_or (holds names) given false ≡ option_map_or (holds others) given false
    has_same None = refl
    has_same (Some name) = same name

    of_kind : (image : ImageSection) (k : Option Kind) → flash_fault_of names image k ≡ flash_fault_of others image k
    of_kind image (Some kind.Flash) = ap (λ b. cond b None (Some (NoFlash image.name))) (has_same image.flashtype)
    of_kind image _ = refl

-- a stage that is the same
pub passes_same : (wanted other : Option GraphFault) (got : Result (Unit {0}) GraphFault) → wanted ≡ other → Passes other got → Passes wanted got
passes_same wanted other got same passes = subst (λ (o : Option GraphFault). Passes o got) (sym same) passes

-- ---- the images before one, and those up to it

pub names_read : (images : List ImageSection) (i : ℕ) (image : ImageSection) → i < length images → image ≡ get_or images i image → all_names (take (i + 1) images) ≡ all_names (take i images) ++ image.name ∷ []
names_read images i image below is = ap all_names (take_read images i image below is) ∙ map-append (λ (image : ImageSection). image.name) (take i images) (image ∷ [])

built_one : (image : ImageSection) (b : Bool) → is_built image ≡ b → filter is_built (image ∷ []) ≡ cond b (image ∷ []) []
built_one image b is = ap (λ t. cond t (image ∷ []) []) is

built_read : (images : List ImageSection) (i : ℕ) (image : ImageSection) (b : Bool) → i < length images → image ≡ get_or images i image → is_built image ≡ b → filter is_built (take (i + 1) images) ≡ filter is_built (take i images) ++ cond b (image ∷ []) []
built_read images i image b below is built =
    ap (filter is_built) (take_read images i image below is) ∙ filter-append is_built (take i images) (image ∷ []) ∙ ap (λ ys. filter is_built (take i images) ++ ys) (built_one image b built)

append_nil : {X : Type 0} (xs : List X) → xs ++ [] ≡ xs
append_nil [] = refl
append_nil (x ∷ xs) = ap (λ ys. x ∷ ys) (append_nil xs)

-- what is made of the images that are built
pub made_read : {X : Type 0} (f : ImageSection → X) (images : List ImageSection) (i : ℕ) (image : ImageSection) (b : Bool) → i < length images → image ≡ get_or images i image → is_built image ≡ b → map f (filter is_built (take (i + 1) images)) ≡ cond b (map f (filter is_built (take i images)) ++ f image ∷ []) (map f (filter is_built (take i images)))
made_read f images i image true below is built = ap (map f) (built_read images i image true below is built) ∙ map-append f (filter is_built (take i images)) (image ∷ [])
made_read f images i image false below is built = ap (map f) (built_read images i image false below is built ∙ append_nil (filter is_built (take i images)))

pub again_read : (output : List ℕ) (images : List ImageSection) (i : ℕ) (image : ImageSection) (names fulls : List (List ℕ)) → i < length images → image ≡ get_or images i image → names ≡ all_names (take i images) → fulls ≡ built_fulls output (take i images) → image_again output (take i images) (drop i images) ≡ option_or (clash_with names fulls output image) (image_again output (take (i + 1) images) (drop (i + 1) images))
again_read output images i image names fulls below is ns fs =
    ap (image_again output (take i images)) (drop_read images i image below is)
    ∙ ap (λ earlier. option_or (clash_with (all_names (take i images)) (built_fulls output (take i images)) output image) (image_again output earlier (drop (i + 1) images))) (sym (take_read images i image below is))
    ∙ ap (λ ns. option_or (clash_with ns (built_fulls output (take i images)) output image) (image_again output (take (i + 1) images) (drop (i + 1) images))) (sym ns)
    ∙ ap (λ fs. option_or (clash_with names fs output image) (image_again output (take (i + 1) images) (drop (i + 1) images))) (sym fs)

-- ---- where no two images have one name

pub neither : {X : Type 0} (a b : Option X) → option_or a b ≡ None → (a ≡ None) × (b ≡ None)
neither None b h = (refl, h)
neither (Some x) b h = (h, cc)

pub not_held : (names : List (List ℕ)) (name : List ℕ) (b : Bool) → holds names name ≡ b → clash_among names name ≡ None → b ≡ false
not_held names name false h none = refl
not_held names name true h none = let some : clash_among names name ≡ Some (NameClash name) = rw h refl in cc

held_built : (image : ImageSection) (images : List ImageSection) (name : List ℕ) (b t : Bool) → is_built image ≡ b → bytes_eq name image.name ≡ t → (t || holds (all_names images) name) ≡ false → (holds (all_names images) name ≡ false → holds (names_built images) name ≡ false) → holds (names_built (image ∷ images)) name ≡ false
held_built image images name b true built same h rest = cc
held_built image images name true false built same h rest = rw (built, same) (rest h)
held_built image images name false false built same h rest = rw built (rest h)

pub built_held : (images : List ImageSection) (name : List ℕ) → holds (all_names images) name ≡ false → holds (names_built images) name ≡ false
built_held [] name none = refl
built_held (image ∷ images) name none = held_built image images name (is_built image) (bytes_eq name image.name) refl refl none (built_held images name)

-- a name that comes next is new among those of the images that are built
pub apart_read : (output : List ℕ) (images : List ImageSection) (i : ℕ) (image : ImageSection) → i < length images → image ≡ get_or images i image → image_again output (take i images) (drop i images) ≡ None → (holds (names_built (take i images)) image.name ≡ false) × (image_again output (take (i + 1) images) (drop (i + 1) images) ≡ None)
apart_read output images i image below is apart =
    let both : option_or (clash_with (all_names (take i images)) (built_fulls output (take i images)) output image) (image_again output (take (i + 1) images) (drop (i + 1) images)) ≡ None =
    sym (again_read output images i image (all_names (take i images)) (built_fulls output (take i images)) below is refl refl) ∙ apart in
    let parts = neither (clash_with (all_names (take i images)) (built_fulls output (take i images)) output image) (image_again output (take (i + 1) images) (drop (i + 1) images)) both in
    let named = neither (clash_among (all_names (take i images)) image.name) (full_clash (built_fulls output (take i images)) output image) parts.0 in
    let free : holds (all_names (take i images)) image.name ≡ false = not_held (all_names (take i images)) image.name (holds (all_names (take i images)) image.name) refl named.0 in
    (built_held (take i images) image.name free, parts.1)

pub few_built : (images : List ImageSection) → length (names_built images) ≤ length images
few_built images = rw (length-map (filter is_built images) (λ (image : ImageSection). image.name), length-filter is_built images) (count_by-le-length is_built images)

-- a new name is added behind the others
pub new_name : (names new all : List (List ℕ)) (text name : List ℕ) (fresh : Bool) → names ≡ all → text ≡ name → holds all name ≡ false → fresh ≡ not (holds names text) → new ≡ cond fresh (names ++ text ∷ []) names → new ≡ all ++ name ∷ []
new_name names new all text name fresh same is none tells e =
    let free : holds names text ≡ false = ap (λ ns. holds ns text) same ∙ ap (holds all) is ∙ none in
    rw (e, tells, free) (ap (λ ns. ns ++ text ∷ []) same ∙ ap (λ n. all ++ n ∷ []) is)

-- what is made of one more image that is built
pub made_more : {X : Type 0} (f : ImageSection → X) (images : List ImageSection) (i : ℕ) (image : ImageSection) (old new : List X) (made : X) → i < length images → image ≡ get_or images i image → is_built image ≡ true → made ≡ f image → old ≡ map f (filter is_built (take i images)) → new ≡ old ++ made ∷ [] → new ≡ map f (filter is_built (take (i + 1) images))
made_more f images i image old new made below is built same so_far e =
    e ∙ ap (λ xs. xs ++ made ∷ []) so_far ∙ ap (λ x. map f (filter is_built (take i images)) ++ x ∷ []) same ∙ sym (made_read f images i image true below is built)
