-- The first of two things with one name.
use Rattle.std.proofs.Common.{◌≡◌, ℕ, zero, suc, ◌<◌, ◌||◌, ◌⊎◌, inl, inr, List, [], ◌∷◌, ◌++◌, Bool, true, false, cond, Option, Some, None, refl, ap, sym, subst, ◌∙◌, append_assoc, length, slice_index_or, arith}
use Rattle.std.specs.Prelude.{Contains}
use Rattle.std.specs.Option.{option_or}
use Rattle.std.specs.Str.{bytes_eq}
use Rattle.std.proofs.lemmas.Slice.Eq.{bytes_eq-Decides}
use Rattle.conf_keys.specs.declared.conf.ImageSection.{ImageSection}
use Rattle.image_names.specs.declared.fault.GraphFault.{GraphFault}
use Rattle.image_names.specs.declared.fault.GraphFault.TheVariants.{NameClash}
use Rattle.image_names.specs.Clashes.{again, built_fulls, clash_with, full_clash, full_of, image_again, image_clash}
use Rattle.image_names.specs.Images.{all_names, is_built}
use Rattle.image_names.specs.Laws.{HasFull, HasName, ImagesExactly, IsFirstImage, IsFirstTwice, TwiceExactly}
use Rattle.image_names.specs.Names.{holds}
use Rattle.image_names.proofs.CheckLemmas.{AreNew, ImagesNew, again_apart, again_new, images_apart, images_fresh, images_more, new_cons}

-- ---- a name that is held stands in the list

there_next : (first : List ℕ) (names : List (List ℕ)) (name : List ℕ) → Contains names name → Contains (first ∷ names) name
there_next first names name h = (suc h.0, omega (arith, h.1), h.2)

there_case : (first : List ℕ) (names : List (List ℕ)) (name : List ℕ) (b : Bool) → bytes_eq name first ≡ b → (b || holds names name) ≡ true → (holds names name ≡ true → Contains names name) → Contains (first ∷ names) name
there_case first names name true same h rest = (0, omega arith, sym ((bytes_eq-Decides name first).0 same))
there_case first names name false same h rest = there_next first names name (rest h)

pub held_there : (names : List (List ℕ)) (name : List ℕ) → holds names name ≡ true → Contains names name
held_there [] name h = cc
held_there (first ∷ names) name h = there_case first names name (bytes_eq name first) refl h (held_there names name)

-- and one that stands in it is held
there_held_at : (names : List (List ℕ)) (name : List ℕ) (k : ℕ) → k < length names → slice_index_or names k name ≡ name → holds names name ≡ true
there_held_at [] name k below is = absurd (omega arith)
there_held_at (first ∷ names) name zero below is = ap (λ b. b || holds names name) ((bytes_eq-Decides name first).1 (sym is))
there_held_at (first ∷ names) name (suc k) below is = at_right (bytes_eq name first) (there_held_at names name k (omega arith) is)
  where
    at_right : (b : Bool) → holds names name ≡ true → (b || holds names name) ≡ true
    at_right true h = refl
    at_right false h = h

pub there_held : (names : List (List ℕ)) (name : List ℕ) → Contains names name → holds names name ≡ true
there_held names name there = there_held_at names name there.0 there.1 there.2

-- ---- names

-- from a name on, behind earlier ones
record FoundAgain (earlier names : List (List ℕ)) (fault : GraphFault) : Type 0 where
  front : List (List ℕ)
  name : List ℕ
  rest : List (List ℕ)
  is : names ≡ front ++ name ∷ rest
  twice : holds (earlier ++ front) name ≡ true
  new : AreNew earlier front
  fault_is : fault ≡ NameClash name

append_nil : {X : Type 0} (xs : List X) → xs ++ [] ≡ xs
append_nil [] = refl
append_nil (x ∷ xs) = ap (λ ys. x ∷ ys) (append_nil xs)

again_case : (earlier : List (List ℕ)) (name : List ℕ) (names : List (List ℕ)) (fault : GraphFault) (b : Bool) → holds earlier name ≡ b → option_or (cond b (Some (NameClash name)) None) (again (earlier ++ name ∷ []) names) ≡ Some fault → (again (earlier ++ name ∷ []) names ≡ Some fault → FoundAgain (earlier ++ name ∷ []) names fault) → FoundAgain earlier (name ∷ names) fault
again_case earlier name names fault true held h later =
    let same : NameClash name ≡ fault = cc in
    record { front = []; name = name; rest = names; is = refl; twice = ap (λ ns. holds ns name) (append_nil earlier) ∙ held; new = again_new earlier [] refl; fault_is = sym same }
again_case earlier name names fault false held h later =
    let found = later h in
    record {
      front = name ∷ found.front;
      name = found.name;
      rest = found.rest;
      is = ap (λ ns. name ∷ ns) found.is;
      twice = ap (λ ns. holds ns found.name) (sym (append_assoc earlier (name ∷ []) found.front)) ∙ found.twice;
      new = new_cons earlier name found.front held found.new;
      fault_is = found.fault_is;
    }

found_again : (earlier names : List (List ℕ)) (fault : GraphFault) → again earlier names ≡ Some fault → FoundAgain earlier names fault
found_again earlier [] fault h = cc
found_again earlier (name ∷ names) fault h = again_case earlier name names fault (holds earlier name) refl h (found_again (earlier ++ name ∷ []) names fault)

first_twice : (names : List (List ℕ)) (fault : GraphFault) → again [] names ≡ Some fault → IsFirstTwice names fault
first_twice names fault h =
    let found = found_again [] names fault h in
    record { front = found.front; name = found.name; rest = found.rest; is = found.is; twice = held_there found.front found.name found.twice; apart = found.new.apart; fault_is = found.fault_is }

pub twice_exactly : TwiceExactly
twice_exactly = record { some = first_twice; none = again_apart }

-- ---- images

-- what is refused of one image behind earlier ones
abbrev Clashing : List ℕ → List ImageSection → ImageSection → GraphFault → Type 0
Clashing output earlier image fault = HasName earlier image fault ⊎ HasFull output earlier image fault

full_case : (output : List ℕ) (earlier : List ImageSection) (image : ImageSection) (fault : GraphFault) (b t : Bool) → is_built image ≡ b → holds (built_fulls output earlier) (full_of output image) ≡ t → holds (all_names earlier) image.name ≡ false → cond b (cond t (Some (NameClash (full_of output image))) None) None ≡ Some fault → Clashing output earlier image fault
full_case output earlier image fault false t built held new h = cc
full_case output earlier image fault true false built held new h = cc
full_case output earlier image fault true true built held new h =
    let same : NameClash (full_of output image) ≡ fault = cc in
    inr (record {
      new = λ there. (let known : holds (all_names earlier) image.name ≡ true = there_held (all_names earlier) image.name there in cc);
      built = built;
      twice = held_there (built_fulls output earlier) (full_of output image) held;
      fault_is = sym same;
    })

name_case : (output : List ℕ) (earlier : List ImageSection) (image : ImageSection) (fault : GraphFault) (b : Bool) → holds (all_names earlier) image.name ≡ b → option_or (cond b (Some (NameClash image.name)) None) (full_clash (built_fulls output earlier) output image) ≡ Some fault → Clashing output earlier image fault
name_case output earlier image fault true held h = (let same : NameClash image.name ≡ fault = cc in inl (record { twice = held_there (all_names earlier) image.name held; fault_is = sym same }))
name_case output earlier image fault false held h = full_case output earlier image fault (is_built image) (holds (built_fulls output earlier) (full_of output image)) refl refl held h

clashing : (output : List ℕ) (earlier : List ImageSection) (image : ImageSection) (fault : GraphFault) → clash_with (all_names earlier) (built_fulls output earlier) output image ≡ Some fault → Clashing output earlier image fault
clashing output earlier image fault h = name_case output earlier image fault (holds (all_names earlier) image.name) refl h

record FoundImage (output : List ℕ) (earlier images : List ImageSection) (fault : GraphFault) : Type 0 where
  front : List ImageSection
  image : ImageSection
  rest : List ImageSection
  is : images ≡ front ++ image ∷ rest
  new : ImagesNew output earlier front
  twice : Clashing output (earlier ++ front) image fault

image_case : (output : List ℕ) (earlier : List ImageSection) (image : ImageSection) (images : List ImageSection) (fault : GraphFault) (o : Option GraphFault) → clash_with (all_names earlier) (built_fulls output earlier) output image ≡ o → option_or o (image_again output (earlier ++ image ∷ []) images) ≡ Some fault → (image_again output (earlier ++ image ∷ []) images ≡ Some fault → FoundImage output (earlier ++ image ∷ []) images fault) → FoundImage output earlier (image ∷ images) fault
image_case output earlier image images fault (Some found) clash h later =
    let same : Some found ≡ Some fault = h in
    let here : Clashing output earlier image fault = clashing output earlier image fault (clash ∙ same) in
    record { front = []; image = image; rest = images; is = refl; new = images_fresh output earlier; twice = subst (λ (ys : List ImageSection). Clashing output ys image fault) (sym (append_nil earlier)) here }
image_case output earlier image images fault None clash h later =
    let found = later h in
    record {
      front = image ∷ found.front;
      image = found.image;
      rest = found.rest;
      is = ap (λ xs. image ∷ xs) found.is;
      new = images_more output earlier image found.front clash found.new;
      twice = subst (λ (ys : List ImageSection). Clashing output ys found.image fault) (append_assoc earlier (image ∷ []) found.front) found.twice;
    }

found_image : (output : List ℕ) (earlier images : List ImageSection) (fault : GraphFault) → image_again output earlier images ≡ Some fault → FoundImage output earlier images fault
found_image output earlier [] fault h = cc
found_image output earlier (image ∷ images) fault h =
    image_case output earlier image images fault (clash_with (all_names earlier) (built_fulls output earlier) output image) refl h (found_image output (earlier ++ image ∷ []) images fault)

first_image : (output : List ℕ) (images : List ImageSection) (fault : GraphFault) → image_clash output images ≡ Some fault → IsFirstImage output images fault
first_image output images fault h =
    let found = found_image output [] images fault h in
    record { front = found.front; image = found.image; rest = found.rest; is = found.is; apart = found.new.names.apart; fulls_apart = found.new.fulls.apart; twice = found.twice }

pub images_exactly : ImagesExactly
images_exactly = record {
  some = first_image;
  names = λ output images h. (images_apart output images h).names.apart;
  fulls = λ output images h. (images_apart output images h).fulls.apart;
}
