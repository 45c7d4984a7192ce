-- The order in which images are built.
use Rattle.std.specs.Prelude.{◌≡◌, ℕ, zero, suc, ◌<◌, nat_eq, Bool, List, [], ◌∷◌, ◌++◌, All, Contains, count_by, fold, length, if◌then◌else◌}
use Rattle.std.specs.List.{list_any, range_with_len}
use Rattle.image_order.specs.Chains.{children}

abbrev pub is_placed : List ℕ → ℕ → Bool
is_placed order image = list_any (nat_eq image) order

-- the order with an image: unless it is there already, those of its children that aren't come first, and it is last.
-- So many images may stand one below another
abbrev pub with_image : List (List ℕ) → ℕ → List ℕ → ℕ → List ℕ
with_image families zero order image = order
with_image families (suc depth) order image =
    if is_placed order image then order else fold (with_image families depth) order (children families image) ++ image ∷ []

-- all images in the order of the text
abbrev pub order_among : List (List ℕ) → List ℕ
order_among families = fold (with_image families (length families)) [] (range_with_len 0 (length families))

-- placing images one after another makes a longer order of an order: one that is there already stays where it is, and
-- another comes last, behind its children, which are placed before it
pub data Places (families : List (List ℕ)) : List ℕ → List ℕ → List ℕ → Type 0 where
  NoneLeft : (order : List ℕ) → Places families [] order order
  There : (image : ℕ) (rest order after : List ℕ) → Contains order image → Places families rest order after → Places families (image ∷ rest) order after
  Behind : (image : ℕ) (rest order below after : List ℕ) → (Contains order image → ⊥) → Places families (children families image) order below → Places families rest (below ++ image ∷ []) after → Places families (image ∷ rest) order after

-- each image stands in the order once, and behind its children
pub record IsOrder (families : List (List ℕ)) (order : List ℕ) : Type 0 where
  pub once : (image : ℕ) → image < length families → count_by (nat_eq image) order ≡ 1
  pub only : All (λ image. image < length families) order
  pub behind : (front : List ℕ) (image : ℕ) (rest : List ℕ) → order ≡ front ++ (image ∷ rest) → All (Contains front) (children families image)
