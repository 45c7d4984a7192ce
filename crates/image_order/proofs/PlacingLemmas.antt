-- Images that are placed one after another stand in order.
use Rattle.std.proofs.Common.{◌≡◌, ℕ, zero, suc, ◌+◌, ◌<◌, ◌≤◌, ◌⊎◌, inl, inr, List, [], ◌∷◌, ◌++◌, true, false, refl, ap, sym, subst, ◌∙◌, ◌||◌, nat_eq, append_assoc, length, arith}
use Rattle.std.specs.Prelude.{All, Contains, fold}
use Rattle.std.specs.List.{AllByRecursion, range_with_len}
use Rattle.std.proofs.lemmas.List.Elements.{All-cons, All-from_recursion, All-nil}
use Rattle.std.proofs.lemmas.Bool.{eq-eqb}
use Rattle.image_order.specs.Chains.{AreNumbered, HasNone, IsChain, children}
use Rattle.image_order.specs.Laws.{OrderPlaces, OrderStands}
use Rattle.image_order.specs.Order.{Behind, IsOrder, NoneLeft, Places, There, is_placed, order_among, with_image}
use Rattle.image_order.proofs.ChainLemmas.{chain-append}
use Rattle.image_order.proofs.Members.{Below, Distinct, below_push, by_test, contains_here, contains_next, contains_placed, count_once, distinct_push, never_both, new_from, pigeon, placed_append, placed_cons, placed_from, placed_here, placed_left, placed_next, placed_right}

abbrev HasChain : List (List ℕ) → ℕ → ℕ → Type 0
HasChain families from to = (between : List ℕ) × IsChain families from between to

-- ---- no more images stand one below another than there are

-- so many at most stand one below another from an image on
abbrev IsLow : List (List ℕ) → ℕ → ℕ → Type 0
IsLow families zero image = ⊥
IsLow families (suc depth) image = (child : ℕ) → Contains (children families image) child → IsLow families depth child

-- an image at the end of a path of different ones, from each of which a chain leads to it
low : (families : List (List ℕ)) → HasNone families → AreNumbered families → (depth image : ℕ) (path : List ℕ) → image < length families → Distinct (image ∷ path) → Below (length families) path → length path + depth ≡ length families → ((above : ℕ) → is_placed path above ≡ true → HasChain families above image) → IsLow families depth image
low families none numbers zero image path within d b long chains =
    let few : length (image ∷ path) ≤ length families = pigeon (length families) (image ∷ path) d (within, b) in
    omega arith
low families none numbers (suc depth) image path within d b long chains = λ child step.
    let cycle : is_placed (image ∷ path) child ≡ true → ⊥ = λ there. none child (elim (placed_cons image path child there) [
      | inl same ↦ ([], subst (λ (z : ℕ). Contains (children families z) child) (sym same) step)
      | inr up ↦ (let chain = chains child up in (chain.0 ++ image ∷ [], chain-append families child chain.0 image [] child chain.1 step))
    ]) in
    low families none numbers depth child (image ∷ path) (numbers image child step) (new_from (image ∷ path) child cycle, d) (within, b) (omega arith)
    (λ above there. elim (placed_cons image path above there) [
      | inl same ↦ ([], subst (λ (z : ℕ). Contains (children families z) child) (sym same) step)
      | inr up ↦ (let chain = chains above up in (chain.0 ++ image ∷ [], chain-append families above chain.0 image [] child chain.1 step))
    ])

pub all_low : (families : List (List ℕ)) → HasNone families → AreNumbered families → (image : ℕ) → image < length families → IsLow families (length families) image
all_low families none numbers image within =
    low families none numbers (length families) image [] within (refl, tt) tt (omega arith) (λ above there. absurd (never_both [] above refl there))

-- ---- whatever holds of placing no image, one that is there, and one behind its children holds of the order

module _ (families : List (List ℕ)) (P : List ℕ → List ℕ → List ℕ → Type 0)
    (nothing : (order : List ℕ) → P [] order order)
    (there : (image : ℕ) (rest order after : List ℕ) → is_placed order image ≡ true → P rest order after → P (image ∷ rest) order after)
    (behind : (image : ℕ) (rest order below after : List ℕ) → is_placed order image ≡ false → P (children families image) order below → P rest (below ++ image ∷ []) after → P (image ∷ rest) order after) where
  each : (depth : ℕ) → ((image : ℕ) (rest order after : List ℕ) → IsLow families depth image → P rest (with_image families depth order image) after → P (image ∷ rest) order after) → (images order : List ℕ) → ((image : ℕ) → Contains images image → IsLow families depth image) → P images order (fold (with_image families depth) order images)
  each depth one [] order lows = nothing order
  each depth one (image ∷ images) order lows =
      one image images order _ (lows image (contains_here image images)) (each depth one images (with_image families depth order image) (λ later h. lows later (contains_next image images later h)))

  one : (depth image : ℕ) (rest order after : List ℕ) → IsLow families depth image → P rest (with_image families depth order image) after → P (image ∷ rest) order after
  one zero image rest order after is_low p = absurd is_low
  one (suc depth) image rest order after is_low p =
      by_test (is_placed order image)
      (λ placed. there image rest order after placed (subst (λ (o : List ℕ). P rest o after) (rw placed refl) p))
      (λ new. behind image rest order (fold (with_image families depth) order (children families image)) after new (each depth (one depth) (children families image) order is_low) (subst (λ (o : List ℕ). P rest o after) (rw new refl) p))

  pub placing : (depth : ℕ) (images order : List ℕ) → ((image : ℕ) → Contains images image → IsLow families depth image) → P images order (fold (with_image families depth) order images)
  placing depth images order lows = each depth (one depth) images order lows

-- ---- the order without a limit

pub places : (families : List (List ℕ)) (depth : ℕ) (images order : List ℕ) → ((image : ℕ) → Contains images image → IsLow families depth image) → Places families images order (fold (with_image families depth) order images)
places families =
    placing families (Places families)
    (λ order. NoneLeft order)
    (λ image rest order after placed p. There image rest order after (contains_placed order image placed) p)
    (λ image rest order below after new first second. Behind image rest order below after (λ h. never_both order image new (placed_from order image h)) first second)

-- ---- what holds of an order

-- the children of each image stand before it
abbrev AreBehind : List (List ℕ) → List ℕ → List ℕ → Type 0
AreBehind families before [] = Unit {0}
AreBehind families before (image ∷ rest) = ((child : ℕ) → Contains (children families image) child → is_placed before child ≡ true) × AreBehind families (before ++ image ∷ []) rest

append_nil : (xs : List ℕ) → xs ++ [] ≡ xs
append_nil [] = refl
append_nil (x ∷ xs) = ap (λ ys. x ∷ ys) (append_nil xs)

behind_push : (families : List (List ℕ)) (before order : List ℕ) (image : ℕ) → AreBehind families before order → ((child : ℕ) → Contains (children families image) child → is_placed (before ++ order) child ≡ true) → AreBehind families before (order ++ image ∷ [])
behind_push families before [] image b last = ((λ child h. rw (sym (append_nil before)) (last child h)), tt)
behind_push families before (first ∷ order) image b last =
    (b.0, behind_push families (before ++ first ∷ []) order image b.1 (λ child h. rw append_assoc (last child h)))

behind_at : (families : List (List ℕ)) (before front : List ℕ) (image : ℕ) (rest : List ℕ) → AreBehind families before (front ++ (image ∷ rest)) → (child : ℕ) → Contains (children families image) child → is_placed (before ++ front) child ≡ true
behind_at families before [] image rest b child h = placed_left before [] child (b.0 child h)
behind_at families before (first ∷ front) image rest b child h =
    let same : (before ++ first ∷ []) ++ front ≡ before ++ (first ∷ front) = rw append_assoc refl in
    subst (λ (xs : List ℕ). is_placed xs child ≡ true) same (behind_at families (before ++ first ∷ []) front image rest b.1 child h)

below_all : (n : ℕ) (xs : List ℕ) → Below n xs → AllByRecursion (λ x. x < n) xs
below_all n [] b = tt
below_all n (x ∷ xs) b = (b.0, below_all n xs b.1)

-- all of a list are in another
all_in : (front xs : List ℕ) → ((x : ℕ) → Contains xs x → is_placed front x ≡ true) → All (Contains front) xs
all_in front [] h = All-nil (Contains front)
all_in front (x ∷ xs) h = All-cons (Contains front) x xs (contains_placed front x (h x (contains_here x xs))) (all_in front xs (λ y there. h y (contains_next x xs y there)))

record IsGood (families : List (List ℕ)) (order : List ℕ) : Type 0 where
  distinct : Distinct order
  within : Below (length families) order
  behind : AreBehind families [] order

-- it is one of the images, or a chain leads to it from one
abbrev Comes : List (List ℕ) → List ℕ → ℕ → Type 0
Comes families images x = (image : ℕ) × (is_placed images image ≡ true) × ((x ≡ image) ⊎ HasChain families image x)

-- placing images makes a good order of a good one, of what was there and of what comes of the images
record Puts (families : List (List ℕ)) (images order after : List ℕ) : Type 0 where
  kept : (x : ℕ) → is_placed order x ≡ true → is_placed after x ≡ true
  all : (x : ℕ) → is_placed images x ≡ true → is_placed after x ≡ true
  comes : (x : ℕ) → is_placed after x ≡ true → (is_placed order x ≡ true) ⊎ Comes families images x
  good : IsGood families order → ((x : ℕ) → is_placed images x ≡ true → x < length families) → IsGood families after

puts_nothing : (families : List (List ℕ)) (order : List ℕ) → Puts families [] order order
puts_nothing families order = record { kept = λ x h. h; all = λ x h. absurd (never_both [] x refl h); comes = λ x h. inl h; good = λ g b. g }

comes_later : (families : List (List ℕ)) (image : ℕ) (rest : List ℕ) (x : ℕ) → Comes families rest x → Comes families (image ∷ rest) x
comes_later families image rest x h = (h.0, placed_next image rest h.0 h.1, h.2)

puts_there : (families : List (List ℕ)) (image : ℕ) (rest order after : List ℕ) → is_placed order image ≡ true → Puts families rest order after → Puts families (image ∷ rest) order after
puts_there families image rest order after placed p = record {
  kept = p.kept;
  all = λ x h. elim (placed_cons image rest x h) [ inl same ↦ p.kept x (ap (is_placed order) same ∙ placed) | inr later ↦ p.all x later ];
  comes = λ x h. elim (p.comes x h) [ inl before ↦ inl before | inr of ↦ inr (comes_later families image rest x of) ];
  good = λ g b. p.good g (λ x h. b x (placed_next image rest x h));
}

-- of the children of an image comes what comes of it by a chain
comes_below : (families : List (List ℕ)) (image x : ℕ) → Comes families (children families image) x → HasChain families image x
comes_below families image x h =
    let step : Contains (children families image) h.0 = contains_placed (children families image) h.0 h.1 in
    elim h.2 [
      | inl same ↦ ([], subst (λ (z : ℕ). Contains (children families image) z) (sym same) step)
      | inr chain ↦ (h.0 ∷ chain.0, (step, chain.1))
    ]

-- an image isn't placed by placing its children
not_below : (families : List (List ℕ)) → HasNone families → (image : ℕ) (order below : List ℕ) → is_placed order image ≡ false → Puts families (children families image) order below → is_placed below image ≡ false
not_below families none image order below new p =
    new_from below image (λ there. elim (p.comes image there) [ inl before ↦ never_both order image new before | inr of ↦ none image (comes_below families image image of) ])

good_push : (families : List (List ℕ)) (image : ℕ) (below : List ℕ) → IsGood families below → image < length families → is_placed below image ≡ false → ((child : ℕ) → Contains (children families image) child → is_placed below child ≡ true) → IsGood families (below ++ image ∷ [])
good_push families image below g within new all = record {
  distinct = distinct_push below image g.distinct new;
  within = below_push (length families) below image g.within within;
  behind = behind_push families [] below image g.behind all;
}

puts_behind : (families : List (List ℕ)) → HasNone families → AreNumbered families → (image : ℕ) (rest order below after : List ℕ) → is_placed order image ≡ false → Puts families (children families image) order below → Puts families rest (below ++ image ∷ []) after → Puts families (image ∷ rest) order after
puts_behind families none numbers image rest order below after new p q = record {
  kept = λ x h. q.kept x (placed_left below (image ∷ []) x (p.kept x h));
  all = λ x h. elim (placed_cons image rest x h) [
    | inl same ↦ q.kept x (placed_right below (image ∷ []) x (subst (λ (z : ℕ). is_placed (z ∷ []) x ≡ true) same (placed_here x [])))
    | inr later ↦ q.all x later
  ];
  comes = λ x h. elim (q.comes x h) [
    | inl before ↦ elim (placed_append below (image ∷ []) x before) [
      | inl down ↦ elim (p.comes x down) [ inl old ↦ inl old | inr of ↦ inr (image, placed_here image rest, inr (comes_below families image x of)) ]
      | inr last ↦ elim (placed_cons image [] x last) [ inl same ↦ inr (image, placed_here image rest, inl same) | inr never ↦ absurd (never_both [] x refl never) ]
    ]
    | inr of ↦ inr (comes_later families image rest x of)
  ];
  good = λ g b. q.good (good_push families image below (p.good g (λ x h. numbers image x (contains_placed (children families image) x h))) (b image (placed_here image rest)) (not_below families none image order below new p) (λ child h. p.all child (placed_from (children families image) child h))) (λ x h. b x (placed_next image rest x h));
}

puts : (families : List (List ℕ)) → HasNone families → AreNumbered families → (depth : ℕ) (images order : List ℕ) → ((image : ℕ) → Contains images image → IsLow families depth image) → Puts families images order (fold (with_image families depth) order images)
puts families none numbers = placing families (Puts families) (puts_nothing families) (puts_there families) (puts_behind families none numbers)

-- ---- all images, in the order of the text

range_within : (first n x : ℕ) → is_placed (range_with_len first n) x ≡ true → (first ≤ x) × (x < first + n)
range_within first zero x h = absurd (never_both [] x refl h)
range_within first (suc n) x h = elim (placed_cons first (range_with_len (first + 1) n) x h) [
  | inl same ↦ (omega arith, omega arith)
  | inr later ↦ (let within = range_within (first + 1) n x later in (omega (arith, within.0), omega (arith, within.1)))
]

range_has : (first n x : ℕ) → first ≤ x → x < first + n → is_placed (range_with_len first n) x ≡ true
range_has first zero x low high = absurd (omega arith)
range_has first (suc n) x low high =
    by_test (nat_eq x first)
    (λ same. ap (λ b. b || is_placed (range_with_len (first + 1) n) x) same)
    (λ other.
    let differs : x ≡ first → ⊥ = λ same. never_equal x first other same in
    placed_next first (range_with_len (first + 1) n) x (range_has (first + 1) n x (omega arith) (omega arith)))
  where
    never_equal : (a b : ℕ) → nat_eq a b ≡ false → a ≡ b → ⊥
    never_equal a b other same = (let equal : nat_eq a b ≡ true = eq-eqb a b same in cc)

all_numbers_low : (families : List (List ℕ)) → HasNone families → AreNumbered families → (image : ℕ) → Contains (range_with_len 0 (length families)) image → IsLow families (length families) image
all_numbers_low families none numbers image h = all_low families none numbers image (omega (arith, (range_within 0 (length families) image (placed_from (range_with_len 0 (length families)) image h)).1))

ordered : (families : List (List ℕ)) → HasNone families → AreNumbered families → IsOrder families (order_among families)
ordered families none numbers =
    let n = length families in
    let p = puts families none numbers (length families) (range_with_len 0 (length families)) [] (all_numbers_low families none numbers) in
    let g = p.good (record { distinct = tt; within = tt; behind = tt }) (λ x h. omega (arith, (range_within 0 (length families) x h).1)) in
    record {
      once = λ image within. count_once image (order_among families) g.distinct (p.all image (range_has 0 (length families) image (omega arith) (omega arith)));
      only = All-from_recursion (λ image. image < length families) (order_among families) (below_all (length families) (order_among families) g.within);
      behind = λ front image rest is. all_in front (children families image) (λ child h. behind_at families [] front image rest (subst (λ (o : List ℕ). AreBehind families [] o) is g.behind) child h);
    }

pub order_stands : OrderStands
order_stands families numbers none = ordered families none numbers

pub order_places : OrderPlaces
order_places families numbers none = places families (length families) (range_with_len 0 (length families)) [] (all_numbers_low families none numbers)
