-- Chains over the first images alone: one more image lets through those that go by it.
use Rattle.std.proofs.Common.{◌≡◌, ℕ, zero, suc, ◌<◌, ◌≤◌, ◌||◌, ◌&&◌, ◌⊎◌, inl, inr, List, [], ◌∷◌, ◌++◌, Bool, true, false, refl, ap, sym, subst, ◌∙◌, nat_eq, max, map, take, get_or, length, arith, w64, ◌+◌, ◌*◌, ◌%◌, ◌^◌}
use Rattle.std.specs.Prelude.{◌≢◌, Contains, slice_index, unwrap_or}
use Rattle.std.specs.Int.{bit_at}
use Rattle.std.specs.Int.RustNames.{bit_or}
use Rattle.std.proofs.lemmas.Bool.{eq-eqb, eqb-true}
use Rattle.std.proofs.lemmas.List.{get_or-map, get_or_append_left, length-map, length_push}
use Rattle.std.proofs.lemmas.Grind.{get_or_default_zero}
use Rattle.std.proofs.lemmas.List.Folds.{list_any_more}
use Rattle.std.proofs.lemmas.Option.{slice_get_read}
use Rattle.std.proofs.Math.Seq.{get_or-append_seam}
use Rattle.std.proofs.lemmas.Nat.Bits.{bit_at-lt, bit_at_or, bit_at_set_other, bit_at_set_same}
use Rattle.image_order.specs.Chains.{HasCycle, IsChain, children, returns}
use Rattle.image_order.specs.Order.{is_placed}
use Rattle.image_order.specs.Sets.{IsAdded, IsSetOf, Tells, has, joined, leads}
use Rattle.image_order.proofs.ChainLemmas.{chain-append, chain_below, returns_exactly}
use Rattle.image_order.proofs.Members.{Below, by_test, contains_placed, placed_from}

-- ---- tests

either : (a b : Bool) → (a || b) ≡ true → (a ≡ true) ⊎ (b ≡ true)
either true b h = inl refl
either false b h = inr h

both : (a b : Bool) → (a && b) ≡ true → (a ≡ true) × (b ≡ true)
both true true h = (refl, refl)
both true false h = cc
both false b h = cc

of_left : (a b : Bool) → a ≡ true → (a || b) ≡ true
of_left true b h = refl
of_left false b h = cc

of_right : (a b : Bool) → b ≡ true → (a || b) ≡ true
of_right true b h = refl
of_right false b h = h

of_both : (a b : Bool) → a ≡ true → b ≡ true → (a && b) ≡ true
of_both true b h t = t
of_both false b h t = cc

or_false : (b : Bool) → b ≡ (b || false)
or_false true = refl
or_false false = refl

-- two tests that pass alike
pub same_test : (a b : Bool) → (a ≡ true → b ≡ true) → (b ≡ true → a ≡ true) → a ≡ b
same_test true b to from = sym (to refl)
same_test false true to from = from refl
same_test false false to from = refl

-- ---- what is told is a chain over the first images

-- a chain leads there over images below a number alone
abbrev pub Leads : List (List ℕ) → ℕ → ℕ → ℕ → Type 0
Leads families middle from to = (between : List ℕ) × IsChain families from between to × Below middle between

below_more : (n : ℕ) (xs : List ℕ) → Below n xs → Below (suc n) xs
below_more n [] b = tt
below_more n (x ∷ xs) b = (omega (arith, b.0), below_more n xs b.1)

below_join : (n : ℕ) (xs : List ℕ) (x : ℕ) (ys : List ℕ) → Below n xs → x < n → Below n ys → Below n (xs ++ x ∷ ys)
below_join n [] x ys first less second = (less, second)
below_join n (z ∷ xs) x ys first less second = (first.0, below_join n xs x ys first.1 less second)

leads_more : (families : List (List ℕ)) (middle from to : ℕ) → Leads families middle from to → Leads families (suc middle) from to
leads_more families middle from to way = (way.0, way.1, below_more middle way.0 way.2)

leads_over : (families : List (List ℕ)) (middle from to : ℕ) → Leads families middle from middle → Leads families middle middle to → Leads families (suc middle) from to
leads_over families middle from to first second =
    (first.0 ++ middle ∷ second.0, chain-append families from first.0 middle second.0 to first.1 second.1, below_join (suc middle) first.0 middle second.0 (below_more middle first.0 first.2) (omega arith) (below_more middle second.0 second.2))

pub leads_told : (families : List (List ℕ)) (middle from to : ℕ) → leads families middle from to ≡ true → Leads families middle from to
leads_told families zero from to h = ([], contains_placed (children families from) to h, tt)
leads_told families (suc middle) from to h = elim (either (leads families middle from to) (leads families middle from middle && leads families middle middle to) h) [
  | inl before ↦ leads_more families middle from to (leads_told families middle from to before)
  | inr over ↦ (let parts = both (leads families middle from middle) (leads families middle middle to) over in
      leads_over families middle from to (leads_told families middle from middle parts.0) (leads_told families middle middle to parts.1))
]

-- ---- each such chain is told

-- one that goes over one more image goes over the others alone, or to it and from it
abbrev Splits : List (List ℕ) → ℕ → ℕ → ℕ → Type 0
Splits families middle from to = Leads families middle from to ⊎ (Leads families middle from middle × Leads families middle middle to)

-- one step more in front
leads_next : (families : List (List ℕ)) (middle from next to : ℕ) → Contains (children families from) next → next < middle → Leads families middle next to → Leads families middle from to
leads_next families middle from next to step less way = (next ∷ way.0, (step, way.1), (less, way.2))

leads_step : (families : List (List ℕ)) (middle from to : ℕ) → Contains (children families from) to → Leads families middle from to
leads_step families middle from to step = ([], step, tt)

next_splits : (families : List (List ℕ)) (middle from next to : ℕ) → Contains (children families from) next → (next < middle) ⊎ (next ≡ middle) → Splits families middle next to → Splits families middle from to
next_splits families middle from next to step (inl less) (inl way) = inl (leads_next families middle from next to step less way)
next_splits families middle from next to step (inl less) (inr ways) = inr (leads_next families middle from next middle step less ways.0, ways.1)
next_splits families middle from next to step (inr same) (inl way) =
    inr (leads_step families middle from middle (subst (λ (z : ℕ). Contains (children families from) z) same step), subst (λ (z : ℕ). Leads families middle z to) same way)
next_splits families middle from next to step (inr same) (inr ways) =
    inr (leads_step families middle from middle (subst (λ (z : ℕ). Contains (children families from) z) same step), ways.1)

less_or_same : (n m : ℕ) → n < suc m → (n < m) ⊎ (n ≡ m)
less_or_same n m h = by_test (nat_eq n m) (λ same. inr (eqb-true n m same)) (λ other. (let apart : n ≡ m → ⊥ = λ same. (let passing : nat_eq n m ≡ true = eq-eqb n m same in cc) in inl (omega arith)))

splits : (families : List (List ℕ)) (middle from to : ℕ) (between : List ℕ) → IsChain families from between to → Below (suc middle) between → Splits families middle from to
splits families middle from to [] chain below = inl (leads_step families middle from to chain)
splits families middle from to (next ∷ rest) chain below =
    next_splits families middle from next to chain.0 (less_or_same next middle below.0) (splits families middle next to rest chain.1 below.1)

none_below : (xs : List ℕ) → Below 0 xs → xs ≡ []
none_below [] b = refl
none_below (x ∷ xs) b = let less : x < 0 = b.0 in absurd (omega arith)

pub leads_all : (families : List (List ℕ)) (middle from to : ℕ) → Leads families middle from to → leads families middle from to ≡ true
leads_all families zero from to way =
    let direct : IsChain families from [] to = subst (λ (xs : List ℕ). IsChain families from xs to) (none_below way.0 way.2) way.1 in
    placed_from (children families from) to direct
leads_all families (suc middle) from to way = elim (splits families middle from to way.0 way.1 way.2) [
  | inl before ↦ of_left (leads families middle from to) _ (leads_all families middle from to before)
  | inr ways ↦ of_right (leads families middle from to) _ (of_both (leads families middle from middle) (leads families middle middle to) (leads_all families middle from middle ways.0) (leads_all families middle middle to ways.1))
]

-- over all images: those from which one returns
pub leads_back : (families : List (List ℕ)) (image : ℕ) → leads families (length families) image image ≡ returns families image
leads_back families image =
    same_test (leads families (length families) image image) (returns families image)
    (λ told. (let way = leads_told families (length families) image image told in (returns_exactly families image).1 (way.0, way.1)))
    (λ found. (let cycle : HasCycle families image = (returns_exactly families image).0 found in
    leads_all families (length families) image image (cycle.0, cycle.1, (chain_below families image cycle.0 image cycle.1).1)))

-- ---- a step of the code

has_or : (a b image : ℕ) → has (bit_or a b) image ≡ (has a image || has b image)
has_or a b image = ap (λ n. nat_eq n 1) (bit_at_or a b image) ∙ of_bits (bit_at a image) (bit_at b image) (bit_at-lt a image) (bit_at-lt b image)
  where
    of_bits : (x y : ℕ) → x < 2 → y < 2 → nat_eq (max x y) 1 ≡ (nat_eq x 1 || nat_eq y 1)
    of_bits zero zero p q = refl
    of_bits zero (suc zero) p q = refl
    of_bits zero (suc (suc y)) p q = absurd (omega arith)
    of_bits (suc zero) zero p q = refl
    of_bits (suc zero) (suc zero) p q = refl
    of_bits (suc zero) (suc (suc y)) p q = absurd (omega arith)
    of_bits (suc (suc x)) y p q = absurd (omega arith)

has_joined : (through middle set image : ℕ) → has (joined through middle set) image ≡ (has set image || (has set middle && has through image))
has_joined through middle set image = by_case (has set middle) refl
  where
    by_case : (b : Bool) → has set middle ≡ b → has (joined through middle set) image ≡ (has set image || (has set middle && has through image))
    by_case true h = rw h (has_or set through image)
    by_case false h = rw h (or_false (has set image))

pub has_added : (set child new : ℕ) → child < 64 → new ≡ bit_or set (1 * 2 ^ child % 2 ^ 64) → IsAdded set child new
has_added set child new small is image below = by_test (nat_eq image child)
    (λ same. (let here : image ≡ child = eqb-true image child same in
    ap (λ n. has n image) is ∙ ap (has (bit_or set (1 * 2 ^ child % 2 ^ 64))) here ∙ ap (λ n. nat_eq n 1) (bit_at_set_same w64 set child small) ∙ sym (of_right (has set image) (nat_eq image child) same)))
    (λ other. (let apart : image ≢ child = λ same. (let equal : nat_eq image child ≡ true = eq-eqb image child same in cc) in
    ap (λ n. has n image) is ∙ ap (λ n. nat_eq n 1) (bit_at_set_other w64 set child small image apart) ∙ sym (ap (λ b. has set image || b) other ∙ sym (or_false (has set image)))))

pub added_none : (set child : ℕ) → 64 ≤ child → IsAdded set child set
added_none set child far image below = by_test (nat_eq image child)
    (λ same. (let here : image ≡ child = eqb-true image child same in absurd (omega arith)))
    (λ other. or_false (has set image) ∙ sym (ap (λ b. has set image || b) other))

-- one more child
pub set_more : (children : List ℕ) (i : ℕ) (set new : ℕ) → i < length children → IsSetOf (take i children) set → IsAdded set (get_or children i 0) new → IsSetOf (take (i + 1) children) new
set_more children i set new below so_far more image small =
    more image small
    ∙ ap (λ b. b || nat_eq image (get_or children i 0)) (so_far image small)
    ∙ sym (list_any_more (nat_eq image) children i 0 below)

-- the sets of the first images alone
pub record TellFirst (families : List (List ℕ)) (n : ℕ) (sets : List ℕ) : Type 0 where
  pub count : length sets ≡ n
  pub each : (from to : ℕ) → from < n → to < 64 → has (slice_index sets from) to ≡ is_placed (children families from) to

-- the set of one more image's children
pub tell_push : (families : List (List ℕ)) (i : ℕ) (sets new : List ℕ) (cs : List ℕ) (set : ℕ) → i < length families → TellFirst families i sets → cs ≡ get_or families i cs → IsSetOf cs set → new ≡ sets ++ set ∷ [] → TellFirst families (i + 1) new
tell_push families i sets new cs set below told read is e =
    let count : length new ≡ length sets + 1 = ap length e ∙ length_push sets set in
    let here : children families i ≡ cs = ap (λ o. unwrap_or o []) (slice_get_read families (length families) i cs refl below read) in
    record {
      count = omega (arith, count, told.count);
      each = λ from to less small. elim (less_or_same from i (omega (arith, less))) [
        | inl before ↦ (let known : from < length sets = omega (arith, told.count) in
            ap (λ xs. has (slice_index xs from) to) e ∙ ap (λ n. has n to) (get_or_append_left sets (set ∷ []) 0 from known) ∙ told.each from to before small)
        | inr last ↦ (let at_end : from ≡ length sets = omega (arith, told.count) in
            ap (λ xs. has (slice_index xs from) to) e
            ∙ ap (λ k. has (slice_index (sets ++ set ∷ []) k) to) at_end
            ∙ ap (λ n. has n to) (get_or-append_seam sets set [] 0)
            ∙ is to small
            ∙ sym (ap (λ k. is_placed (children families k) to) last ∙ ap (λ xs. is_placed xs to) here))
      ];
    }

pub tells_first : (families : List (List ℕ)) (n : ℕ) (sets : List ℕ) → n ≡ length families → TellFirst families n sets → Tells families 0 sets
tells_first families n sets all told = record { count = told.count ∙ all; each = λ from to below small. told.each from to (omega (arith, all)) small }

pub tells_more : (families : List (List ℕ)) (middle : ℕ) (sets new : List ℕ) → Tells families middle sets → middle < length families → length families ≤ 64 → new ≡ map (joined (slice_index sets middle) middle) sets → Tells families (suc middle) new
tells_more families middle sets new told within few is = record {
  count = ap length is ∙ length-map sets (joined (slice_index sets middle) middle) ∙ told.count;
  each = λ from to below small.
      let long : from < length sets = omega (arith, told.count) in
      let here : slice_index new from ≡ joined (slice_index sets middle) middle (slice_index sets from) = ap (λ xs. slice_index xs from) is ∙ get_or-map (joined (slice_index sets middle) middle) sets from 0 0 long in
      ap (λ set. has set to) here
      ∙ has_joined (slice_index sets middle) middle (slice_index sets from) to
      ∙ ap (λ b. b || (has (slice_index sets from) middle && has (slice_index sets middle) to)) (told.each from to below small)
      ∙ ap (λ b. leads families middle from to || (b && has (slice_index sets middle) to)) (told.each from middle below (omega arith))
      ∙ ap (λ b. leads families middle from to || (leads families middle from middle && b)) (told.each middle to within small);
}

-- whether a set of all chains has its own image
pub tells_cycle : (families : List (List ℕ)) (sets : List ℕ) (image set : ℕ) → Tells families (length families) sets → length families ≤ 64 → image < length families → set ≡ get_or sets image set → returns families image ≡ has set image
tells_cycle families sets image set told few within read =
    let here : set ≡ slice_index sets image = read ∙ get_or_default_zero sets image set (omega (arith, told.count)) in
    sym (ap (λ n. has n image) here ∙ told.each image image within (omega arith) ∙ leads_back families image)
