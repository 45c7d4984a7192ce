-- What partitions claim, against one another and against the records of logical ones.
use Rattle.std.specs.Prelude.{◌≡◌, ℕ, suc, ◌+◌, ◌-◌, ◌<◌, ◌≤◌, List, [], ◌∷◌, All, AllPairs, Bool, true, false, not, ◌&&◌, ◌||◌, nat_le, nat_lt, Option, Some, map}
use Rattle.std.specs.List.{list_any}
use Rattle.std.proofs.Common.{refl, ◌∙◌, sym, ap, arith}
use Rattle.std.proofs.lemmas.Bool.{and_from, and_parts, le-leb, leb-true, lt-ltb, ltb-true, or_left, or_right}
use Rattle.std.proofs.lemmas.List.Elements.{All-cons, All-head, All-nil, All-tail}
use Rattle.base_fields.specs.declared.spans.TableKind.{TableKind}
use Rattle.conf_values.specs.declared.values.Hole.{Hole}
use Rattle.image_layout.specs.Layout.{is_claimed}
use Rattle.placement.specs.Layouts.{hole_span, placed_of}
use Rattle.placement_rules.specs.Claims.{claims, in_hole, in_record, in_run, meets, occupies, reach}
use Rattle.placement_rules.specs.Places.{Stood, end_of}
use Rattle.span_cover.specs.Cover.{covers, has}
use Rattle.placement_apart.proofs.Clear.{Passes, meets_none}
use Rattle.placement_apart.proofs.Own.{IsHead, IsSound, record_at}
use Rattle.placement_apart.proofs.Steps.{all_both}

-- ---- runs

same_bool : (a b : Bool) → (a ≡ true → b ≡ true) → (b ≡ true → a ≡ true) → a ≡ b
same_bool true b f g = sym (f refl)
same_bool false true f g = g refl
same_bool false false f g = refl

pub in_run_true : (at len o : ℕ) → at ≤ o → o < at + len → in_run at len o ≡ true
in_run_true at len o low high =
    and_from (nat_le at o) (nat_lt o (at + len)) (le-leb at o low) (lt-ltb o (at + len) high)

pub in_run_is : (at len o : ℕ) → in_run at len o ≡ true → (at ≤ o) × (o < at + len)
in_run_is at len o h =
    let both = and_parts (nat_le at o) (nat_lt o (at + len)) h in
    (leb-true at o both.0, ltb-true o (at + len) both.1)

-- ---- holes, as spans

run_hole : (from to x : ℕ) → in_run from (to - from) x ≡ true → in_hole x (record { from = from; to = to }) ≡ true
run_hole from to x h =
    let is = in_run_is from (to - from) x h in
    let low : from ≤ x = is.0 in
    let high : x < from + (to - from) = is.1 in
    and_from (nat_le from x) (nat_lt x to) (le-leb from x low) (lt-ltb x to (omega arith))

hole_run : (from to x : ℕ) → in_hole x (record { from = from; to = to }) ≡ true → in_run from (to - from) x ≡ true
hole_run from to x h =
    let both = and_parts (nat_le from x) (nat_lt x to) h in
    let low : from ≤ x = leb-true from x both.0 in
    let high : x < to = ltb-true x to both.1 in
    in_run_true from (to - from) x low (omega arith)

hole_same : (hole : Hole) (x : ℕ) → has (hole_span hole) x ≡ in_hole x hole
hole_same hole x =
    same_bool (has (hole_span hole) x) (in_hole x hole) (run_hole hole.from hole.to x) (hole_run hole.from hole.to x)

covers_same : (holes : List Hole) (x : ℕ) → covers (map hole_span holes) x ≡ list_any (in_hole x) holes
covers_same [] x = refl
covers_same (hole ∷ holes) x =
    ap (λ (b : Bool). b || covers (map hole_span holes) x) (hole_same hole x)
    ∙ ap (λ (b : Bool). in_hole x hole || b) (covers_same holes x)

-- a partition of the layout claims what it claims by the rules
pub claim_is : (name : List ℕ) (source : Option (List ℕ)) (whole : Bool) (s : Stood) (o : ℕ) → is_claimed (placed_of name source whole s) o ≡ claims s o
claim_is name source whole s o =
    ap (λ (b : Bool). nat_le s.place.at o && nat_lt o (end_of s) && not b) (covers_same s.holes (o - s.place.at))

pub claim_inside : (s : Stood) (o : ℕ) → claims s o ≡ true → (s.place.at ≤ o) × (o < end_of s)
claim_inside s o h =
    let both = and_parts (in_run s.place.at s.place.size o) (not (list_any (in_hole (o - s.place.at)) s.holes)) h in
    in_run_is s.place.at s.place.size o both.0

pub claim_occupied : (s : Stood) (o : ℕ) → claims s o ≡ true → occupies s o ≡ true
claim_occupied s o h = or_left (claims s o) (in_record s.place.head o) h

in_record_of : (head : Option ℕ) (at o : ℕ) → head ≡ Some at → in_run at 512 o ≡ true → in_record head o ≡ true
in_record_of head at o is h = ap (λ (r : Option ℕ). in_record r o) is ∙ h

pub record_occupied : (s : Stood) (o : ℕ) → IsHead s → record_at s ≤ o → o < record_at s + 512 → occupies s o ≡ true
record_occupied s o head low high =
    or_right (claims s o) (in_record s.place.head o)
    (in_record_of s.place.head (record_at s) o head.there (in_run_true (record_at s) 512 o low high))

-- ---- a partition against a test

-- no claimed offset, and none of the record, passes a test that the partition doesn't meet
pub claim_misses : (s : Stood) (test : ℕ → Bool) (o : ℕ) → meets s test ≡ false → claims s o ≡ true → test o ≡ true → ⊥
claim_misses s test o h claimed passes =
    let inside : o < end_of s = (claim_inside s o claimed).1 in
    let below : o < reach s = omega arith in
    meets_none s test o h below (claim_occupied s o claimed) passes

pub record_misses : (s : Stood) (test : ℕ → Bool) (o : ℕ) → meets s test ≡ false → IsHead s → record_at s ≤ o → o < record_at s + 512 → test o ≡ true → ⊥
record_misses s test o h head low high passes =
    let ahead : record_at s + 512 ≤ s.place.at = head.ahead in
    let below : o < reach s = omega arith in
    meets_none s test o h below (record_occupied s o head low high) passes

-- ---- a claim against a record

-- no offset that the first claims is in the record of the other
abbrev pub IsClean : Stood → Stood → Type 0
IsClean s r = (o : ℕ) → claims s o ≡ true → r.terms.logical ≡ true → record_at r ≤ o → o < record_at r + 512 → ⊥

clean_self : (t : TableKind) (z entries_at : ℕ) (s : Stood) → IsSound t z entries_at s → IsClean s s
clean_self t z entries_at s is o claimed logical low high =
    let ahead : record_at s + 512 ≤ s.place.at = (is.head logical).ahead in
    let at : s.place.at ≤ o = (claim_inside s o claimed).0 in
    absurd (omega arith)

-- the later one's record, and the earlier one's
clean_later : (t : TableKind) (z entries_at : ℕ) (s r : Stood) → IsSound t z entries_at r → Passes s r → IsClean s r
clean_later t z entries_at s r is passes o claimed logical low high =
    record_misses r (occupies s) o passes (is.head logical) low high (claim_occupied s o claimed)

clean_earlier : (t : TableKind) (z entries_at : ℕ) (r s : Stood) → IsSound t z entries_at r → Passes r s → IsClean s r
clean_earlier t z entries_at r s is passes o claimed logical low high =
    claim_misses s (occupies r) o passes claimed (record_occupied r o (is.head logical) low high)

-- ---- all of them

pub pairs_first : {X : Type 0} (R : X → X → Type 0) (x : X) (xs : List X) → AllPairs R (x ∷ xs) → All (R x) xs
pairs_first R x xs pairs k d inside = pairs 0 (suc k) d (omega arith) (omega arith)

pub pairs_rest : {X : Type 0} (R : X → X → Type 0) (x : X) (xs : List X) → AllPairs R (x ∷ xs) → AllPairs R xs
pairs_rest R x xs pairs i j d order inside = pairs (suc i) (suc j) d (omega arith) (omega arith)

-- one more in front of each
clean_more : (s : Stood) (ss all : List Stood) → All (λ r. IsClean r s) ss → All (λ r. All (IsClean r) all) ss → All (λ r. All (IsClean r) (s ∷ all)) ss
clean_more s ss all first rest =
    all_both (λ r. IsClean r s) (λ r. All (IsClean r) all) (λ r. All (IsClean r) (s ∷ all))
    (λ r a b. All-cons (IsClean r) s all a b) ss first rest

pub all_clean : (t : TableKind) (z entries_at : ℕ) (ss : List Stood) → All (IsSound t z entries_at) ss → AllPairs Passes ss → All (λ s. All (IsClean s) ss) ss
all_clean t z entries_at [] are pairs = All-nil (λ s. All (IsClean s) [])
all_clean t z entries_at (s ∷ ss) are pairs =
    let P : Stood → Type 0 = IsSound t z entries_at in
    let here : P s = All-head P s ss are in
    let others : All P ss = All-tail P s ss are in
    let passes : All (Passes s) ss = pairs_first Passes s ss pairs in
    let later : All (IsClean s) ss =
    all_both P (Passes s) (IsClean s) (λ r is p. clean_later t z entries_at s r is p) ss others passes in
    let earlier : All (λ r. IsClean r s) ss =
    all_both P (Passes s) (λ r. IsClean r s) (λ r is p. clean_earlier t z entries_at s r here p) ss others passes in
    All-cons (λ r. All (IsClean r) (s ∷ ss)) s ss
    (All-cons (IsClean s) s ss (clean_self t z entries_at s here) later)
    (clean_more s ss ss earlier (all_clean t z entries_at ss others (pairs_rest Passes s ss pairs)))
