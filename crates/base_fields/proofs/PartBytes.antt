-- The bytes of parts: each part of a list has its own where the parts lie apart.
use Rattle.std.specs.Prelude.{◌≡◌, ℕ, zero, suc, ◌+◌, ◌-◌, ◌<◌, ◌≤◌, List, [], ◌∷◌, ◌++◌, All, Contains, Option, Some, None, Bool, true, false, if◌then◌else◌, length, slice_index_or}
use Rattle.std.specs.Option.{option_or}
use Rattle.std.proofs.Common.{refl, ◌∙◌, sym, ap, subst, arith}
use Rattle.std.proofs.lemmas.Bool.{false_from_ne_true}
use Rattle.std.proofs.lemmas.Bool.Decides.{nat_tests}
use Rattle.std.proofs.lemmas.List.Elements.{All-append, All-cons, All-tail}
use Rattle.std.proofs.lemmas.List.Kept.{AllPairs-cons}
use Rattle.base_fields.specs.Fields.{Field, byte_of}
use Rattle.base_fields.specs.Parts.{AreApart, AreInOrder, HoldsPart, HoldsParts, IsIn, LieApart, Part, covers, fields_part, part_byte}

-- ---- whether a part has an offset

pub covered : (p : Part) (o : ℕ) → IsIn p o → covers p o ≡ true
covered p o h = grind (arith, nat_tests)

pub is_in : (p : Part) (o : ℕ) → covers p o ≡ true → IsIn p o
is_in p o h = (grind (arith, nat_tests), grind (arith, nat_tests))

pub passed : (p : Part) (o : ℕ) → ¬ IsIn p o → covers p o ≡ false
passed p o out = false_from_ne_true (covers p o) (λ e. out (is_in p o e))

-- ---- one part in front

first_byte : (p : Part) (ps : List Part) (o : ℕ) → o < p.len → part_byte (p ∷ ps) (p.at + o) ≡ Some (p.byte o)
first_byte p ps o h =
    let within : covers p (p.at + o) ≡ true = covered p (p.at + o) (omega arith, omega arith) in
    let place : p.at + o - p.at ≡ o = omega arith in
    rw (within, place) refl

next_byte : (p : Part) (ps : List Part) (o : ℕ) → ¬ IsIn p o → part_byte (p ∷ ps) o ≡ part_byte ps o
next_byte p ps o out = rw (passed p o out) refl

apart_rest : (p : Part) (ps : List Part) → AreApart (p ∷ ps) → AreApart ps
apart_rest p ps apart i j d before inside = apart (suc i) (suc j) d (omega arith) (omega arith)

apart_first : (p : Part) (ps : List Part) → AreApart (p ∷ ps) → All (LieApart p) ps
apart_first p ps apart k d inside = apart 0 (suc k) d (omega arith) (omega arith)

-- ---- each part has its own bytes

-- the byte at an offset in the part number k
pub part_byte-at : (ps : List Part) (k : ℕ) (d : Part) (o : ℕ) → AreApart ps → k < length ps → o < (slice_index_or ps k d).len → part_byte ps ((slice_index_or ps k d).at + o) ≡ Some ((slice_index_or ps k d).byte o)
part_byte-at [] k d o apart inside h = absurd (omega arith)
part_byte-at (p ∷ ps) zero d o apart inside h = first_byte p ps o h
part_byte-at (p ∷ ps) (suc k) d o apart inside h =
    let at : ℕ = (slice_index_or ps k d).at + o in
    let out : ¬ IsIn p at = λ within. apart 0 (suc k) d (omega arith) (omega arith) at within (omega arith, omega arith) in
    next_byte p ps at out ∙ part_byte-at ps k d o (apart_rest p ps apart) (omega arith) h

-- the byte at an offset in a part of the list is that part's
pub part_byte-in : (ps : List Part) (p : Part) (o : ℕ) → AreApart ps → Contains ps p → o < p.len → part_byte ps (p.at + o) ≡ Some (p.byte o)
part_byte-in ps p o apart found h =
    subst (λ (q : Part). part_byte ps (q.at + o) ≡ Some (q.byte o)) found.2
    (part_byte-at ps found.0 p o apart found.1 (subst (λ (q : Part). o < q.len) (sym found.2) h))

-- an image with every byte of the parts has those of each part, and the other way round
pub holds_each : (image : ℕ → ℕ) (ps : List Part) → AreApart ps → HoldsParts image ps → All (HoldsPart image) ps
holds_each image ps apart holds k d inside o h = holds _ _ (part_byte-at ps k d o apart inside h)

pub holds_part : (image : ℕ → ℕ) (ps : List Part) (p : Part) → AreApart ps → HoldsParts image ps → Contains ps p → HoldsPart image p
holds_part image ps p apart holds found o h = holds (p.at + o) (p.byte o) (part_byte-in ps p o apart found h)

some_same : {x y : ℕ} → Some x ≡ Some y → x ≡ y
some_same h = cc

-- what the first part of a list or the rest of it has, by the test of the first
abbrev chosen : Bool → Part → List Part → ℕ → Option ℕ
chosen c p ps o = if c then Some (p.byte (o - p.at)) else part_byte ps o

own_byte : (image : ℕ → ℕ) (p : Part) (o b : ℕ) → HoldsPart image p → IsIn p o → p.byte (o - p.at) ≡ b → image o ≡ b
own_byte image p o b holds within same =
    let place : o ≡ p.at + (o - p.at) = omega (arith, within.0) in
    let inside : o - p.at < p.len = omega (arith, within.0, within.1) in
    ap image place ∙ (holds (o - p.at) inside ∙ same)

held_by_test : (image : ℕ → ℕ) (p : Part) (ps : List Part) (o b : ℕ) → HoldsPart image p → HoldsParts image ps → (c : Bool) → covers p o ≡ c → chosen c p ps o ≡ Some b → image o ≡ b
held_by_test image p ps o b holds rest true is e = own_byte image p o b holds (is_in p o is) (some_same e)
held_by_test image p ps o b holds rest false is e = rest o b e

pub holds_all : (image : ℕ → ℕ) (ps : List Part) → All (HoldsPart image) ps → HoldsParts image ps
holds_all image [] each o b e = absurd (cc)
holds_all image (p ∷ ps) each o b e =
    held_by_test image p ps o b (each 0 p (omega arith)) (holds_all image ps (All-tail (HoldsPart image) p ps each)) (covers p o) refl e

-- ---- where no part has an offset there is no byte, and only there

pub part_byte-none : (ps : List Part) (o : ℕ) → All (λ p. ¬ IsIn p o) ps → part_byte ps o ≡ None
part_byte-none [] o out = refl
part_byte-none (p ∷ ps) o out =
    next_byte p ps o (out 0 p (omega arith)) ∙ part_byte-none ps o (All-tail (λ p. ¬ IsIn p o) p ps out)

none_by_test : (p : Part) (ps : List Part) (o : ℕ) → (part_byte ps o ≡ None → All (λ q. ¬ IsIn q o) ps) → (c : Bool) → covers p o ≡ c → chosen c p ps o ≡ None → All (λ q. ¬ IsIn q o) (p ∷ ps)
none_by_test p ps o rest true is none = absurd (cc)
none_by_test p ps o rest false is none =
    All-cons (λ q. ¬ IsIn q o) p ps (λ within. let here : covers p o ≡ true = covered p o within in absurd (cc)) (rest none)

pub none_in : (ps : List Part) (o : ℕ) → part_byte ps o ≡ None → All (λ p. ¬ IsIn p o) ps
none_in [] o none = λ k d inside. absurd (omega arith)
none_in (p ∷ ps) o none = none_by_test p ps o (none_in ps o) (covers p o) refl none

-- ---- lists of parts one after another

append_by_test : (c : Bool) (found : ℕ) (all front back : Option ℕ) → all ≡ option_or front back → (if c then Some found else all) ≡ option_or (if c then Some found else front) back
append_by_test true found all front back h = refl
append_by_test false found all front back h = h

pub part_byte-append : (ps qs : List Part) (o : ℕ) → part_byte (ps ++ qs) o ≡ option_or (part_byte ps o) (part_byte qs o)
part_byte-append [] qs o = refl
part_byte-append (p ∷ ps) qs o =
    append_by_test (covers p o) (p.byte (o - p.at)) (part_byte (ps ++ qs) o) (part_byte ps o) (part_byte qs o) (part_byte-append ps qs o)

all_front : (P : Part → Type 0) (ps qs : List Part) → All P (ps ++ qs) → All P ps
all_front P [] qs all k d inside = absurd (omega arith)
all_front P (p ∷ ps) qs all zero d inside = all 0 d (omega arith)
all_front P (p ∷ ps) qs all (suc k) d inside = all_front P ps qs (All-tail P p (ps ++ qs) all) k d (omega arith)

all_back : (P : Part → Type 0) (ps qs : List Part) → All P (ps ++ qs) → All P qs
all_back P [] qs all = all
all_back P (p ∷ ps) qs all = all_back P ps qs (All-tail P p (ps ++ qs) all)

-- an image with every byte of both lists has those of each, and the other way round
pub holds_front : (image : ℕ → ℕ) (ps qs : List Part) → HoldsParts image (ps ++ qs) → HoldsParts image ps
holds_front image ps qs holds o b e = holds o b (part_byte-append ps qs o ∙ ap (λ (found : Option ℕ). option_or found (part_byte qs o)) e)

pub holds_back : (image : ℕ → ℕ) (ps qs : List Part) → AreApart (ps ++ qs) → HoldsParts image (ps ++ qs) → HoldsParts image qs
holds_back image ps qs apart holds = holds_all image qs (all_back (HoldsPart image) ps qs (holds_each image (ps ++ qs) apart holds))

both_by_byte : (image : ℕ → ℕ) (o b : ℕ) (front back : Option ℕ) → (front ≡ Some b → image o ≡ b) → (back ≡ Some b → image o ≡ b) → option_or front back ≡ Some b → image o ≡ b
both_by_byte image o b None back in_front in_back e = in_back e
both_by_byte image o b (Some x) back in_front in_back e = in_front e

pub holds_both : (image : ℕ → ℕ) (ps qs : List Part) → HoldsParts image ps → HoldsParts image qs → HoldsParts image (ps ++ qs)
holds_both image ps qs front back o b e =
    both_by_byte image o b (part_byte ps o) (part_byte qs o) (front o b) (back o b) (sym (part_byte-append ps qs o) ∙ e)

pub apart_front : (ps qs : List Part) → AreApart (ps ++ qs) → AreApart ps
apart_front [] qs apart = λ i j d before inside. absurd (omega arith)
apart_front (p ∷ ps) qs apart =
    AllPairs-cons LieApart p ps (all_front (LieApart p) ps qs (apart_first p (ps ++ qs) apart)) (apart_front ps qs (apart_rest p (ps ++ qs) apart))

pub apart_back : (ps qs : List Part) → AreApart (ps ++ qs) → AreApart qs
apart_back [] qs apart = apart
apart_back (p ∷ ps) qs apart = apart_back ps qs (apart_rest p (ps ++ qs) apart)

-- two lists of parts that lie apart, with each part of one apart from each of the other
pub apart_both : (ps qs : List Part) → AreApart ps → AreApart qs → All (λ p. All (LieApart p) qs) ps → AreApart (ps ++ qs)
apart_both [] qs front back across = back
apart_both (p ∷ ps) qs front back across =
    AllPairs-cons LieApart p (ps ++ qs)
    (All-append (LieApart p) ps qs (apart_first p ps front) (across 0 p (omega arith)))
    (apart_both ps qs (apart_rest p ps front) back (All-tail (λ p. All (LieApart p) qs) p ps across))

-- ---- parts in the order of their places

-- the part number k begins at the first place or behind it
pub begins_behind : (ps : List Part) (from k : ℕ) (d : Part) → AreInOrder from ps → k < length ps → from ≤ (slice_index_or ps k d).at
begins_behind [] from k d order inside = absurd (omega arith)
begins_behind (p ∷ ps) from zero d order inside = order.0
begins_behind (p ∷ ps) from (suc k) d order inside =
    let later : p.at + p.len ≤ (slice_index_or ps k d).at = begins_behind ps (p.at + p.len) k d order.1 (omega arith) in
    let first : from ≤ p.at = order.0 in
    omega arith

-- parts in order lie apart
pub in_order_apart : (ps : List Part) (from : ℕ) → AreInOrder from ps → AreApart ps
in_order_apart [] from order = λ i j d before inside. absurd (omega arith)
in_order_apart (p ∷ ps) from order =
    AllPairs-cons LieApart p ps
    (λ k d inside o in_first in_later.
    let later : p.at + p.len ≤ (slice_index_or ps k d).at = begins_behind ps (p.at + p.len) k d order.1 inside in
    let a : o < p.at + p.len = in_first.1 in
    let b : (slice_index_or ps k d).at ≤ o = in_later.0 in
    omega arith)
    (in_order_apart ps (p.at + p.len) order.1)

-- an earlier beginning
pub order_from : (ps : List Part) (before from : ℕ) → before ≤ from → AreInOrder from ps → AreInOrder before ps
order_from [] before from h order = tt
order_from (p ∷ ps) before from h order = let first : from ≤ p.at = order.0 in (omega arith, order.1)

-- parts in order, and others in order behind them
pub order_both : (ps qs : List Part) (from middle : ℕ) → from ≤ middle → AreInOrder from ps → All (λ p. p.at + p.len ≤ middle) ps → AreInOrder middle qs → AreInOrder from (ps ++ qs)
order_both [] qs from middle h front ends back = order_from qs from middle h back
order_both (p ∷ ps) qs from middle h front ends back =
    (front.0, order_both ps qs (p.at + p.len) middle (ends 0 p (omega arith)) front.1 (All-tail (λ p. p.at + p.len ≤ middle) p ps ends) back)

-- ---- fields of a format as a part

pub fields_held : (image : ℕ → ℕ) (place from to : ℕ) (fields : List Field) → HoldsPart image (fields_part place from to fields) → (o : ℕ) → from ≤ o → o < to → image (place + o) ≡ byte_of fields o
fields_held image place from to fields holds o low high =
    let there : place + o ≡ place + from + (o - from) = omega arith in
    let offset : from + (o - from) ≡ o = omega arith in
    ap image there ∙ (holds (o - from) (omega arith) ∙ ap (byte_of fields) offset)
