-- Which earlier partition one clashes with, and what is kept of the earlier ones.
use Rattle.std.proofs.Common.{◌≡◌, ℕ, suc, ◌+◌, ◌^◌, ◌<◌, ◌≤◌, max, List, [], ◌∷◌, ◌++◌, length, get_or, drop, Bool, true, false, not, ◌&&◌, ◌||◌, inl, inr, refl, sym, ap, ◌∙◌, arith, drop-cons, Option, Some, None}
use Rattle.std.proofs.lemmas.Bool.{and_parts, false_from_ne_true, not-true, or_cases, or_left, or_parts, true≢false}
use Rattle.std.proofs.lemmas.List.{drop_all}
use Rattle.std.proofs.lemmas.List.Folds.{list_any-append}
use Rattle.std.specs.Prelude.{if◌then◌else◌, map, option_map}
use Rattle.base_fields.specs.Results.{provided}
use Rattle.base_fields.specs.declared.spans.Span.{Span}
use Rattle.placement_claims.proofs.Meeting.{IsMet, from_met}
use Rattle.placement_claims.specs.Held.{AreTaken, IsHeld, is_late, is_occupied, last_end}
use Rattle.placement_rules.specs.Claims.{meets, occupies}
use Rattle.placement_rules.specs.Faults.{◌or◌, begins_below, clashes, first_clash, has_logical, met}
use Rattle.placement_rules.specs.Places.{Stood, end_of, greatest}
use Rattle.span_cover.proofs.Spans.{or_right}
use Rattle.span_cover.specs.Cover.{covers}

-- ---- where none clashes

none_logical : (ss : List Stood) → has_logical ss ≡ false → last_end ss ≡ None
none_logical [] h = refl
none_logical (s ∷ ss) h =
    let both : (s.terms.logical ≡ false) × (has_logical ss ≡ false) = or_parts s.terms.logical (has_logical ss) h in
    ap (λ (e : Option ℕ). e or provided s.terms.logical (end_of s)) (none_logical ss both.1)
    ∙ ap (λ (b : Bool). provided b (end_of s)) both.0

late_rest : (s : Stood) (rest : Option ℕ) (own : Option ℕ) → is_late s (rest or own) ≡ false → is_late s rest ≡ false
late_rest s None own h = refl
late_rest s (Some end) own h = h

-- the last logical one, which a partition that is logical itself begins below
late_here : (s e : Stood) (between : List Stood) → is_late s (last_end (e ∷ between)) ≡ false → (s.terms.logical && e.terms.logical && not (has_logical between) && begins_below s.place.head (end_of e)) ≡ true → ⊥
late_here s e between fine h =
    let below : Bool = begins_below s.place.head (end_of e) in
    let one : ((s.terms.logical && e.terms.logical && not (has_logical between)) ≡ true) × (below ≡ true) = and_parts (s.terms.logical && e.terms.logical && not (has_logical between)) below h in
    let two : ((s.terms.logical && e.terms.logical) ≡ true) × (not (has_logical between) ≡ true) = and_parts (s.terms.logical && e.terms.logical) (not (has_logical between)) one.0 in
    let three : (s.terms.logical ≡ true) × (e.terms.logical ≡ true) = and_parts s.terms.logical e.terms.logical two.0 in
    let last : last_end (e ∷ between) ≡ Some (end_of e) =
    ap (λ (r : Option ℕ). r or provided e.terms.logical (end_of e)) (none_logical between (not-true (has_logical between) two.1))
    ∙ ap (λ (b : Bool). provided b (end_of e)) three.1 in
    let late : is_late s (last_end (e ∷ between)) ≡ true =
    ap (is_late s) last ∙ ap (λ (b : Bool). b && below) three.0 ∙ one.1 in
    true≢false (sym late ∙ fine)

-- no offset of it is one of theirs
abbrev pub IsFree : Stood → List Stood → Type 0
IsFree s ss = (o : ℕ) → occupies s o ≡ true → is_occupied ss o ≡ true → ⊥

fine_here : (s e : Stood) (between : List Stood) → IsFree s (e ∷ between) → is_late s (last_end (e ∷ between)) ≡ false → clashes s e between ≡ true → ⊥
fine_here s e between free fine h =
    elim (or_cases (meets s (occupies e)) (s.terms.logical && e.terms.logical && not (has_logical between) && begins_below s.place.head (end_of e)) h) [
      | inl met ↦ let it : IsMet s (occupies e) = from_met s (occupies e) met in free it.0 it.1 (or_left (occupies e it.0) (is_occupied between it.0) it.2)
      | inr late ↦ late_here s e between fine late
    ]

pub none_clashes : (s : Stood) (ss : List Stood) → IsFree s ss → is_late s (last_end ss) ≡ false → first_clash s ss ≡ None
none_clashes s [] free fine = refl
none_clashes s (e ∷ between) free fine =
    ap (λ (b : Bool). if b then Some 0 else option_map suc (first_clash s between)) (false_from_ne_true (clashes s e between) (fine_here s e between free fine))
    ∙ ap (option_map suc) (none_clashes s between (λ o own their. free o own (or_right (occupies e o) (is_occupied between o) their))
    (late_rest s (last_end between) (provided e.terms.logical (end_of e)) fine))

-- ---- the first that clashes, one after another

-- those behind the first k, counted from there
abbrev pub found_from : ℕ → Option ℕ → Option ℕ
found_from k found = option_map (λ i. i + k) found

pub clash_none : (found : Option ℕ) → found ≡ found_from 0 found
clash_none None = refl
clash_none (Some i) = ap Some (omega arith)

next : (k : ℕ) → suc k ≡ k + 1
next k = omega arith

clashes_next : (s : Stood) (ss : List Stood) (k : ℕ) (e : Stood) → clashes s (get_or ss k e) (drop (suc k) ss) ≡ clashes s (get_or ss k e) (drop (k + 1) ss)
clashes_next s ss k e = ap (λ (n : ℕ). clashes s (get_or ss k e) (drop n ss)) (next k)

pub clash_here : (s : Stood) (ss : List Stood) (k : ℕ) (e : Stood) → k < length ss → first_clash s ss ≡ found_from k (first_clash s (drop k ss)) → clashes s (get_or ss k e) (drop (k + 1) ss) ≡ true → first_clash s ss ≡ Some k
clash_here s ss k e below before h =
    before ∙ ap (λ (l : List Stood). found_from k (first_clash s l)) (drop-cons ss k e below)
    ∙ ap (λ (b : Bool). found_from k (if b then Some 0 else option_map suc (first_clash s (drop (suc k) ss)))) (clashes_next s ss k e ∙ h)
    ∙ ap Some (omega arith)

counted_on : (k : ℕ) (found : Option ℕ) → found_from k (option_map suc found) ≡ found_from (k + 1) found
counted_on k None = refl
counted_on k (Some i) = ap Some (omega arith)

pub clash_later : (s : Stood) (ss : List Stood) (k : ℕ) (e : Stood) → k < length ss → first_clash s ss ≡ found_from k (first_clash s (drop k ss)) → clashes s (get_or ss k e) (drop (k + 1) ss) ≡ false → first_clash s ss ≡ found_from (k + 1) (first_clash s (drop (k + 1) ss))
clash_later s ss k e below before h =
    before ∙ ap (λ (l : List Stood). found_from k (first_clash s l)) (drop-cons ss k e below)
    ∙ ap (λ (b : Bool). found_from k (if b then Some 0 else option_map suc (first_clash s (drop (suc k) ss)))) (clashes_next s ss k e ∙ h)
    ∙ counted_on k (first_clash s (drop (suc k) ss))
    ∙ ap (λ (n : ℕ). found_from (k + 1) (first_clash s (drop n ss))) (next k)

pub clash_never : (s : Stood) (ss : List Stood) (k : ℕ) → length ss ≤ k → first_clash s ss ≡ found_from k (first_clash s (drop k ss)) → first_clash s ss ≡ None
clash_never s ss k past before = before ∙ ap (λ (l : List Stood). found_from k (first_clash s l)) (drop_all k ss past)

-- ---- a logical one among them

pub logical_here : (ss : List Stood) (k : ℕ) (e : Stood) → k < length ss → has_logical ss ≡ has_logical (drop k ss) → (get_or ss k e).terms.logical ≡ true → has_logical ss ≡ true
logical_here ss k e below before h =
    before ∙ ap has_logical (drop-cons ss k e below) ∙ ap (λ (b : Bool). b || has_logical (drop (suc k) ss)) h

pub logical_later : (ss : List Stood) (k : ℕ) (e : Stood) → k < length ss → has_logical ss ≡ has_logical (drop k ss) → (get_or ss k e).terms.logical ≡ false → has_logical ss ≡ has_logical (drop (k + 1) ss)
logical_later ss k e below before h =
    before ∙ ap has_logical (drop-cons ss k e below) ∙ ap (λ (b : Bool). b || has_logical (drop (suc k) ss)) h
    ∙ ap (λ (n : ℕ). has_logical (drop n ss)) (next k)

pub logical_never : (ss : List Stood) (k : ℕ) → length ss ≤ k → has_logical ss ≡ has_logical (drop k ss) → has_logical ss ≡ false
logical_never ss k past before = before ∙ ap has_logical (drop_all k ss past)

-- ---- one more is kept

none_or : (e : Option ℕ) → (None or e) ≡ (e or None)
none_or None = refl
none_or (Some n) = refl

or_three : (a b c : Option ℕ) → ((a or b) or c) ≡ (a or (b or c))
or_three None b c = refl
or_three (Some n) b c = refl

last-append : (ss : List Stood) (s : Stood) → last_end (ss ++ s ∷ []) ≡ (provided s.terms.logical (end_of s) or last_end ss)
last-append [] s = none_or (provided s.terms.logical (end_of s))
last-append (e ∷ ss) s =
    ap (λ (r : Option ℕ). r or provided e.terms.logical (end_of e)) (last-append ss s)
    ∙ or_three (provided s.terms.logical (end_of s)) (last_end ss) (provided e.terms.logical (end_of e))

pub greatest-append : (ss : List Stood) (s : Stood) → greatest (map end_of (ss ++ s ∷ [])) ≡ max (greatest (map end_of ss)) (end_of s)
greatest-append [] s = omega arith
greatest-append (e ∷ ss) s = omega (arith, greatest-append ss s)

or_false : (a : Bool) → (a || false) ≡ a
or_false true = refl
or_false false = refl

pub taken_with : (ss : List Stood) (s : Stood) (old own new : List Span) (last last' : Option ℕ) (most most' : ℕ) → AreTaken ss old last most → ((o : ℕ) → covers new o ≡ (covers old o || covers own o)) → ((o : ℕ) → covers own o ≡ occupies s o) → IsHeld s → last' ≡ (provided s.terms.logical (end_of s) or last) → most' ≡ max most (end_of s) → AreTaken (ss ++ s ∷ []) new last' most'
taken_with ss s old own new last last' most most' before more is held logical end = record {
  exact = λ o.
      more o ∙ ap (λ (b : Bool). b || covers own o) (before.exact o) ∙ ap (λ (b : Bool). is_occupied ss o || b) (is o ∙ sym (or_false (occupies s o)))
      ∙ sym (list_any-append (λ e. occupies e o) ss (s ∷ []));
  logical = logical ∙ ap (λ (l : Option ℕ). provided s.terms.logical (end_of s) or l) before.logical ∙ sym (last-append ss s);
  end = end ∙ ap (λ (n : ℕ). max n (end_of s)) before.end ∙ sym (greatest-append ss s);
  bounded = let sum : end_of s ≤ 2 ^ 43 = held.end in omega (arith, before.bounded);
}

-- ---- tables, and then earlier ones

pub or_behind : {A : Type 0} (a b c d e : Option A) → (a or b or c or d or e) ≡ ((a or b or c or d) or e)
or_behind (Some x) b c d e = refl
or_behind None (Some x) c d e = refl
or_behind None None (Some x) d e = refl
or_behind None None None (Some x) e = refl
or_behind None None None None e = refl
