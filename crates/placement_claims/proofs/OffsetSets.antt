-- Sets of offsets, piece by piece.
use Rattle.std.proofs.Common.{◌≡◌, ℕ, ◌+◌, ◌-◌, ◌<◌, ◌≤◌, min, List, [], length, get_or, take, Bool, true, false, not, ◌&&◌, ◌||◌, inl, inr, refl, sym, ap, ◌∙◌, arith}
use Rattle.std.proofs.Math.Bool.{or_assoc}
use Rattle.std.proofs.lemmas.Bool.{and_from, and_parts, leb-true, le-leb, lt-ltb, ltb-true, or_cases}
use Rattle.std.proofs.lemmas.List.{take_all}
use Rattle.std.proofs.lemmas.List.Folds.{list_any_more}
use Rattle.std.specs.Prelude.{nat_le, nat_lt}
use Rattle.std.specs.List.{list_any}
use Rattle.base_fields.specs.declared.spans.Span.{Span}
use Rattle.conf_values.specs.declared.values.Hole.{Hole}
use Rattle.placement_rules.specs.Claims.{in_hole, in_run}
use Rattle.placement_rules.specs.declared.terms.Place.{Place}
use Rattle.placement_claims.specs.Held.{Shares, is_left}
use Rattle.span_cover.proofs.Spans.{covers_at, has_in, in_has, same_bool}
use Rattle.span_cover.specs.Cover.{HasLess, HasMore, Meets, covers, has}

-- ---- runs and holes

pub run_in : (at len o : ℕ) → at ≤ o → o < at + len → in_run at len o ≡ true
run_in at len o low high = has_in (record { at = at; len = len }) o low high

pub in_run_parts : (at len o : ℕ) → in_run at len o ≡ true → (at ≤ o) × (o < at + len)
in_run_parts at len o h = in_has (record { at = at; len = len }) o h

hole_in : (hole : Hole) (o : ℕ) → hole.from ≤ o → o < hole.to → in_hole o hole ≡ true
hole_in hole o low high = and_from (nat_le hole.from o) (nat_lt o hole.to) (le-leb hole.from o low) (lt-ltb o hole.to high)

in_hole_parts : (hole : Hole) (o : ℕ) → in_hole o hole ≡ true → (hole.from ≤ o) × (o < hole.to)
in_hole_parts hole o h =
    let both : (nat_le hole.from o ≡ true) × (nat_lt o hole.to ≡ true) = and_parts (nat_le hole.from o) (nat_lt o hole.to) h in
    (leb-true hole.from o both.0, ltb-true o hole.to both.1)

-- what of a hole lies in its partition
pub clipped_exact : (p : Place) (hole : Hole) (o : ℕ) → has (record { at = p.at + min hole.from p.size; len = min hole.to p.size - min hole.from p.size }) o ≡ (in_run p.at p.size o && in_hole (o - p.at) hole)
clipped_exact p hole o =
    let s : Span = record { at = p.at + min hole.from p.size; len = min hole.to p.size - min hole.from p.size } in
    same_bool (has s o) (in_run p.at p.size o && in_hole (o - p.at) hole)
    (λ t.
    let inside : (p.at + min hole.from p.size ≤ o) × (o < p.at + min hole.from p.size + (min hole.to p.size - min hole.from p.size)) = in_has s o t in
    and_from (in_run p.at p.size o) (in_hole (o - p.at) hole)
    (run_in p.at p.size o (omega arith) (omega arith))
    (hole_in hole (o - p.at) (omega arith) (omega arith)))
    (λ t.
    let both : (in_run p.at p.size o ≡ true) × (in_hole (o - p.at) hole ≡ true) = and_parts (in_run p.at p.size o) (in_hole (o - p.at) hole) t in
    let run : (p.at ≤ o) × (o < p.at + p.size) = in_run_parts p.at p.size o both.0 in
    let own : (hole.from ≤ o - p.at) × (o - p.at < hole.to) = in_hole_parts hole (o - p.at) both.1 in
    has_in s o (omega arith) (omega arith))

-- ---- a claim without its holes

-- the first holes are taken out
abbrev pub LeftBy : Place → List Hole → ℕ → List Span → Type 0
LeftBy p holes k cover = (o : ℕ) → covers cover o ≡ is_left p (take k holes) o

and_true : (a : Bool) → a ≡ (a && true)
and_true true = refl
and_true false = refl

pub left_none : (p : Place) (holes : List Hole) (empty cover : List Span) → empty ≡ [] → HasMore empty (record { at = p.at; len = p.size }) cover → LeftBy p holes 0 cover
left_none p holes empty cover none more o =
    more o ∙ ap (λ (spans : List Span). covers spans o || in_run p.at p.size o) none ∙ and_true (in_run p.at p.size o)

less_both : (r a b : Bool) → ((r && not a) && not (r && b)) ≡ (r && not (a || b))
less_both false a b = refl
less_both true true true = refl
less_both true true false = refl
less_both true false true = refl
less_both true false false = refl

pub left_more : (p : Place) (holes : List Hole) (k : ℕ) (hole : Hole) (s : Span) (old new : List Span) → k < length holes → LeftBy p holes k old → HasLess old s new → ((o : ℕ) → has s o ≡ (in_run p.at p.size o && in_hole (o - p.at) (get_or holes k hole))) → LeftBy p holes (k + 1) new
left_more p holes k hole s old new below before less is o =
    let r : Bool = in_run p.at p.size o in
    let a : Bool = list_any (in_hole (o - p.at)) (take k holes) in
    let b : Bool = in_hole (o - p.at) (get_or holes k hole) in
    less o
    ∙ ap (λ (x : Bool). x && not (has s o)) (before o)
    ∙ ap (λ (x : Bool). (r && not a) && not x) (is o)
    ∙ less_both r a b
    ∙ ap (λ (x : Bool). r && not x) (sym (list_any_more (in_hole (o - p.at)) holes k hole below))

pub left_all : (p : Place) (holes : List Hole) (k : ℕ) (cover : List Span) → length holes ≤ k → LeftBy p holes k cover → (o : ℕ) → covers cover o ≡ is_left p holes o
left_all p holes k cover all before o = before o ∙ ap (λ (l : List Hole). is_left p l o) (take_all k holes all)

-- ---- all of another set

abbrev pub AddedBy : List Span → List Span → ℕ → List Span → Type 0
AddedBy old more k new = (o : ℕ) → covers new o ≡ (covers old o || covers (take k more) o)

or_false : (a : Bool) → a ≡ (a || false)
or_false true = refl
or_false false = refl

pub added_none : (old more : List Span) → AddedBy old more 0 old
added_none old more o = or_false (covers old o)

pub added_more : (old more : List Span) (k : ℕ) (d : Span) (mid new : List Span) → k < length more → AddedBy old more k mid → HasMore mid (get_or more k d) new → AddedBy old more (k + 1) new
added_more old more k d mid new below before after o =
    after o ∙ ap (λ (b : Bool). b || has (get_or more k d) o) (before o)
    ∙ or_assoc (covers old o) (covers (take k more) o) (has (get_or more k d) o)
    ∙ ap (λ (b : Bool). covers old o || b) (sym (list_any_more (λ s. has s o) more k d below))

pub added_all : (old more all : List Span) (k : ℕ) (new : List Span) → more ≡ all → length more ≤ k → AddedBy old more k new → (o : ℕ) → covers new o ≡ (covers old o || covers all o)
added_all old more all k new same past before o =
    before o ∙ ap (λ (l : List Span). covers old o || covers l o) (take_all k more past ∙ same)

-- ---- an offset of both

-- none of the first spans meets the other set
abbrev pub SharesNone : List Span → ℕ → List Span → Type 0
SharesNone one k other = (o : ℕ) → covers (take k one) o ≡ true → covers other o ≡ true → ⊥

pub shares_none : (one other : List Span) → SharesNone one 0 other
shares_none one other o own their = cc

pub shares_more : (one : List Span) (k : ℕ) (d : Span) (other : List Span) → k < length one → SharesNone one k other → (Meets other (get_or one k d) → ⊥) → SharesNone one (k + 1) other
shares_more one k d other below before never o own their =
    elim (or_cases (covers (take k one) o) (has (get_or one k d) o) (sym (list_any_more (λ s. has s o) one k d below) ∙ own)) [
      | inl was ↦ before o was their
      | inr here ↦ never (o, their, here)
    ]

pub shares_never : (one all : List Span) (k : ℕ) (other : List Span) → one ≡ all → length one ≤ k → SharesNone one k other → Shares all other → ⊥
shares_never one all k other same past before it =
    before it.0 (ap (λ (l : List Span). covers l it.0) (take_all k one past ∙ same) ∙ it.1) it.2

pub shares_here : (one all : List Span) (k : ℕ) (d : Span) (other : List Span) → one ≡ all → k < length one → Meets other (get_or one k d) → Shares all other
shares_here one all k d other same below it =
    let inside : ((get_or one k d).at ≤ it.0) × (it.0 < (get_or one k d).at + (get_or one k d).len) = in_has (get_or one k d) it.0 it.2 in
    (it.0, ap (λ (l : List Span). covers l it.0) (sym same) ∙ covers_at one k it.0 d below inside.0 inside.1, it.1)
