-- How many numbers are in a set: what adds one, what adds none, and that the number is one.
use Rattle.std.proofs.Common.{◌≡◌, ◌⊎◌, ℕ, zero, suc, ◌+◌, ◌<◌, ◌≤◌, List, [], ◌∷◌, ◌++◌, length, get_or, inl, inr, refl, ap, subst, ⊎_elim, ◌∙◌, arith, length-append}
use Rattle.std.proofs.lemmas.Bool.{cases_eq, cases_lt}
use Rattle.std.proofs.lemmas.List.{get_or_default}
use Rattle.std.proofs.lemmas.List.Elements.{Contains-append_left, Contains-get_or, Contains-push, Contains-push_cases}
use Rattle.std.proofs.lemmas.List.Quantifiers.{all_pairs_push}
use Rattle.std.specs.Prelude.{AllPairs, Contains}
use Rattle.copy_states.specs.Starts.{IsIdle}
use Rattle.copy_tally.specs.Laws.{TalliesAreOne}
use Rattle.copy_tally.specs.Tallies.{IsCountOf, IsKeptAt}

-- ---- what adds to it
pub none_counted : (set : ℕ → Type 0) → ((k : ℕ) → set k → ⊥) → IsCountOf set 0
none_counted set none = record {
  members = [];
  ascends = λ i j d less below. absurd (omega (arith, below));
  are = λ k. (λ among. absurd (omega (arith, among.1)), λ is. absurd (none k is));
  many = refl;
}

pub counted_so : (set other : ℕ → Type 0) (n now : ℕ) → ((k : ℕ) → set k → other k) → ((k : ℕ) → other k → set k) → now ≡ n →
    IsCountOf set n → IsCountOf other now
counted_so set other n now to from same count = record {
  members = count.members;
  ascends = count.ascends;
  are = λ k. (λ among. to k ((count.are k).0 among), λ is. (count.are k).1 (from k is));
  many = same ∙ count.many;
}

-- a number behind all of them
pub counted_more : (set other : ℕ → Type 0) (n now x : ℕ) → ((k : ℕ) → set k → k < x) → ((k : ℕ) → set k → other k) → other x →
    ((k : ℕ) → other k → set k ⊎ (x ≡ k)) → now ≡ n + 1 → IsCountOf set n → IsCountOf other now
counted_more set other n now x below still here from more count = record {
  members = count.members ++ x ∷ [];
  ascends = all_pairs_push (λ k later. k < later) count.members x count.ascends (λ i d inside.
      below (get_or count.members i d) ((count.are (get_or count.members i d)).0 (Contains-get_or count.members i d inside)));
  are = λ k. (
    λ among. ⊎_elim (λ old. still k ((count.are k).0 old)) (λ same. subst other same here) (Contains-push_cases count.members x k among),
    λ is. ⊎_elim
        (λ old. Contains-append_left count.members (x ∷ []) k ((count.are k).1 old))
        (λ same. subst (λ (v : ℕ). Contains (count.members ++ x ∷ []) v) same (Contains-push count.members x)) (from k is),
  );
  many = omega (arith, more, count.many, length-append count.members (x ∷ []));
}

-- ---- of those before a number
pub one_more : (set : ℕ → Type 0) (n now x : ℕ) → set x → now ≡ n + 1 →
    IsCountOf (λ k. set k × (k < x)) n → IsCountOf (λ k. set k × (k < x + 1)) now
one_more set n now x here more count =
    counted_more (λ k. set k × (k < x)) (λ k. set k × (k < x + 1)) n now x (λ k is. is.1) (λ k is. (is.0, omega (arith, is.1))) (here, omega arith)
    (λ k is. elim (cases_eq x k) [
      | inl same ↦ inr same
      | inr other ↦ inl (is.0, omega (arith, is.1, other))
    ]) more count

pub none_more : (set : ℕ → Type 0) (n now from to : ℕ) → from ≤ to → ((k : ℕ) → set k → from ≤ k → k < to → ⊥) → now ≡ n →
    IsCountOf (λ k. set k × (k < from)) n → IsCountOf (λ k. set k × (k < to)) now
none_more set n now from to upto none same count =
    counted_so (λ k. set k × (k < from)) (λ k. set k × (k < to)) n now (λ k is. (is.0, omega (arith, is.1, upto)))
    (λ k is. elim (cases_lt k from) [
      | inl less ↦ (is.0, less)
      | inr more ↦ absurd (none k is.0 more is.1)
    ]) same count

-- ---- one number
abbrev Ascends : List ℕ → Type 0
Ascends = AllPairs (λ k later. k < later)

module _ (xs ys : List ℕ) (up : Ascends xs) (rise : Ascends ys) (each : (k : ℕ) → Contains xs k → Contains ys k) where
  at_some : (i : ℕ) → i < length xs → (j : ℕ) × (j < length ys) × (get_or ys j 0 ≡ get_or xs i 0)
  at_some i inside =
      let it = each (get_or xs i 0) (Contains-get_or xs i 0 inside) in
      (it.0, it.1, get_or_default ys it.0 0 (get_or xs i 0) it.1 ∙ it.2)

  -- of two members the later has the later place
  later_place : (j l : ℕ) → l < length ys → get_or ys l 0 < get_or ys j 0 → l < j
  later_place j l inside less = elim (cases_lt l j) [
    | inl fine ↦ fine
    | inr upto ↦ elim (cases_eq j l) [
      | inl same ↦ let equal : get_or ys j 0 ≡ get_or ys l 0 = ap (λ (n : ℕ). get_or ys n 0) same in absurd (omega (arith, less, equal))
      | inr other ↦ let more : get_or ys j 0 < get_or ys l 0 = rise j l 0 (omega (arith, upto, other)) inside in absurd (omega (arith, less, more))
    ]
  ]

  at_or_behind : (i : ℕ) → i < length xs → (j : ℕ) × (i ≤ j) × (j < length ys) × (get_or ys j 0 ≡ get_or xs i 0)
  at_or_behind zero inside = let it = at_some zero inside in (it.0, omega arith, it.1, it.2)
  at_or_behind (suc i) inside =
      let before = at_or_behind i (omega (arith, inside)) in
      let it = at_some (suc i) inside in
      let less : get_or xs i 0 < get_or xs (suc i) 0 = up i (suc i) 0 (omega arith) inside in
      let behind : before.0 < it.0 = later_place it.0 before.0 before.2 (omega (arith, less, before.3, it.2)) in
      (it.0, omega (arith, before.1, behind), it.1, it.2)

  pub no_more : length xs ≤ length ys
  no_more = elim (cases_lt (length ys) (length xs)) [
    | inl less ↦ let it = at_or_behind (length ys) less in absurd (omega (arith, it.1, it.2))
    | inr fine ↦ fine
  ]

one_count : (set : ℕ → Type 0) (n other : ℕ) → IsCountOf set n → IsCountOf set other → n ≡ other
one_count set n other a b =
    let most : length a.members ≤ length b.members = no_more a.members b.members a.ascends b.ascends (λ k among. (b.are k).1 ((a.are k).0 among)) in
    let least : length b.members ≤ length a.members = no_more b.members a.members b.ascends a.ascends (λ k among. (a.are k).1 ((b.are k).0 among)) in
    omega (arith, a.many, b.many, most, least)

pub tallies_are_one : TalliesAreOne
tallies_are_one job start written kept other too a b = (
  one_count (IsIdle job.id job.map start) written other a.writes b.writes,
  one_count (IsKeptAt job.id job.map start) kept too a.keeps b.keeps,
)
