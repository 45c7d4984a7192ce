-- An offset that a partition occupies and that passes a test, as a bounded search and as an offset.
use Rattle.std.proofs.Common.{◌≡◌, ℕ, zero, suc, ◌+◌, ◌-◌, ◌<◌, ◌≤◌, List, Bool, true, ◌&&◌, ◌↔◌, inl, inr, sym, ap, ◌∙◌, arith, Option, Some, None}
use Rattle.std.proofs.lemmas.Bool.{and_from, and_parts, cases_eq, or_cases, or_left, true≢false}
use Rattle.std.specs.Prelude.{IfSome, IsTrue, not}
use Rattle.std.specs.List.{list_any}
use Rattle.base_fields.specs.declared.spans.Span.{Span}
use Rattle.placement_claims.specs.Held.{IsClaim, IsHeld, Shares}
use Rattle.placement_claims.proofs.OffsetSets.{in_run_parts}
use Rattle.placement_rules.specs.Claims.{claims, in_hole, in_record, in_run, meets, occupies, reach, some_below}
use Rattle.placement_rules.specs.Places.{Stood}
use Rattle.span_cover.proofs.Spans.{or_right, same_bool}
use Rattle.span_cover.specs.Cover.{Meets, covers}

some_found : (n : ℕ) (test : ℕ → Bool) (o : ℕ) → o < n → test o ≡ true → some_below n test ≡ true
unfolding some_below
some_found zero test o below h = absurd (omega arith)
some_found (suc n) test o below h =
    elim (cases_eq o n) [
      | inl same ↦ or_left (test n) (some_below n test) (ap test (sym same) ∙ h)
      | inr other ↦ or_right (test n) (some_below n test) (some_found n test o (omega arith) h)
    ]

some_in : (n : ℕ) (test : ℕ → Bool) → some_below n test ≡ true → (o : ℕ) × (test o ≡ true)
unfolding some_below
some_in zero test h = absurd (true≢false (sym h))
some_in (suc n) test h =
    elim (or_cases (test n) (some_below n test) h) [
      | inl here ↦ (n, here)
      | inr there ↦ some_in n test there
    ]

record_below : (head : Option ℕ) (at o : ℕ) → IfSome head (λ h. h ≤ at) → in_record head o ≡ true → o < at + 512
record_below None at o before h = absurd (true≢false (sym h))
record_below (Some x) at o before h = let inside : (x ≤ o) × (o < x + 512) = in_run_parts x 512 o h in omega (arith, before)

occupied_below : (s : Stood) (o : ℕ) → IsHeld s → occupies s o ≡ true → o < reach s
occupied_below s o held h =
    elim (or_cases (claims s o) (in_record s.place.head o) h) [
      | inl claimed ↦
          let both : (in_run s.place.at s.place.size o ≡ true) × (not (list_any (in_hole (o - s.place.at)) s.holes) ≡ true) = and_parts (in_run s.place.at s.place.size o) (not (list_any (in_hole (o - s.place.at)) s.holes)) claimed in
          let inside : (s.place.at ≤ o) × (o < s.place.at + s.place.size) = in_run_parts s.place.at s.place.size o both.0 in
          omega arith
      | inr recorded ↦ let below : o < s.place.at + 512 = record_below s.place.head s.place.at o held.head recorded in omega arith
    ]

-- an offset that a partition occupies and that passes
abbrev pub IsMet : Stood → (ℕ → Bool) → Type 0
IsMet s test = (o : ℕ) × (occupies s o ≡ true) × (test o ≡ true)

pub met_from : (s : Stood) (test : ℕ → Bool) → IsHeld s → IsMet s test → meets s test ≡ true
met_from s test held it =
    some_found (reach s) (λ o. occupies s o && test o) it.0 (occupied_below s it.0 held it.1) (and_from (occupies s it.0) (test it.0) it.1 it.2)

pub from_met : (s : Stood) (test : ℕ → Bool) → meets s test ≡ true → IsMet s test
from_met s test h =
    let it : (o : ℕ) × ((occupies s o && test o) ≡ true) = some_in (reach s) (λ o. occupies s o && test o) h in
    let both : (occupies s it.0 ≡ true) × (test it.0 ≡ true) = and_parts (occupies s it.0) (test it.0) it.1 in
    (it.0, both.0, both.1)

meets_is : (s : Stood) (test : ℕ → Bool) (b : Bool) → IsHeld s → (IsTrue b ↔ IsMet s test) → b ≡ meets s test
meets_is s test b held exact =
    same_bool b (meets s test) (λ t. met_from s test held (exact.0 t)) (λ t. exact.1 (from_met s test t))

-- a set of what a partition occupies meets a run
pub meets_run : (s : Stood) (cover : List Span) (run : Span) (b : Bool) → IsClaim s cover → (IsTrue b ↔ Meets cover run) → b ≡ meets s (in_run run.at run.len)
meets_run s cover run b claim exact =
    meets_is s (in_run run.at run.len) b claim.held (
      λ t. let it : Meets cover run = exact.0 t in (it.0, sym (claim.exact it.0) ∙ it.1, it.2),
      λ it. exact.1 (it.0, claim.exact it.0 ∙ it.1, it.2),
    )

-- or another partition's set
pub meets_other : (s other : Stood) (cover more : List Span) (b : Bool) → IsClaim s cover → IsClaim other more → (IsTrue b ↔ Shares cover more) → b ≡ meets s (occupies other)
meets_other s other cover more b claim claim' exact =
    meets_is s (occupies other) b claim.held (
      λ t. let it : Shares cover more = exact.0 t in (it.0, sym (claim.exact it.0) ∙ it.1, sym (claim'.exact it.0) ∙ it.2),
      λ it. exact.1 (it.0, claim.exact it.0 ∙ it.1, claim'.exact it.0 ∙ it.2),
    )

-- or any set
pub shares_set : (s : Stood) (cover taken : List Span) (b : Bool) → IsClaim s cover → (IsTrue b ↔ Shares cover taken) → IsTrue b ↔ ((o : ℕ) × IsTrue (occupies s o) × IsTrue (covers taken o))
shares_set s cover taken b claim exact = (
  λ t. let it : Shares cover taken = exact.0 t in (it.0, sym (claim.exact it.0) ∙ it.1, it.2),
  λ it. exact.1 (it.0, claim.exact it.0 ∙ it.1, it.2),
)
