-- Marks of one byte each.
use Rattle.std.proofs.Common.{◌≡◌, ◌⊎◌, ℕ, ◌+◌, ◌<◌, ◌≤◌, List, [], ◌∷◌, length, map, Contains, slice_index, subst, ◌∙◌, arith}
use Rattle.std.proofs.lemmas.Grind.{common_steps}
use Rattle.std.proofs.lemmas.List.{get_or-map}
use Rattle.std.proofs.lemmas.List.Elements.{Contains-get_or}
use Rattle.base_fields.specs.Fields.{written}
use Rattle.bench_trial.specs.Pairs.{IsMarkOf}

-- a byte that is written is there, and one that was there and is written nowhere else stays
pub mark_there : (old : List ℕ) (at mark k : ℕ) → at < length old → (k ≡ at) ⊎ (slice_index old k ≡ mark) → slice_index (written old at (mark ∷ [])) k ≡ mark
mark_there old at mark k inside there = grind (arith, common_steps)

-- the byte at the place of a unit's mark is one of the marks
pub is_mark : (units : List ℕ) (i k : ℕ) → i < length units → 80 + slice_index units i ≤ k → k < 80 + slice_index units i + 1 → IsMarkOf units k
is_mark units i k inside low high =
    let place = λ (unit : ℕ). 80 + unit in
    let long : i < length (map place units) = search (arith, common_steps) in
    let e : slice_index (map place units) i ≡ k = get_or-map place units i 0 0 inside ∙ omega (arith, low, high) in
    subst (λ p. Contains (map place units) p) e (Contains-get_or (map place units) i 0 long)
