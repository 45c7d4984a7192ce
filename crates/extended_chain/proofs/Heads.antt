-- The sectors of records that ascend.
use Rattle.std.specs.Prelude.{◌≡◌, ℕ, zero, suc, ◌+◌, ◌<◌, ◌≤◌, List, ◌∷◌, length}
use Rattle.std.proofs.Common.{arith, add-one, inl, inr, subst}
use Rattle.std.proofs.lemmas.Bool.{cases_lt}
use Rattle.extended_chain.specs.Chain.{Ascends, logical_of}
use Rattle.extended_chain.specs.declared.chain.LogicalSpec.{LogicalSpec}

-- no record stands before an earlier one
pub heads_rise : (specs : List LogicalSpec) (j k : ℕ) → Ascends specs → j ≤ k → k < length specs → (logical_of specs j).head ≤ (logical_of specs k).head
heads_rise specs j zero ascends h inside = let same : j ≡ 0 = omega arith in rw same (omega arith)
heads_rise specs j (suc k) ascends h inside = elim (cases_lt k j) [
  | inl last ↦ let same : j ≡ suc k = omega arith in rw same (omega arith)
  | inr earlier ↦
      let before : (logical_of specs j).head ≤ (logical_of specs k).head = heads_rise specs j k ascends earlier (omega arith) in
      let here : (logical_of specs k).head < (logical_of specs (k + 1)).head = ascends.rises k (omega arith) in
      rw (← add-one k) (omega (arith, before, here))
]

-- the records behind the first
pub ascends_rest : (s : LogicalSpec) (specs : List LogicalSpec) → Ascends (s ∷ specs) → Ascends specs
ascends_rest s specs ascends =
    let next : (k : ℕ) → suc k + 1 ≡ suc (k + 1) = λ k. omega arith in
    record {
      ahead = λ k h. ascends.ahead (suc k) (omega arith);
      rises = λ k h. subst (λ (n : ℕ). (logical_of specs k).head < (logical_of (s ∷ specs) n).head) (next k) (ascends.rises (suc k) (omega arith));
      fits = λ k h. ascends.fits (suc k) (omega arith);
    }
