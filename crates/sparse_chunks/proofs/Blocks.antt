-- Blocks of the same content, one more at a time.
use Rattle.std.proofs.Common.{◌≡◌, ℕ, ◌+◌, ◌*◌, ◌<◌, List, take, drop, subst, arith, inl, inr}
use Rattle.std.proofs.lemmas.Bool.{cases_lt}
use Rattle.sparse_text.specs.Blocks.{HasForm}
use Rattle.sparse_text.specs.declared.runs.Content.{Content}

pub one_more : (block : ℕ) (window : List ℕ) (content other : Content) (n i : ℕ) → ((j : ℕ) → j < n → HasForm (take block (drop (j * block) window)) content) →
    HasForm (take block (drop (n * block) window)) other → other ≡ content → i < n + 1 → HasForm (take block (drop (i * block) window)) content
one_more block window content other n i before here same below = elim (cases_lt i n) [
  | inl less ↦ before i less
  | inr not_less ↦
      let at : n ≡ i = omega (arith, below, not_less) in
      subst (λ (k : ℕ). HasForm (take block (drop (k * block) window)) content) at (subst (λ (c : Content). HasForm (take block (drop (n * block) window)) c) same here)
]
