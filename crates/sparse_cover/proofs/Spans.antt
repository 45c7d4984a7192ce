-- The offsets of one block, and of many.
use Rattle.std.proofs.Common.{◌≡◌, ℕ, ◌+◌, ◌*◌, ◌<◌, ◌≤◌, List, Bool, true, false, IsTrue, subst, arith, inl, inr}
use Rattle.std.proofs.lemmas.Bool.{cases_lt}
use Rattle.std.proofs.Math.Nat.{add-mul, mul-le-mul_right}
use Rattle.std.proofs.lemmas.Bool.Decides.{nat_tests}
use Rattle.base_fields.specs.declared.spans.Span.{Span}
use Rattle.span_cover.specs.Cover.{Meets, has}
use Rattle.sparse_text.specs.Blocks.{block_span}
use Rattle.sparse_cover.specs.Stretches.{AreMet, blocks_span}

-- what one block has, all have
wider : (at len all long o : ℕ) → all ≤ at → at + len ≤ all + long → IsTrue (has (record { at = at; len = len }) o) → IsTrue (has (record { at = all; len = long }) o)
wider at len all long o low high h = grind (arith, nat_tests)

-- a block that is met is met by all
pub met_in : (cover : List Span) (block first count b : ℕ) → first ≤ b → b < first + count → Meets cover (block_span block b) → Meets cover (blocks_span block first count)
met_in cover block first count b not_before before (o, covered, inside) =
    let low : first * block ≤ b * block = mul-le-mul_right block not_before in
    let high : (b + 1) * block ≤ (first + count) * block = mul-le-mul_right block (omega (arith, before)) in
    let one = add-mul b 1 block in
    let all = add-mul first count block in
    (o, covered, wider (b * block) block (first * block) (count * block) o low (omega (arith, high, one, all)) inside)

-- a span of one block
pub one_block : (cover : List Span) (block b n : ℕ) → n ≡ 1 → Meets cover (blocks_span block b n) → Meets cover (block_span block b)
one_block cover block b n is h =
    let one : n * block ≡ block = rw is (omega arith) in
    subst (λ (len : ℕ). Meets cover (record { at = b * block; len = len })) one h

-- one more block
pub met_more : (cover : List Span) (block first count : ℕ) → AreMet cover block first count → Meets cover (block_span block (first + count)) → AreMet cover block first (count + 1)
met_more cover block first count h more b not_before before = elim (cases_lt b (first + count)) [
  | inl old ↦ h b not_before old
  | inr new ↦
      let is : first + count ≡ b = omega (arith, before, new) in
      subst (λ (n : ℕ). Meets cover (block_span block n)) is more
]

-- a test that doesn't hold
pub not_true : (b : Bool) → b ≡ false → b ≡ true → ⊥
not_true b is h = cc
