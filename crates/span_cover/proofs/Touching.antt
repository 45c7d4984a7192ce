-- The blocks that a span touches.
use Rattle.std.proofs.Common.{◌≡◌, ℕ, ◌+◌, ◌-◌, ◌*◌, ◌/◌, ◌%◌, ◌<◌, ◌≤◌, ◌≢◌, ◌↔◌, ◌||◌, min, length, get_or, take, List, [], ◌∷◌, false, inl, inr, sym, ◌∙◌, arith, mul-le-mul_right}
use Rattle.std.proofs.Math.Nat.{div-mul-le_self, mul-div_cancel}
use Rattle.std.proofs.lemmas.Bool.{cases_lt}
use Rattle.std.proofs.lemmas.Nat.{div-add-mod', le-div}
use Rattle.std.proofs.lemmas.List.Folds.{list_any_more}
use Rattle.std.specs.Prelude.{IsTrue}
use Rattle.base_fields.specs.declared.spans.Span.{Span}
use Rattle.span_cover.specs.Cover.{HasMore, IsTouched, covers, has}
use Rattle.span_cover.proofs.Spans.{either, has_in, in_has, or_left, or_right, true≢false}

quotients_rise : (x y k : ℕ) → 0 < k → x ≤ y → x / k ≤ y / k
quotients_rise x y k some le = le-div (x / k) y k some (omega (arith, div-mul-le_self x k))

pub blocks_exact : (s : Span) (size block b : ℕ) → block ≢ 0 → s.at < min size (s.at + s.len) → IsTrue (has (record { at = s.at / block; len = (min size (s.at + s.len) - 1) / block - s.at / block + 1 }) b) ↔ IsTouched (s ∷ []) size block b
blocks_exact s size block b nonzero some =
    let end : ℕ = min size (s.at + s.len) in
    let order : s.at / block ≤ (end - 1) / block = quotients_rise s.at (end - 1) block (omega arith) (omega arith) in
    let run : Span = record { at = s.at / block; len = (end - 1) / block - s.at / block + 1 } in
    let low : s.at / block * block + s.at % block ≡ s.at = div-add-mod' s.at block in
    let high : (end - 1) / block * block + (end - 1) % block ≡ end - 1 = div-add-mod' (end - 1) block in (
      λ t.
          let inside : (s.at / block ≤ b) × (b < s.at / block + ((end - 1) / block - s.at / block + 1)) = in_has run b t in
          let below : b * block ≤ (end - 1) / block * block = mul-le-mul_right block (omega arith) in
          elim (cases_lt (b * block) s.at) [
            | inl early ↦
                let same : b ≡ s.at / block = let most : b ≤ s.at / block = le-div b s.at block (omega arith) (omega arith) in omega arith in
                (s.at, or_left (has s s.at) false (has_in s s.at (omega arith) (omega arith)), omega arith, omega arith)
            | inr late ↦ (b * block, or_left (has s (b * block)) false (has_in s (b * block) (omega arith) (omega arith)), omega arith, mul-div_cancel b (omega arith))
          ],
      λ t. elim (either (has s t.0) false t.1) [
        | inl c ↦
            let inside : (s.at ≤ t.0) × (t.0 < s.at + s.len) = in_has s t.0 c in
            let least : s.at / block ≤ t.0 / block = quotients_rise s.at t.0 block (omega arith) (omega arith) in
            let most : t.0 / block ≤ (end - 1) / block = quotients_rise t.0 (end - 1) block (omega arith) (omega (arith, t.2)) in
            let is : t.0 / block ≡ b = t.3 in
            has_in run b (omega arith) (omega arith)
        | inr c ↦ absurd (true≢false (sym c))
      ],
    )

-- the blocks of one more span
pub touched_more : (spans : List Span) (i size block : ℕ) (d run : Span) (old new : List Span) → i < length spans → HasMore old run new → ((b : ℕ) → IsTrue (has run b) ↔ IsTouched (get_or spans i d ∷ []) size block b) → ((b : ℕ) → IsTrue (covers old b) ↔ IsTouched (take i spans) size block b) → (b : ℕ) → IsTrue (covers new b) ↔ IsTouched (take (i + 1) spans) size block b
touched_more spans i size block d run old new below more own before b =
    let each : (o : ℕ) → covers (take (i + 1) spans) o ≡ (covers (take i spans) o || has (get_or spans i d) o) = λ o. list_any_more (λ s. has s o) spans i d below in (
      λ t. elim (either (covers old b) (has run b) (sym (more b) ∙ t)) [
        | inl was ↦ let it : IsTouched (take i spans) size block b = (before b).0 was in
            (it.0, each it.0 ∙ or_left (covers (take i spans) it.0) (has (get_or spans i d) it.0) it.1, it.2, it.3)
        | inr is ↦ let it : IsTouched (get_or spans i d ∷ []) size block b = (own b).0 is in
            elim (either (has (get_or spans i d) it.0) false it.1) [
              | inl c ↦ (it.0, each it.0 ∙ or_right (covers (take i spans) it.0) (has (get_or spans i d) it.0) c, it.2, it.3)
              | inr c ↦ absurd (true≢false (sym c))
            ]
      ],
      λ t. more b ∙ elim (either (covers (take i spans) t.0) (has (get_or spans i d) t.0) (sym (each t.0) ∙ t.1)) [
        | inl c ↦ or_left (covers old b) (has run b) ((before b).1 (t.0, c, t.2, t.3))
        | inr c ↦ or_right (covers old b) (has run b) ((own b).1 (t.0, or_left (has (get_or spans i d) t.0) false c, t.2, t.3))
      ],
    )
