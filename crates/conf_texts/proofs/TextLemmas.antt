-- A text has at most as many tokens as bytes.
use Rattle.std.proofs.Common.{ℕ, ◌+◌, ◌≤◌, suc, All, List, [], ◌∷◌, length, arith}
use Rattle.conf_lexer.specs.Standing.{InOrder, StandsIn}
use Rattle.conf_lexer.specs.declared.tokens.Token.{Token}

behind-within : (bytes : List ℕ) (p : ℕ) (ts : List Token) → p ≤ length bytes → InOrder p ts → All (StandsIn bytes) ts → p + length ts ≤ length bytes
behind-within bytes p [] h order each = omega arith
behind-within bytes p (t ∷ ts) h order each =
    let first : StandsIn bytes t = each 0 t (omega arith) in
    let later : All (StandsIn bytes) ts = λ k d below. each (suc k) d (omega arith) in
    let rest : t.span.at + t.span.len + length ts ≤ length bytes = behind-within bytes (t.span.at + t.span.len) ts first.within order.2 later in
    let from = order.0 in
    let some = order.1 in
    omega arith

pub tokens-within : (bytes : List ℕ) (ts : List Token) → InOrder 0 ts → All (StandsIn bytes) ts → length ts ≤ length bytes
tokens-within bytes ts order each =
    let h : 0 + length ts ≤ length bytes = behind-within bytes 0 ts (omega arith) order each in
    omega arith
