-- The tokens of a text, piece by piece.
use Rattle.std.proofs.Common.{◌≡◌, ℕ, zero, suc, ◌+◌, ◌-◌, ◌<◌, ◌≤◌, Some, None, Result, Ok, Err, List, [], ◌∷◌, ◌++◌, length, drop, arith, refl, ap, sym, ◌∙◌, append-nil, append_assoc}
use Rattle.conf_lexer.specs.Text.{followed, piece_of, piece_then, tokens_at, tokens_from, tokens_of}
use Rattle.conf_lexer.specs.declared.pieces.Piece.{Piece}
use Rattle.conf_lexer.specs.declared.tokens.Token.{Token}

pub followed_nil : (r : Result (List Token) ℕ) → followed [] r ≡ r
followed_nil (Ok more) = refl
followed_nil (Err place) = refl

pub followed_twice : (xs ys : List Token) (r : Result (List Token) ℕ) → followed xs (followed ys r) ≡ followed (xs ++ ys) r
followed_twice xs ys (Ok more) = ap Ok (sym (append_assoc xs ys more))
followed_twice xs ys (Err place) = refl

-- the bytes of a piece that are known to be of it
pub tokens_skip : (at n : ℕ) (rest : List ℕ) → n ≤ length rest → tokens_from at n rest ≡ tokens_from (at + n) 0 (drop n rest)
tokens_skip at zero [] h = refl
tokens_skip at zero (b ∷ rest) h = let e : at + 0 ≡ at = omega arith in ap (λ k. tokens_from k 0 (b ∷ rest)) (sym e)
tokens_skip at (suc n) [] h = absurd (omega arith)
tokens_skip at (suc n) (b ∷ rest) h = let e : at + 1 + n ≡ at + suc n = omega arith in tokens_skip (at + 1) n rest (omega arith) ∙ ap (λ k. tokens_from k 0 (drop n rest)) e

-- a piece, and then the rest
piece_first : (at n : ℕ) (p : Piece) (rest : List ℕ) → piece_of rest ≡ Some p → p.len ≡ n → 0 < n → n ≤ length rest → tokens_from at 0 rest ≡ followed (tokens_at at p) (tokens_from (at + n) 0 (drop n rest))
piece_first at n p [] e len low high = absurd (omega arith)
piece_first at zero p (b ∷ rest) e len low high = absurd (omega arith)
piece_first at (suc n) p (b ∷ rest) e len low high =
    let one : p.len - 1 ≡ n = omega arith in
    let sum : at + 1 + n ≡ at + suc n = omega arith in
    let tail : tokens_from (at + 1) n rest ≡ tokens_from (at + suc n) 0 (drop n rest) = tokens_skip (at + 1) n rest (omega arith) ∙ ap (λ k. tokens_from k 0 (drop n rest)) sum in
    ap (λ piece. piece_then at piece (λ k. tokens_from (at + 1) k rest)) e ∙ ap (λ k. followed (tokens_at at p) (tokens_from (at + 1) k rest)) one ∙ ap (followed (tokens_at at p)) tail

pub piece_more : (at : ℕ) (p : Piece) (rest : List ℕ) → piece_of rest ≡ Some p → 0 < p.len → p.len ≤ length rest → tokens_from at 0 rest ≡ followed (tokens_at at p) (tokens_from (at + p.len) 0 (drop p.len rest))
piece_more at p rest e low high = piece_first at p.len p rest e refl low high

-- one more piece of a whole text
pub piece_step : (at : ℕ) (tokens : List Token) (p : Piece) (whole rest : List ℕ) → tokens_of whole ≡ followed tokens (tokens_from at 0 rest) → piece_of rest ≡ Some p → 0 < p.len → p.len ≤ length rest → tokens_of whole ≡ followed (tokens ++ tokens_at at p) (tokens_from (at + p.len) 0 (drop p.len rest))
piece_step at tokens p whole rest so_far e low high = so_far ∙ ap (followed tokens) (piece_more at p rest e low high) ∙ followed_twice tokens (tokens_at at p) _

-- no piece
pub piece_none : (at : ℕ) (tokens : List Token) (whole rest : List ℕ) → tokens_of whole ≡ followed tokens (tokens_from at 0 rest) → 0 < length rest → piece_of rest ≡ None → tokens_of whole ≡ Err at
piece_none at tokens whole [] so_far h e = absurd (omega arith)
piece_none at tokens whole (b ∷ rest) so_far h e = so_far ∙ ap (λ piece. followed tokens (piece_then at piece (λ k. tokens_from (at + 1) k rest))) e

-- no rest
pub finished : (at : ℕ) (tokens : List Token) (whole rest : List ℕ) → tokens_of whole ≡ followed tokens (tokens_from at 0 rest) → length rest ≡ 0 → tokens_of whole ≡ Ok tokens
finished at tokens whole [] so_far h = so_far ∙ ap Ok (append-nil tokens)
finished at tokens whole (b ∷ rest) so_far h = absurd (omega arith)
