-- Each token of a text stands in it, in order.
use Rattle.std.proofs.Common.{◌≡◌, ℕ, zero, suc, ◌+◌, ◌-◌, ◌==◌, ◌<◌, ◌≤◌, true, Option, Some, None, is_some, Result, Ok, Err, List, [], ◌∷◌, ◌++◌, length, take, drop, codes, All, arith, refl, ap, sym, subst, ◌∙◌}
use Rattle.std.proofs.lemmas.Bool.Decides.{nat_tests}
use Rattle.std.proofs.lemmas.List.{drop-drop}
use Rattle.std.proofs.lemmas.List.Elements.{All-nil, All-cons, All-append, All-same}
use Rattle.std.proofs.lemmas.Str.{IsUtf8-from_ascii}
use Rattle.std.proofs.lemmas.Str.Ascii.{IsAscii-nil, IsAscii-cons}
use Rattle.std.specs.Str.{IsUtf8}
use Rattle.conf_lexer.proofs.Behind.{given, one_begins}
use Rattle.conf_lexer.proofs.Utf8.{text_utf8}
use Rattle.conf_lexer.proofs.Within.{piece_within, same_piece}
use Rattle.conf_lexer.specs.Standing.{InOrder, StandsIn}
use Rattle.conf_lexer.specs.Text.{begins, begins_line, comment_len, double_len, followed, is_space, is_text, line_len, mark_of, piece_of, piece_then, single_len, skipped, spelled, tokens_at, tokens_from, tokens_of, word_len}
use Rattle.conf_lexer.specs.declared.pieces.Piece.{Piece}
use Rattle.conf_lexer.specs.declared.tokens.Token.{Token}
use Rattle.conf_lexer.specs.declared.tokens.TokenKind.{TokenKind}
use Rattle.conf_lexer.specs.declared.tokens.TokenKind.TheVariants.{Word, Double, Single}

-- what is skipped is no token
skipped_kind : (o : Option ℕ) (p : Piece) → skipped o ≡ Some p → p.kind ≡ None
skipped_kind None p e = absurd (cc)
skipped_kind (Some n) p e = sym (ap (λ q. q.kind) (same_piece _ p e))

no_token : (o : Option ℕ) (p : Piece) (kind : TokenKind) → skipped o ≡ Some p → p.kind ≡ Some kind → ⊥
no_token o p kind e h = let f : p.kind ≡ None = skipped_kind o p e in cc

spelled_utf8 : (kind : TokenKind) (s : List ℕ) (o : Option ℕ) (p : Piece) → spelled kind s o ≡ Some p → IsUtf8 (take p.len s)
spelled_utf8 kind s None p e = absurd (cc)
spelled_utf8 kind s (Some n) p e = given (is_text (take n s)) (Some (record { kind = Some kind; len = n })) None p (λ t h. let f : n ≡ p.len = ap (λ q. q.len) (same_piece _ p h) in subst (λ (k : ℕ). IsUtf8 (take k s)) f (text_utf8 (take n s) t)) (λ _ h. absurd (cc)) e

mark_low : (x : ℕ) → is_some (mark_of x) ≡ true → x < 128
mark_low x e = grind (arith, nat_tests)

mark_utf8 : (x : ℕ) (s : List ℕ) (p : Piece) → is_some (mark_of x) ≡ true → 1 ≡ p.len → IsUtf8 (take p.len (x ∷ s))
mark_utf8 x s p t f = subst (λ (k : ℕ). IsUtf8 (take k (x ∷ s))) f (IsUtf8-from_ascii (x ∷ []) (IsAscii-cons x [] (mark_low x t) IsAscii-nil))

plus_utf8 : (s : List ℕ) (p : Piece) → begins s (codes "+=") ≡ true → 2 ≡ p.len → IsUtf8 (take p.len s)
plus_utf8 [] p t f = absurd (cc)
plus_utf8 (x ∷ []) p t f = absurd (cc (one_begins x 43 61))
plus_utf8 (x ∷ y ∷ s) p t f =
    let first : x < 128 = grind (arith, nat_tests) in
    let second : y < 128 = grind (arith, nat_tests) in
    subst (λ (k : ℕ). IsUtf8 (take k (x ∷ y ∷ s))) f (IsUtf8-from_ascii (x ∷ y ∷ []) (IsAscii-cons x (y ∷ []) first (IsAscii-cons y [] second IsAscii-nil)))

token_utf8 : (s : List ℕ) (p : Piece) (kind : TokenKind) → piece_of s ≡ Some p → p.kind ≡ Some kind → IsUtf8 (take p.len s)
token_utf8 [] p kind e h = absurd (cc)
token_utf8 (x ∷ s) p kind e h =
    given (is_space x) _ _ p (λ _ e1. absurd (no_token (Some 1) p kind e1 h)) (λ _ e1.
    given (is_some (mark_of x)) _ _ p (λ t e2. mark_utf8 x s p t (ap (λ q. q.len) (same_piece _ p e2))) (λ _ e2.
    given (x == 34) _ _ p (λ _ e3. spelled_utf8 Double (x ∷ s) (double_len (x ∷ s)) p e3) (λ _ e3.
    given (x == 39) _ _ p (λ _ e4. spelled_utf8 Single (x ∷ s) (single_len (x ∷ s)) p e4) (λ _ e4.
    given (begins_line x (x ∷ s)) _ _ p (λ _ e5. absurd (no_token (Some (line_len (x ∷ s))) p kind e5 h)) (λ _ e5.
    given (begins (x ∷ s) (codes "/*")) _ _ p (λ _ e6. absurd (no_token (comment_len (x ∷ s)) p kind e6 h)) (λ _ e6.
    given (begins (x ∷ s) (codes "+=")) _ _ p (λ t e7. plus_utf8 (x ∷ s) p t (ap (λ q. q.len) (same_piece _ p e7))) (λ _ e7.
    spelled_utf8 Word (x ∷ s) (word_len (x ∷ s)) p e7) e6) e5) e4) e3) e2) e1) e

-- the token that a piece is
one_stands : (text : List ℕ) (at : ℕ) (p : Piece) (kind : Option TokenKind) → at + p.len ≤ length text → piece_of (drop at text) ≡ Some p → p.kind ≡ kind → All (StandsIn text) (tokens_at at (record { kind = kind; len = p.len }))
one_stands text at p None high e h = All-nil (StandsIn text)
one_stands text at p (Some kind) high e h =
    let t : Token = record { kind = kind; span = record { at = at; len = p.len } } in
    let spelling : p ≡ record { kind = Some kind; len = p.len } = ap (λ k. record { kind = k; len = p.len }) h in
    let stands : StandsIn text t = record { within = high; utf8 = token_utf8 (drop at text) p kind e h; piece = e ∙ ap Some spelling } in
    All-cons (StandsIn text) t [] stands (All-nil (StandsIn text))

followed_ok : (xs : List Token) (r : Result (List Token) ℕ) (ts : List Token) → followed xs r ≡ Ok ts → (more : List Token) × ((r ≡ Ok more) × (ts ≡ xs ++ more))
followed_ok xs (Ok more) ts e = (more, (refl, cc))
followed_ok xs (Err place) ts e = absurd (cc)

then_ok : (at : ℕ) (o : Option Piece) (rest : ℕ → Result (List Token) ℕ) (ts : List Token) → piece_then at o rest ≡ Ok ts → (p : Piece) × ((o ≡ Some p) × (followed (tokens_at at p) (rest (p.len - 1)) ≡ Ok ts))
then_ok at None rest ts e = absurd (cc)
then_ok at (Some p) rest ts e = (p, (refl, e))

-- the byte behind the first one
next : (text : List ℕ) (at : ℕ) (x : ℕ) (rest : List ℕ) → drop at text ≡ x ∷ rest → drop (at + 1) text ≡ rest
next text at x rest e = sym (drop-drop 1 at text) ∙ ap (drop 1) e

stands_from : (text : List ℕ) (at n : ℕ) (rest : List ℕ) (ts : List Token) → drop at text ≡ rest → at + length rest ≤ length text → tokens_from at n rest ≡ Ok ts → All (StandsIn text) ts
stands_from text at n [] ts e high h = let f : ts ≡ [] = cc in All-same (StandsIn text) ts [] f (All-nil (StandsIn text))
stands_from text at (suc n) (x ∷ rest) ts e high h = stands_from text (at + 1) n rest ts (next text at x rest e) (omega arith) h
stands_from text at zero (x ∷ rest) ts e high h =
    let found = then_ok at (piece_of (x ∷ rest)) (λ n. tokens_from (at + 1) n rest) ts h in
    let p : Piece = found.0 in
    let fits = piece_within (x ∷ rest) p found.1.0 in
    let low : p.len ≤ length (x ∷ rest) = fits.1 in
    let split = followed_ok (tokens_at at p) (tokens_from (at + 1) (p.len - 1) rest) ts found.1.1 in
    let here : All (StandsIn text) (tokens_at at p) = one_stands text at p p.kind (omega arith) (ap piece_of e ∙ found.1.0) refl in
    let behind : All (StandsIn text) split.0 = stands_from text (at + 1) (p.len - 1) rest split.0 (next text at x rest e) (omega arith) split.1.0 in
    All-same (StandsIn text) ts (tokens_at at p ++ split.0) split.1.1 (All-append (StandsIn text) (tokens_at at p) split.0 here behind)

pub each_stands : (text : List ℕ) (ts : List Token) → tokens_of text ≡ Ok ts → All (StandsIn text) ts
each_stands text ts e = stands_from text 0 0 text ts refl (omega arith) e

weaker : (a b : ℕ) (ts : List Token) → a ≤ b → InOrder b ts → InOrder a ts
weaker a b [] h o = tt
weaker a b (t ∷ ts) h o = let low : b ≤ t.span.at = o.0 in (omega arith, o.1, o.2)

piece_order : (at : ℕ) (len : ℕ) (kind : Option TokenKind) (more : List Token) → 0 < len → InOrder (at + len) more → InOrder at (tokens_at at (record { kind = kind; len = len }) ++ more)
piece_order at len None more low o = weaker at (at + len) more (omega arith) o
piece_order at len (Some kind) more low o = (omega arith, low, o)

order_same : (a b : ℕ) (xs ys : List Token) → a ≡ b → xs ≡ ys → InOrder a xs → InOrder b ys
order_same a b xs ys e f o = subst (InOrder b) f (subst (λ (k : ℕ). InOrder k xs) e o)

order_from : (at n : ℕ) (rest : List ℕ) (ts : List Token) → n ≤ length rest → tokens_from at n rest ≡ Ok ts → InOrder (at + n) ts
order_from at n [] ts h e = let f : [] ≡ ts = cc in subst (InOrder (at + n)) f tt
order_from at (suc n) (x ∷ rest) ts h e = order_same (at + 1 + n) (at + suc n) ts ts (omega arith) refl (order_from (at + 1) n rest ts (omega arith) e)
order_from at zero (x ∷ rest) ts h e =
    let found = then_ok at (piece_of (x ∷ rest)) (λ n. tokens_from (at + 1) n rest) ts e in
    let p : Piece = found.0 in
    let fits = piece_within (x ∷ rest) p found.1.0 in
    let low : 0 < p.len = fits.0 in
    let high : p.len ≤ length (x ∷ rest) = fits.1 in
    let split = followed_ok (tokens_at at p) (tokens_from (at + 1) (p.len - 1) rest) ts found.1.1 in
    let behind : InOrder (at + 1 + (p.len - 1)) split.0 = order_from (at + 1) (p.len - 1) rest split.0 (omega arith) split.1.0 in
    let here : InOrder at (tokens_at at p ++ split.0) = piece_order at p.len p.kind split.0 low (order_same (at + 1 + (p.len - 1)) (at + p.len) split.0 split.0 (omega arith) refl behind) in
    order_same at (at + 0) (tokens_at at p ++ split.0) ts (omega arith) (sym split.1.1) here

pub in_order : (text : List ℕ) (ts : List Token) → tokens_of text ≡ Ok ts → InOrder 0 ts
in_order text ts e = order_from 0 0 text ts (omega arith) e
