-- A piece has a byte, and its bytes are of the text.
use Rattle.std.proofs.Common.{◌≡◌, ℕ, zero, suc, ◌+◌, ◌-◌, ◌==◌, ◌<◌, ◌≤◌, Bool, true, false, ◌&&◌, ◌||◌, not, Option, Some, None, is_some, List, [], ◌∷◌, length, take, drop, codes, if◌then◌else◌, nat_lt, arith, refl, ap, sym, length-drop}
use Rattle.std.proofs.lemmas.Bool.Decides.{nat_tests}
use Rattle.std.proofs.lemmas.List.Sums.{prefix_len-le-length}
use Rattle.std.specs.List.{position, prefix_len}
use Rattle.conf_lexer.proofs.Behind.{and_true, bind_given, given, one_begins, quote_stays}
use Rattle.conf_lexer.proofs.Steps.{word_above}
use Rattle.conf_lexer.specs.Text.{◌>>=◌, at_quote, begins, begins_line, behind_double, body_len, comment_len, double_len, ends_word, is_quotable, is_space, is_text, later, line_len, mark_of, parts_len, piece_of, single_len, skipped, spelled, through, through_comment, word_len, word_part}
use Rattle.conf_lexer.specs.declared.pieces.Piece.{Piece}
use Rattle.conf_lexer.specs.declared.tokens.TokenKind.{TokenKind}
use Rattle.conf_lexer.specs.declared.tokens.TokenKind.TheVariants.{Word, Double, Single}

pub later_given : (n : ℕ) (o : Option ℕ) (k : ℕ) → later n o ≡ Some k → (j : ℕ) × ((o ≡ Some j) × (n + j ≡ k))
later_given n None k e = absurd (cc)
later_given n (Some j) k e = (j, (refl, cc))

same : (a b : ℕ) → Some a ≡ Some b → a ≡ b
same a b e = cc

pub same_piece : (a b : Piece) → Some a ≡ Some b → a ≡ b
same_piece a b e = cc

pub parts_within : (ends : List ℕ → Bool) (part : List ℕ → Option ℕ) (n : ℕ) (s : List ℕ) (k : ℕ) → parts_len ends part n s ≡ Some k → k ≤ length s
parts_within ends part n [] k e = let f : 0 ≡ k = same 0 k e in omega arith
parts_within ends part (suc n) (x ∷ s) k e =
    let r = later_given 1 (parts_len ends part n s) k e in
    let low : r.0 ≤ length s = parts_within ends part n s r.0 r.1.0 in
    let sum : 1 + r.0 ≡ k = r.1.1 in
    omega arith
parts_within ends part zero (x ∷ s) k e = given (ends (x ∷ s)) (Some 0) (part (x ∷ s) >>= λ n. later 1 (parts_len ends part (n - 1) s)) k (λ _ h. let f : 0 ≡ k = same 0 k h in omega arith) (λ _ h. bind_given (part (x ∷ s)) (λ n. later 1 (parts_len ends part (n - 1) s)) k (λ n _ g. let r = later_given 1 (parts_len ends part (n - 1) s) k g in let low : r.0 ≤ length s = parts_within ends part (n - 1) s r.0 r.1.0 in let sum : 1 + r.0 ≡ k = r.1.1 in omega arith) h) e

comment_within : (s : List ℕ) (k : ℕ) → through_comment s ≡ Some k → k ≤ length s
comment_within [] k e = absurd (cc)
comment_within (x ∷ []) k e = given (begins (x ∷ []) (codes "*/")) (Some 2) None k (λ h _. absurd (cc (one_begins x 42 47))) (λ _ h. absurd (cc)) e
comment_within (x ∷ y ∷ s) k e = given (begins (x ∷ y ∷ s) (codes "*/")) (Some 2) (later 1 (through_comment (y ∷ s))) k (λ _ h. let f : 2 ≡ k = same 2 k h in omega arith) (λ _ h. let r = later_given 1 (through_comment (y ∷ s)) k h in let low : r.0 ≤ length (y ∷ s) = comment_within (y ∷ s) r.0 r.1.0 in let sum : 1 + r.0 ≡ k = r.1.1 in omega arith) e

place_within : (t : Bool) (m k n : ℕ) → (t ≡ true → m < n) → (if t then Some m else None) ≡ Some k → k < n
place_within true m k n f e = let h : m < n = f refl in let g : m ≡ k = same m k e in omega arith
place_within false m k n f e = absurd (cc)

pub through_within : (c : ℕ) (s : List ℕ) (k : ℕ) → through c s ≡ Some k → k ≤ length s
through_within c s k e =
    let r = later_given 1 (position (λ b. b == c) s) k e in
    let low : r.0 < length s = place_within (nat_lt (prefix_len (λ b. not (b == c)) s) (length s)) (prefix_len (λ b. not (b == c)) s) r.0 (length s) (λ h. grind (arith, nat_tests)) r.1.0 in
    let sum : 1 + r.0 ≡ k = r.1.1 in
    omega arith

pub double_within : (t : List ℕ) (n : ℕ) → behind_double t ≡ Some n → n ≤ length t
double_within t n e = bind_given (body_len t) (λ k. if at_quote (drop k t) && is_quotable (take k t) then Some (k + 1) else None) n (λ k h g. given (at_quote (drop k t) && is_quotable (take k t)) (Some (k + 1)) None n (λ i j. let quote = quote_stays (drop k t) [] (and_true (at_quote (drop k t)) (is_quotable (take k t)) i).0 in let some : 0 < length (drop k t) = quote.0 in let count : length (drop k t) ≡ length t - k = length-drop k t in let f : k + 1 ≡ n = same (k + 1) n j in omega arith) (λ _ j. absurd (cc)) g) e

-- what is said of a length is said of the piece's
pub skipped_len : (o : Option ℕ) (p : Piece) → skipped o ≡ Some p → o ≡ Some p.len
skipped_len None p e = absurd (cc)
skipped_len (Some n) p e = ap Some (ap (λ q. q.len) (same_piece _ p e))

pub spelled_len : (kind : TokenKind) (s : List ℕ) (o : Option ℕ) (p : Piece) → spelled kind s o ≡ Some p → o ≡ Some p.len
spelled_len kind s None p e = absurd (cc)
spelled_len kind s (Some n) p e = given (is_text (take n s)) (Some (record { kind = Some kind; len = n })) None p (λ _ h. ap Some (ap (λ q. q.len) (same_piece _ p h))) (λ _ h. absurd (cc)) e

pub spelled_kind : (kind : TokenKind) (s : List ℕ) (o : Option ℕ) (p : Piece) → spelled kind s o ≡ Some p → p.kind ≡ Some kind
spelled_kind kind s None p e = absurd (cc)
spelled_kind kind s (Some n) p e = given (is_text (take n s)) (Some (record { kind = Some kind; len = n })) None p (λ _ h. sym (ap (λ q. q.kind) (same_piece _ p h))) (λ _ h. absurd (cc)) e

comment_some : (s : List ℕ) (k : ℕ) → through_comment s ≡ Some k → 0 < length s
comment_some [] k e = absurd (cc)
comment_some (x ∷ s) k e = omega arith

two_begin : (s : List ℕ) (u v : ℕ) → begins s (u ∷ v ∷ []) ≡ true → 2 ≤ length s
two_begin [] u v e = absurd (cc)
two_begin (x ∷ []) u v e = absurd (cc (one_begins x u v))
two_begin (x ∷ y ∷ s) u v e = omega arith

abbrev Fits : List ℕ → Piece → Type 0
Fits s p = (0 < p.len) × (p.len ≤ length s)

fits_at : (s : List ℕ) (p : Piece) (n : ℕ) → 0 < n → n ≤ length s → Some n ≡ Some p.len → Fits s p
fits_at s p n low high e = let f : n ≡ p.len = same n p.len e in (omega arith, omega arith)

behind_fits : (s : List ℕ) (p : Piece) (n : ℕ) (o : Option ℕ) → ((j : ℕ) → o ≡ Some j → n + j ≤ length s) → 0 < n → later n o ≡ Some p.len → Fits s p
behind_fits s p n o f low e =
    let r = later_given n o p.len e in
    let high : n + r.0 ≤ length s = f r.0 r.1.0 in
    let sum : n + r.0 ≡ p.len = r.1.1 in
    (omega arith, omega arith)

line_fits : (x : ℕ) (s : List ℕ) (p : Piece) → skipped (Some (line_len (x ∷ s))) ≡ Some p → Fits (x ∷ s) p
line_fits x s p e =
    let high : prefix_len (λ c. not (c == 10)) s ≤ length s = prefix_len-le-length (λ c. not (c == 10)) s in
    fits_at (x ∷ s) p (line_len (x ∷ s)) (omega arith) (omega arith) (skipped_len (Some (line_len (x ∷ s))) p e)

block_fits : (s : List ℕ) (p : Piece) → skipped (comment_len s) ≡ Some p → Fits s p
block_fits s p e = behind_fits s p 2 (through_comment (drop 2 s)) (λ j h.
    let some : 0 < length (drop 2 s) = comment_some (drop 2 s) j h in
    let low : j ≤ length (drop 2 s) = comment_within (drop 2 s) j h in
    let count : length (drop 2 s) ≡ length s - 2 = length-drop 2 s in
    omega arith) (omega arith) (skipped_len (comment_len s) p e)

double_fits : (x : ℕ) (s : List ℕ) (p : Piece) → spelled Double (x ∷ s) (double_len (x ∷ s)) ≡ Some p → Fits (x ∷ s) p
double_fits x s p e = behind_fits (x ∷ s) p 1 (behind_double s) (λ j h. let low : j ≤ length s = double_within s j h in omega arith) (omega arith) (spelled_len Double (x ∷ s) (double_len (x ∷ s)) p e)

single_fits : (x : ℕ) (s : List ℕ) (p : Piece) → spelled Single (x ∷ s) (single_len (x ∷ s)) ≡ Some p → Fits (x ∷ s) p
single_fits x s p e = behind_fits (x ∷ s) p 1 (through 39 s) (λ j h. let low : j ≤ length s = through_within 39 s j h in omega arith) (omega arith) (spelled_len Single (x ∷ s) (single_len (x ∷ s)) p e)

word_fits : (s : List ℕ) (p : Piece) → ends_word s ≡ false → spelled Word s (word_len s) ≡ Some p → Fits s p
word_fits s p go e =
    let there : word_len s ≡ Some p.len = spelled_len Word s (word_len s) p e in
    (word_above s p.len go there, parts_within ends_word word_part 0 s p.len there)

plain : (a b c d t : Bool) → a ≡ false → d ≡ false → b ≡ false → c ≡ false → t ≡ false → (a || b || c || d || t) ≡ false
plain a b c d t e f g h i = rw (e, f, g, h, i) refl

pub piece_within : (s : List ℕ) (p : Piece) → piece_of s ≡ Some p → Fits s p
piece_within [] p e = absurd (cc)
piece_within (x ∷ s) p e =
    given (is_space x) _ _ p (λ _ e1. fits_at (x ∷ s) p 1 (omega arith) (omega arith) (skipped_len (Some 1) p e1)) (λ t1 e1.
    given (is_some (mark_of x)) _ _ p (λ _ e2. fits_at (x ∷ s) p 1 (omega arith) (omega arith) (ap Some (ap (λ q. q.len) (same_piece _ p e2)))) (λ t2 e2.
    given (x == 34) _ _ p (λ _ e3. double_fits x s p e3) (λ t3 e3.
    given (x == 39) _ _ p (λ _ e4. single_fits x s p e4) (λ t4 e4.
    given (begins_line x (x ∷ s)) _ _ p (λ _ e5. line_fits x s p e5) (λ t5 e5.
    given (begins (x ∷ s) (codes "/*")) _ _ p (λ _ e6. block_fits (x ∷ s) p e6) (λ t6 e6.
    given (begins (x ∷ s) (codes "+=")) _ _ p (λ t7 e7. fits_at (x ∷ s) p 2 (omega arith) (two_begin (x ∷ s) 43 61 t7) (ap Some (ap (λ q. q.len) (same_piece _ p e7)))) (λ t7 e7.
    word_fits (x ∷ s) p (plain (is_space x) (x == 34) (x == 39) (is_some (mark_of x)) (begins (x ∷ s) (codes "+=")) t1 t2 t3 t4 t7) e7) e6) e5) e4) e3) e2) e1) e
