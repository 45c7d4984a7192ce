-- What two texts say together, and what the pieces of a text say.
use Rattle.std.proofs.Common.{◌≡◌, ℕ, zero, suc, ◌+◌, ◌-◌, ◌==◌, ◌<◌, ◌≤◌, Bool, true, false, ◌&&◌, ◌||◌, not, Option, Some, None, is_some, Result, Ok, Err, List, [], ◌∷◌, ◌++◌, length, map, take, drop, codes, if◌then◌else◌, nat_lt, arith, refl, ap, sym, ◌∙◌, add_assoc, append-nil, length-append, length-drop}
use Rattle.std.proofs.lemmas.Bool.Decides.{nat_tests}
use Rattle.std.proofs.lemmas.List.{map-append, take-append-le}
use Rattle.std.specs.List.{prefix_len}
use Rattle.conf_lexer.proofs.Behind.{and_true, chosen, comment_stays, double_stays, given, later_stays, one_begins, prefix_stays, through_stays, word_stays}
use Rattle.conf_lexer.proofs.Whole.{followed_nil, followed_twice, piece_more}
use Rattle.conf_lexer.proofs.Within.{piece_within, skipped_len, spelled_kind, spelled_len}
use Rattle.conf_lexer.specs.Joined.{ArePieces, ClosesJoined, HasNone, HasTokens, IsInPieces, Joins, both, closes, closes_from, closes_then, goes_on, is_closed, is_word, moved, moved_token, piece_tokens, place_behind}
use Rattle.conf_lexer.specs.Text.{begins, begins_line, behind_double, comment_len, double_len, followed, is_space, is_text, line_len, mark_of, piece_at, piece_of, piece_then, single_len, skipped, spelled, through, through_comment, tokens_at, tokens_from, tokens_of, word_len}
use Rattle.conf_lexer.specs.declared.pieces.Piece.{Piece}
use Rattle.conf_lexer.specs.declared.tokens.Token.{Token}
use Rattle.conf_lexer.specs.declared.tokens.TokenKind.{TokenKind}
use Rattle.conf_lexer.specs.declared.tokens.TokenKind.TheVariants.{Word, Double, Single}

skipped_stays : (o q : Option ℕ) (p : Piece) → (o ≡ Some p.len → q ≡ Some p.len) → skipped o ≡ Some p → skipped q ≡ Some p
skipped_stays o q p f e = let h : o ≡ Some p.len = skipped_len o p e in let g : q ≡ Some p.len = f h in ap skipped (g ∙ sym h) ∙ e

spelled_stays : (kind : TokenKind) (s b : List ℕ) (o q : Option ℕ) (p : Piece) → p.len ≤ length s → (o ≡ Some p.len → q ≡ Some p.len) → spelled kind s o ≡ Some p → spelled kind (s ++ b) q ≡ Some p
spelled_stays kind s b o q p high f e =
    let h : o ≡ Some p.len = spelled_len kind s o p e in
    let front : take p.len (s ++ b) ≡ take p.len s = take-append-le p.len s b high in
    let there : spelled kind s (Some p.len) ≡ Some p = ap (spelled kind s) (sym h) ∙ e in
    ap (spelled kind (s ++ b)) (f h) ∙ ap (λ bytes. if is_text bytes then Some (record { kind = Some kind; len = p.len }) else None) front ∙ there

-- a piece that goes on has a byte behind it, where it is closed
short : (m n : ℕ) (g : Bool) → (nat_lt m n || not g) ≡ true → g ≡ true → m < n
short m n true e h = grind (arith, nat_tests)
short m n false e h = absurd (cc)

or_left : (t u : Bool) → t ≡ true → (t || u) ≡ true
or_left true u e = refl
or_left false u e = absurd (cc)

or_right : (t u : Bool) → u ≡ true → (t || u) ≡ true
or_right true u e = refl
or_right false u e = e

line_short : (x : ℕ) (s : List ℕ) (p : Piece) → is_closed (x ∷ s) p ≡ true → begins_line x (x ∷ s) ≡ true → p.len < length (x ∷ s)
line_short x s p closed t = short p.len (length (x ∷ s)) (goes_on (x ∷ s) p) closed (or_left (begins_line x (x ∷ s)) (is_word p.kind) t)

word_short : (x : ℕ) (s : List ℕ) (p : Piece) → is_closed (x ∷ s) p ≡ true → spelled Word (x ∷ s) (word_len (x ∷ s)) ≡ Some p → p.len < length (x ∷ s)
word_short x s p closed e = short p.len (length (x ∷ s)) (goes_on (x ∷ s) p) closed (or_right (begins_line x (x ∷ s)) (is_word p.kind) (ap is_word (spelled_kind Word (x ∷ s) (word_len (x ∷ s)) p e)))

line_stays : (x : ℕ) (s b : List ℕ) (p : Piece) → p.len < length (x ∷ s) → skipped (Some (line_len (x ∷ s))) ≡ Some p → skipped (Some (line_len (x ∷ (s ++ b)))) ≡ Some p
line_stays x s b p low e =
    let h : 1 + prefix_len (λ c. not (c == 10)) s ≡ p.len = cc (skipped_len (Some (line_len (x ∷ s))) p e) in
    let front : prefix_len (λ c. not (c == 10)) (s ++ b) ≡ prefix_len (λ c. not (c == 10)) s = prefix_stays (λ c. not (c == 10)) s b (omega arith) in
    ap (λ n. skipped (Some (1 + n))) front ∙ e

-- with two bytes each test is as before
two_stay : (x y : ℕ) (s b : List ℕ) (p : Piece) → p.len ≤ length (x ∷ y ∷ s) → is_closed (x ∷ y ∷ s) p ≡ true → piece_at x (x ∷ y ∷ s) ≡ Some p → piece_at x (x ∷ y ∷ (s ++ b)) ≡ Some p
two_stay x y s b p high closed e =
    chosen (is_space x) _ _ _ _ p (λ _ e1. e1) (λ _ e1.
    chosen (is_some (mark_of x)) _ _ _ _ p (λ _ e2. e2) (λ _ e2.
    chosen (x == 34) _ _ _ _ p (λ _ e3. spelled_stays Double (x ∷ y ∷ s) b (double_len (x ∷ y ∷ s)) (double_len (x ∷ y ∷ (s ++ b))) p high (later_stays 1 (behind_double (y ∷ s)) (behind_double (y ∷ (s ++ b))) p.len (λ j h _. double_stays (y ∷ s) b j h)) e3) (λ _ e3.
    chosen (x == 39) _ _ _ _ p (λ _ e4. spelled_stays Single (x ∷ y ∷ s) b (single_len (x ∷ y ∷ s)) (single_len (x ∷ y ∷ (s ++ b))) p high (later_stays 1 (through 39 (y ∷ s)) (through 39 (y ∷ (s ++ b))) p.len (λ j h _. through_stays 39 (y ∷ s) b j h)) e4) (λ _ e4.
    chosen (begins_line x (x ∷ y ∷ s)) _ _ _ _ p (λ t e5. line_stays x (y ∷ s) b p (line_short x (y ∷ s) p closed t) e5) (λ _ e5.
    chosen (begins (x ∷ y ∷ s) (codes "/*")) _ _ _ _ p (λ _ e6. skipped_stays (comment_len (x ∷ y ∷ s)) (comment_len (x ∷ y ∷ (s ++ b))) p (later_stays 2 (through_comment s) (through_comment (s ++ b)) p.len (λ j h _. comment_stays s b j h)) e6) (λ _ e6.
    chosen (begins (x ∷ y ∷ s) (codes "+=")) _ _ _ _ p (λ _ e7. e7) (λ _ e7.
    spelled_stays Word (x ∷ y ∷ s) b (word_len (x ∷ y ∷ s)) (word_len (x ∷ y ∷ (s ++ b))) p high (λ h. word_stays (x ∷ y ∷ s) b p.len h (word_short x (y ∷ s) p closed e7)) e7) e6) e5) e4) e3) e2) e1) e

-- a byte that is a piece and doesn't go on is white space or a mark
one_stays : (x : ℕ) (b : List ℕ) (p : Piece) → 0 < p.len → is_closed (x ∷ []) p ≡ true → piece_at x (x ∷ []) ≡ Some p → piece_at x (x ∷ b) ≡ Some p
one_stays x b p low closed e =
    chosen (is_space x) _ _ _ _ p (λ _ e1. e1) (λ _ e1.
    chosen (is_some (mark_of x)) _ _ _ _ p (λ _ e2. e2) (λ _ e2. absurd (
    given (x == 34) _ _ p (λ _ e3. cc) (λ _ e3.
    given (x == 39) _ _ p (λ _ e4. cc) (λ _ e4.
    given (begins_line x (x ∷ [])) _ _ p (λ t e5. let h : p.len < length (x ∷ []) = line_short x [] p closed t in omega arith) (λ _ e5.
    given (begins (x ∷ []) (codes "/*")) _ _ p (λ t e6. cc (one_begins x 47 42)) (λ _ e6.
    given (begins (x ∷ []) (codes "+=")) _ _ p (λ t e7. cc (one_begins x 43 61)) (λ _ e7.
    let h : p.len < length (x ∷ []) = word_short x [] p closed e7 in omega arith) e6) e5) e4) e3) e2)) e1) e

-- a closed piece is the same before any text
piece_stays : (s b : List ℕ) (p : Piece) → is_closed s p ≡ true → piece_of s ≡ Some p → piece_of (s ++ b) ≡ Some p
piece_stays [] b p closed e = absurd (cc)
piece_stays (x ∷ []) b p closed e = one_stays x b p (piece_within (x ∷ []) p e).0 closed e
piece_stays (x ∷ y ∷ s) b p closed e = two_stay x y s b p (piece_within (x ∷ y ∷ s) p e).1 closed e

both_followed : (xs : List Token) (r q : Result (List Token) ℕ) → both (followed xs r) q ≡ followed xs (both r q)
both_followed xs (Ok more) q = sym (followed_twice xs more q)
both_followed xs (Err place) q = refl

closes_piece : (s : List ℕ) (o : Option Piece) (rest : ℕ → Bool) → closes_then s o rest ≡ true → (p : Piece) × ((o ≡ Some p) × (is_closed s p ≡ true) × (rest (p.len - 1) ≡ true))
closes_piece s None rest e = absurd (cc)
closes_piece s (Some p) rest e = (p, (refl, (and_true (is_closed s p) (rest (p.len - 1)) e).0, (and_true (is_closed s p) (rest (p.len - 1)) e).1))

-- the tokens of a text and of what is behind it
together : (at n : ℕ) (a b : List ℕ) → n ≤ length a → closes_from n a ≡ true → tokens_from at n (a ++ b) ≡ both (tokens_from at n a) (tokens_from (at + length a) 0 b)
together at zero [] b h e = let sum : at ≡ at + 0 = omega arith in ap (λ k. tokens_from k 0 b) sum ∙ sym (followed_nil _)
together at (suc n) [] b h e = absurd (omega arith)
together at (suc n) (x ∷ a) b h e = let sum : at + 1 + length a ≡ at + length (x ∷ a) = omega arith in together (at + 1) n a b (omega arith) e ∙ ap (λ k. both (tokens_from (at + 1) n a) (tokens_from k 0 b)) sum
together at zero (x ∷ a) b h e =
    let found = closes_piece (x ∷ a) (piece_of (x ∷ a)) (λ n. closes_from n a) e in
    let p : Piece = found.0 in
    let here : piece_of (x ∷ a) ≡ Some p = found.1.0 in
    let behind : piece_of (x ∷ (a ++ b)) ≡ Some p = piece_stays (x ∷ a) b p found.1.1 here in
    let fits = piece_within (x ∷ a) p here in
    let low : 0 < p.len = fits.0 in
    let high : p.len ≤ length (x ∷ a) = fits.1 in
    let sum : at + 1 + length a ≡ at + length (x ∷ a) = omega arith in
    let rest : tokens_from (at + 1) (p.len - 1) (a ++ b) ≡ both (tokens_from (at + 1) (p.len - 1) a) (tokens_from (at + 1 + length a) 0 b) = together (at + 1) (p.len - 1) a b (omega arith) found.1.2 in
    ap (λ piece. piece_then at piece (λ k. tokens_from (at + 1) k (a ++ b))) behind ∙ ap (followed (tokens_at at p)) rest ∙ ap (λ k. followed (tokens_at at p) (both (tokens_from (at + 1) (p.len - 1) a) (tokens_from k 0 b))) sum ∙ sym (both_followed (tokens_at at p) _ _) ∙ sym (ap (λ piece. both (piece_then at piece (λ k. tokens_from (at + 1) k a)) (tokens_from (at + length (x ∷ a)) 0 b)) here)

moved_followed : (n : ℕ) (xs : List Token) (r : Result (List Token) ℕ) → moved n (followed xs r) ≡ followed (map (moved_token n) xs) (moved n r)
moved_followed n xs (Ok more) = ap Ok (map-append (moved_token n) xs more)
moved_followed n xs (Err place) = refl

moved_kind : (n at len : ℕ) (kind : Option TokenKind) → tokens_at (n + at) (record { kind = kind; len = len }) ≡ map (moved_token n) (tokens_at at (record { kind = kind; len = len }))
moved_kind n at len None = refl
moved_kind n at len (Some kind) = refl

moved_piece : (n at : ℕ) (o : Option Piece) (f g : ℕ → Result (List Token) ℕ) → ((k : ℕ) → f k ≡ moved n (g k)) → piece_then (n + at) o f ≡ moved n (piece_then at o g)
moved_piece n at None f g h = refl
moved_piece n at (Some p) f g h = ap (followed (tokens_at (n + at) p)) (h (p.len - 1)) ∙ ap (λ xs. followed xs (moved n (g (p.len - 1)))) (moved_kind n at p.len p.kind) ∙ sym (moved_followed n (tokens_at at p) (g (p.len - 1)))

-- a text that stands further on has the same tokens further on
moved_text : (n at k : ℕ) (s : List ℕ) → tokens_from (n + at) k s ≡ moved n (tokens_from at k s)
moved_text n at k [] = refl
moved_text n at (suc k) (x ∷ s) = ap (λ m. tokens_from m k s) (add_assoc n at 1) ∙ moved_text n (at + 1) k s
moved_text n at zero (x ∷ s) = moved_piece n at (piece_of (x ∷ s)) (λ k. tokens_from (n + at + 1) k s) (λ k. tokens_from (at + 1) k s) (λ k. ap (λ m. tokens_from m k s) (add_assoc n at 1) ∙ moved_text n (at + 1) k s)

pub joins : Joins
joins a b e =
    let first : 0 + length a ≡ length a + 0 = omega arith in
    together 0 0 a b (omega arith) e ∙ ap (λ k. both (tokens_of a) (tokens_from k 0 b)) first ∙ ap (both (tokens_of a)) (moved_text (length a) 0 0 b)

-- piece by piece
along : (at : ℕ) (text : List ℕ) (ps : List Piece) (rest : List ℕ) → ArePieces text ps rest → tokens_from at 0 text ≡ followed (piece_tokens at ps) (tokens_from (place_behind at ps) 0 rest)
along at text [] rest h = ap (tokens_from at 0) h ∙ sym (followed_nil _)
along at text (p ∷ ps) rest h =
    let fits = piece_within text p h.0 in
    piece_more at p text h.0 fits.0 fits.1 ∙ ap (followed (tokens_at at p)) (along (at + p.len) (drop p.len text) ps rest h.1) ∙ followed_twice (tokens_at at p) (piece_tokens (at + p.len) ps) _

pub has_tokens : HasTokens
has_tokens text ps h = along 0 text ps [] h ∙ ap Ok (append-nil (piece_tokens 0 ps))

pub has_none : HasNone
has_none text ps b rest h e = along 0 text ps (b ∷ rest) h ∙ ap (λ piece. followed (piece_tokens 0 ps) (piece_then (place_behind 0 ps) piece (λ k. tokens_from (place_behind 0 ps + 1) k rest))) e

-- each text is pieces and a rest
piece_first : (text : List ℕ) (o : Option Piece) → piece_of text ≡ o → ((p : Piece) → piece_of text ≡ Some p → (ps : List Piece) × ((rest : List ℕ) × (ArePieces (drop p.len text) ps rest × (piece_of rest ≡ None)))) → (ps : List Piece) × ((rest : List ℕ) × (ArePieces text ps rest × (piece_of rest ≡ None)))
piece_first text None e f = ([], (text, (refl, e)))
piece_first text (Some p) e f = let behind = f p e in (p ∷ behind.0, (behind.1.0, ((e, behind.1.1.0), behind.1.1.1)))

cover : (n : ℕ) (text : List ℕ) → length text ≤ n → (ps : List Piece) × ((rest : List ℕ) × (ArePieces text ps rest × (piece_of rest ≡ None)))
cover n [] h = ([], ([], (refl, refl)))
cover zero (x ∷ text) h = absurd (omega arith)
cover (suc n) (x ∷ text) h = piece_first (x ∷ text) (piece_of (x ∷ text)) refl (λ p e.
    let fits = piece_within (x ∷ text) p e in
    let low : 0 < p.len = fits.0 in
    let count : length (drop p.len (x ∷ text)) ≡ length (x ∷ text) - p.len = length-drop p.len (x ∷ text) in
    cover n (drop p.len (x ∷ text)) (omega arith))

pub in_pieces : IsInPieces
in_pieces text = cover (length text) text (omega arith)

-- what closes still does before more
closed_more : (s b : List ℕ) (p : Piece) → p.len ≤ length s → 0 < length b → is_closed (s ++ b) p ≡ true
closed_more s b p high some =
    let count : length (s ++ b) ≡ length s + length b = length-append s b in
    let low : p.len < length (s ++ b) = omega arith in
    let test : nat_lt p.len (length (s ++ b)) ≡ true = grind (arith, nat_tests) in
    or_left (nat_lt p.len (length (s ++ b))) (not (goes_on (s ++ b) p)) test

and_both : (t u : Bool) → t ≡ true → u ≡ true → (t && u) ≡ true
and_both t u e f = rw (e, f) refl

closes_more : (n : ℕ) (a b : List ℕ) → n ≤ length a → 0 < length b → closes_from n a ≡ true → closes b ≡ true → closes_from n (a ++ b) ≡ true
closes_more zero [] b h some e f = f
closes_more (suc n) [] b h some e f = absurd (omega arith)
closes_more (suc n) (x ∷ a) b h some e f = closes_more n a b (omega arith) some e f
closes_more zero (x ∷ a) b h some e f =
    let found = closes_piece (x ∷ a) (piece_of (x ∷ a)) (λ n. closes_from n a) e in
    let p : Piece = found.0 in
    let behind : piece_of (x ∷ (a ++ b)) ≡ Some p = piece_stays (x ∷ a) b p found.1.1 found.1.0 in
    let fits = piece_within (x ∷ a) p found.1.0 in
    let low : 0 < p.len = fits.0 in
    let high : p.len ≤ length (x ∷ a) = fits.1 in
    let rest : closes_from (p.len - 1) (a ++ b) ≡ true = closes_more (p.len - 1) a b (omega arith) some found.1.2 f in
    ap (λ piece. closes_then (x ∷ (a ++ b)) piece (λ k. closes_from k (a ++ b))) behind ∙ and_both (is_closed (x ∷ (a ++ b)) p) (closes_from (p.len - 1) (a ++ b)) (closed_more (x ∷ a) b p high some) rest

pub closes_joined : ClosesJoined
closes_joined a [] e f = ap closes (append-nil a) ∙ e
closes_joined a (y ∷ b) e f = closes_more 0 a (y ∷ b) (omega arith) (omega arith) e f
