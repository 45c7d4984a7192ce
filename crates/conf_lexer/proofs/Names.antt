-- Names in texts that are made are one token.
use Rattle.std.proofs.Common.{◌≡◌, ℕ, ◌+◌, ◌-◌, ◌==◌, Bool, true, false, ◌&&◌, ◌||◌, not, Some, None, is_some, List, [], ◌∷◌, ◌++◌, length, take, drop, codes, nat_lt, if◌then◌else◌, arith, refl, ap, sym, ◌∙◌, length-append}
use Rattle.std.proofs.lemmas.Bool.Decides.{nat_tests}
use Rattle.std.proofs.lemmas.List.{take-append-le, drop-append-le}
use Rattle.std.proofs.Math.Seq.{drop-length, take-length}
use Rattle.std.proofs.lemmas.Str.{IsUtf8-append, IsUtf8-from_ascii}
use Rattle.std.proofs.lemmas.Str.Ascii.{IsAscii-nil, IsAscii-cons}
use Rattle.std.specs.List.{list_all, prefix_len}
use Rattle.std.specs.Str.{IsUtf8}
use Rattle.conf_lexer.proofs.Behind.{and_true}
use Rattle.conf_lexer.proofs.Joined.{has_tokens}
use Rattle.conf_lexer.proofs.Utf8.{utf8_yes}
use Rattle.conf_lexer.specs.Joined.{ArePieces, closes, closes_from, closes_then}
use Rattle.conf_lexer.specs.Names.{PlainName, QuotedName, is_plain}
use Rattle.conf_lexer.specs.Text.{begins, begins_line, ends_word, is_space, is_text, later, mark_of, parts_len, piece_of, single_len, spelled, through, word_len, word_part}
use Rattle.conf_lexer.specs.declared.tokens.TokenKind.TheVariants.{Word, Single}

-- a plain byte is none that isn't
apart : (x k : ℕ) (t : Bool) → (t ≡ true → x ≡ k) → is_plain x ≡ true → is_plain k ≡ false → t ≡ false
apart x k true f h g = let e : x ≡ k = f refl in absurd (cc (sym h ∙ ap is_plain e ∙ g))
apart x k false f h g = refl

plain_not : (x k : ℕ) → is_plain x ≡ true → is_plain k ≡ false → (x == k) ≡ false
plain_not x k h g = apart x k (x == k) (λ e. grind (arith, nat_tests)) h g

not_plain : (x k : ℕ) → is_plain x ≡ true → is_plain k ≡ false → (k == x) ≡ false
not_plain x k h g = apart x k (k == x) (λ e. grind (arith, nat_tests)) h g

front_not : (x k l : ℕ) (rest : List ℕ) → (k == x) ≡ false → begins (x ∷ rest) (k ∷ l ∷ []) ≡ false
front_not x k l rest e = rw e refl

no_space : (x : ℕ) → is_plain x ≡ true → is_space x ≡ false
no_space x h = rw (plain_not x 32 h refl, plain_not x 9 h refl, plain_not x 10 h refl, plain_not x 13 h refl) refl

no_mark : (x : ℕ) → is_plain x ≡ true → is_some (mark_of x) ≡ false
no_mark x h = rw (plain_not x 123 h refl, plain_not x 125 h refl, plain_not x 40 h refl, plain_not x 41 h refl, plain_not x 61 h refl, plain_not x 44 h refl) refl

none_of : (a b c d t : Bool) → a ≡ false → b ≡ false → c ≡ false → d ≡ false → t ≡ false → (a || b || c || d || t) ≡ false
none_of a b c d t e f g h i = rw (e, f, g, h, i) refl

goes : (x : ℕ) (rest : List ℕ) → is_plain x ≡ true → ends_word (x ∷ rest) ≡ false
goes x rest h = none_of (is_space x) (x == 34) (x == 39) (is_some (mark_of x)) (begins (x ∷ rest) (codes "+=")) (no_space x h) (plain_not x 34 h refl) (plain_not x 39 h refl) (no_mark x h) (front_not x 43 61 rest (not_plain x 43 h refl))

plain_part : (x : ℕ) (rest : List ℕ) → is_plain x ≡ true → word_part (x ∷ rest) ≡ Some 1
plain_part x rest h = rw (front_not x 36 123 rest (not_plain x 36 h refl)) refl

plain_len : (name : List ℕ) (b : ℕ) → list_all is_plain name ≡ true → is_space b ≡ true → parts_len ends_word word_part 0 (name ++ b ∷ []) ≡ Some (length name)
plain_len [] b h s = rw s refl
plain_len (x ∷ name) b h s =
    let tests = and_true (is_plain x) (list_all is_plain name) h in
    let rest : parts_len ends_word word_part 0 (name ++ b ∷ []) ≡ Some (length name) = plain_len name b tests.1 s in
    let sum : 1 + length name ≡ length (x ∷ name) = omega arith in
    rw (goes x (name ++ b ∷ []) tests.0, plain_part x (name ++ b ∷ []) tests.0) (ap (later 1) rest ∙ ap Some sum)

plain_low : (name : List ℕ) → list_all is_plain name ≡ true → list_all (λ b. nat_lt b 128) name ≡ true
plain_low [] h = refl
plain_low (x ∷ name) h =
    let tests = and_true (is_plain x) (list_all is_plain name) h in
    let test : is_plain x ≡ true = tests.0 in
    let low : nat_lt x 128 ≡ true = grind (arith, nat_tests) in
    rw low (plain_low name tests.1)

skip : {X : Type 0} (t : Bool) (a b : X) → t ≡ false → (if t then a else b) ≡ b
skip true a b e = absurd (cc)
skip false a b e = refl

plain_piece : (x : ℕ) (name : List ℕ) (b : ℕ) → list_all is_plain (x ∷ name) ≡ true → is_space b ≡ true → piece_of (x ∷ (name ++ b ∷ [])) ≡ Some (record { kind = Some Word; len = length (x ∷ name) })
plain_piece x name b h s =
    let tests = and_true (is_plain x) (list_all is_plain name) h in
    let p = tests.0 in
    let text : List ℕ = x ∷ (name ++ b ∷ []) in
    let line : begins_line x text ≡ false = rw (plain_not x 35 p refl, front_not x 47 47 (name ++ b ∷ []) (not_plain x 47 p refl)) refl in
    let there : word_len text ≡ Some (length (x ∷ name)) = plain_len (x ∷ name) b h s in
    let front : take (length (x ∷ name)) ((x ∷ name) ++ b ∷ []) ≡ x ∷ name = take-append-le (length (x ∷ name)) (x ∷ name) (b ∷ []) (omega arith) ∙ take-length (x ∷ name) in
    let low : list_all (λ c. nat_lt c 128) (x ∷ name) ≡ true = plain_low (x ∷ name) h in
    let words : is_text (x ∷ name) ≡ true = rw low refl in
    skip (is_space x) _ _ (no_space x p) ∙ skip (is_some (mark_of x)) _ _ (no_mark x p) ∙ skip (x == 34) _ _ (plain_not x 34 p refl) ∙ skip (x == 39) _ _ (plain_not x 39 p refl) ∙ skip (begins_line x text) _ _ line ∙ skip (begins text (codes "/*")) _ _ (front_not x 47 42 (name ++ b ∷ []) (not_plain x 47 p refl)) ∙ skip (begins text (codes "+=")) _ _ (front_not x 43 61 (name ++ b ∷ []) (not_plain x 43 p refl)) ∙ ap (spelled Word text) there ∙ ap (λ t. if t then Some (record { kind = Some Word; len = length (x ∷ name) }) else None) (ap is_text front ∙ words)

space_piece : (b : ℕ) → is_space b ≡ true → piece_of (b ∷ []) ≡ Some (record { kind = None; len = 1 })
space_piece b s = rw s refl

space_closes : (b : ℕ) → is_space b ≡ true → closes (b ∷ []) ≡ true
space_closes b s =
    let apart_line : begins_line b (b ∷ []) ≡ false = grind (arith, nat_tests) in
    ap (λ o. closes_then (b ∷ []) o (λ n. closes_from n [])) (space_piece b s) ∙ rw apart_line refl

closes_behind : (name rest : List ℕ) → closes_from (length name) (name ++ rest) ≡ closes rest
closes_behind [] rest = refl
closes_behind (x ∷ name) rest = closes_behind name rest

pub plain_name : PlainName
plain_name [] b low h s = absurd (omega arith)
plain_name (x ∷ name) b low h s =
    let piece : piece_of (x ∷ (name ++ b ∷ [])) ≡ Some (record { kind = Some Word; len = length (x ∷ name) }) = plain_piece x name b h s in
    let cut : drop (length (x ∷ name)) ((x ∷ name) ++ b ∷ []) ≡ b ∷ [] = drop-append-le (length (x ∷ name)) (x ∷ name) (b ∷ []) (omega arith) ∙ ap (λ front. front ++ b ∷ []) (drop-length (x ∷ name)) in
    let pieces : ArePieces (x ∷ (name ++ b ∷ [])) (record { kind = Some Word; len = length (x ∷ name) } ∷ record { kind = None; len = 1 } ∷ []) [] = (piece, (ap piece_of cut ∙ space_piece b s, ap (drop 1) cut)) in
    let count : length (x ∷ (name ++ b ∷ [])) ≡ length (x ∷ name) + 1 = length-append (x ∷ name) (b ∷ []) in
    let test : nat_lt (length (x ∷ name)) (length (x ∷ (name ++ b ∷ []))) ≡ true = grind (arith, nat_tests) in
    let less : length (x ∷ name) - 1 ≡ length name = omega arith in
    let rest : closes_from (length (x ∷ name) - 1) (name ++ b ∷ []) ≡ true = ap (λ n. closes_from n (name ++ b ∷ [])) less ∙ closes_behind name (b ∷ []) ∙ space_closes b s in
    record {
      tokens = has_tokens (x ∷ (name ++ b ∷ [])) (record { kind = Some Word; len = length (x ∷ name) } ∷ record { kind = None; len = 1 } ∷ []) pieces;
      end = ap (λ o. closes_then (x ∷ (name ++ b ∷ [])) o (λ n. closes_from n (name ++ b ∷ []))) piece ∙ rw (test, rest) refl;
    }

prefix_all : (q : ℕ → Bool) (name : List ℕ) (b : ℕ) → list_all q name ≡ true → q b ≡ false → prefix_len q (name ++ b ∷ []) ≡ length name
prefix_all q [] b h e = rw e refl
prefix_all q (x ∷ name) b h e =
    let tests = and_true (q x) (list_all q name) h in
    let rest : prefix_len q (name ++ b ∷ []) ≡ length name = prefix_all q name b tests.1 e in
    rw tests.0 (omega arith)

through_name : (name : List ℕ) → list_all (λ b. not (b == 39)) name ≡ true → through 39 (name ++ 39 ∷ []) ≡ Some (1 + length name)
through_name name h =
    let prefix : prefix_len (λ b. not (b == 39)) (name ++ 39 ∷ []) ≡ length name = prefix_all (λ b. not (b == 39)) name 39 h refl in
    let count : length (name ++ 39 ∷ []) ≡ length name + 1 = length-append name (39 ∷ []) in
    let test : nat_lt (length name) (length (name ++ 39 ∷ [])) ≡ true = grind (arith, nat_tests) in
    rw (prefix, test) refl

quote_utf8 : IsUtf8 (39 ∷ [])
quote_utf8 = IsUtf8-from_ascii (39 ∷ []) (IsAscii-cons 39 [] (omega arith) IsAscii-nil)

quoted_utf8 : (name : List ℕ) → IsUtf8 name → is_text (39 ∷ (name ++ 39 ∷ [])) ≡ true
quoted_utf8 name h = sym (utf8_yes (39 ∷ (name ++ 39 ∷ [])) (IsUtf8-append (39 ∷ []) (name ++ 39 ∷ []) quote_utf8 (IsUtf8-append name (39 ∷ []) h quote_utf8)))

closes_all : (rest : List ℕ) → closes_from (length rest) rest ≡ true
closes_all [] = refl
closes_all (x ∷ rest) = closes_all rest

quoted_closes : (t u : Bool) → u ≡ true → ((t || true) && u) ≡ true
quoted_closes true u e = e
quoted_closes false u e = e

pub quoted_name : QuotedName
quoted_name name u h =
    let text : List ℕ = 39 ∷ (name ++ 39 ∷ []) in
    let n : ℕ = length name + 2 in
    let inner : length (name ++ 39 ∷ []) ≡ length name + 1 = length-append name (39 ∷ []) in
    let count : length (39 ∷ (name ++ 39 ∷ [])) ≡ length name + 2 = omega arith in
    let sum : 1 + (1 + length name) ≡ length name + 2 = omega arith in
    let less : length name + 2 - 1 ≡ length (name ++ 39 ∷ []) = omega arith in
    let there : single_len text ≡ Some n = ap (later 1) (through_name name h) ∙ ap Some sum in
    let front : take n text ≡ text = ap (λ k. take k text) (sym count) ∙ take-length text in
    let behind : drop n text ≡ [] = ap (λ k. drop k text) (sym count) ∙ drop-length text in
    let piece : piece_of text ≡ Some (record { kind = Some Single; len = n }) = ap (spelled Single text) there ∙ ap (λ t. if t then Some (record { kind = Some Single; len = n }) else None) (ap is_text front ∙ quoted_utf8 name u) in
    let pieces : ArePieces text (record { kind = Some Single; len = n } ∷ []) [] = (piece, behind) in
    let rest : closes_from (n - 1) (name ++ 39 ∷ []) ≡ true = ap (λ k. closes_from k (name ++ 39 ∷ [])) less ∙ closes_all (name ++ 39 ∷ []) in
    record {
      tokens = has_tokens text (record { kind = Some Single; len = n } ∷ []) pieces;
      end = ap (λ o. closes_then text o (λ k. closes_from k (name ++ 39 ∷ []))) piece ∙ quoted_closes (nat_lt n (length text)) (closes_from (n - 1) (name ++ 39 ∷ [])) rest;
    }
