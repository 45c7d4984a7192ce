-- What the tokens of a text are: the first piece of a text, rule by rule, and then the whole text. The language is this project's own.
use Rattle.std.specs.Prelude.{ℕ, zero, suc, ◌+◌, ◌-◌, ◌==◌, ◌||◌, ◌&&◌, Bool, false, not, nat_eq, nat_le, nat_lt, List, [], ◌∷◌, ◌++◌, length, take, drop, codes, Option, Some, None, is_some, option_map, option_to_list, true, ◌≡◌, Result, Ok, Err, if◌then◌else◌}
use Rattle.std.specs.List.{list_all, position, prefix_len, starts_with}
use Rattle.std.specs.Str.{is_utf8}
use Rattle.conf_lexer.specs.declared.pieces.Piece.{Piece}
use Rattle.conf_lexer.specs.declared.tokens.LexFault.{LexFault}
use Rattle.conf_lexer.specs.declared.tokens.LexFault.TheVariants.{BadText, NoMemory}
use Rattle.conf_lexer.specs.declared.tokens.Token.{Token}
use Rattle.conf_lexer.specs.declared.tokens.TokenKind.{TokenKind}
use Rattle.conf_lexer.specs.declared.tokens.TokenKind.TheVariants.{Word, Double, Single, OpenBrace, CloseBrace, OpenParen, CloseParen, Equals, PlusEquals, Comma}

-- space, tab, line feed and carriage return
abbrev pub is_space : ℕ → Bool
is_space b = b == 32 || b == 9 || b == 10 || b == 13

-- a letter or an underscore
abbrev pub is_letter : ℕ → Bool
is_letter b = (nat_le 97 b && nat_le b 122) || (nat_le 65 b && nat_le b 90) || b == 95

-- a letter, an underscore or a digit
abbrev pub is_name_byte : ℕ → Bool
is_name_byte b = is_letter b || (nat_le 48 b && nat_le b 57)

-- the marks of one byte: { } ( ) = ,
abbrev pub mark_of : ℕ → Option TokenKind
mark_of b = if b == 123 then Some OpenBrace else (if b == 125 then Some CloseBrace else (if b == 40 then Some OpenParen else (if b == 41 then Some CloseParen else (if b == 61 then Some Equals else (if b == 44 then Some Comma else None)))))

-- the text begins with these bytes
abbrev pub begins : List ℕ → List ℕ → Bool
begins text front = starts_with nat_eq text front

infixl 10 ◌>>=◌
abbrev pub ◌>>=◌ : {A B : Type 0} → Option A → (A → Option B) → Option B
None >>= f = None
(Some x) >>= f = f x

-- a length with so many bytes before it
abbrev pub later : ℕ → Option ℕ → Option ℕ
later n None = None
later n (Some k) = Some (n + k)

-- the length through the first such byte
abbrev pub through : ℕ → List ℕ → Option ℕ
through b text = later 1 (position (λ c. c == b) text)

-- the length through the first star and stroke
abbrev pub through_comment : List ℕ → Option ℕ
through_comment [] = None
through_comment (b ∷ rest) = if begins (b ∷ rest) (codes "*/") then Some 2 else later 1 (through_comment rest)

-- the length of the NAME at the front, 0 where there is none: a letter or an underscore, then letters, underscores and digits
abbrev pub name_len : List ℕ → ℕ
name_len [] = 0
name_len (b ∷ rest) = if is_letter b then prefix_len is_name_byte (b ∷ rest) else 0

-- behind a NAME stand `}`, or `:-` and then anything through the next `}`
abbrev pub behind_name : List ℕ → Option ℕ
behind_name text = if begins text (codes "}") then Some 1 else (if begins text (codes ":-") then later 2 (through 125 (drop 2 text)) else None)

-- behind `${` stand a NAME and what belongs behind it
abbrev pub behind_dollar : List ℕ → Option ℕ
behind_dollar text = if name_len text == 0 then None else later (name_len text) (behind_name (drop (name_len text) text))

-- the length of the `${NAME}` or `${NAME:-text}` at the front of a text that begins with `${`
abbrev pub variable_len : List ℕ → Option ℕ
variable_len text = later 2 (behind_dollar (drop 2 text))

-- a part of a bare word: a variable or a byte
abbrev pub word_part : List ℕ → Option ℕ
word_part text = if begins text (codes "${") then variable_len text else Some 1

-- an escape: a backslash, and then `"`, a backslash, `n` or `t`
abbrev pub escape_len : List ℕ → Option ℕ
escape_len [] = None
escape_len (b ∷ rest) = if b == 34 || b == 92 || b == 110 || b == 116 then Some 2 else None

-- a part of a double-quoted text: an escape, a variable or a byte
abbrev pub quoted_part : List ℕ → Option ℕ
quoted_part text = if begins text (codes "\\") then escape_len (drop 1 text) else word_part text

-- a bare word ends before white space, a quote, a mark of one byte and `+=`
abbrev pub ends_word : List ℕ → Bool
ends_word [] = true
ends_word (b ∷ rest) = is_space b || b == 34 || b == 39 || is_some (mark_of b) || begins (b ∷ rest) (codes "+=")

-- the length of the parts at the front up to where they end, of which so many bytes are the rest of a part; None where one of them is no part
abbrev pub parts_len : (List ℕ → Bool) → (List ℕ → Option ℕ) → ℕ → List ℕ → Option ℕ
parts_len ends part n [] = Some 0
parts_len ends part (suc n) (b ∷ rest) = later 1 (parts_len ends part n rest)
parts_len ends part zero (b ∷ rest) = if ends (b ∷ rest) then Some 0 else (part (b ∷ rest) >>= λ n. later 1 (parts_len ends part (n - 1) rest))

-- a bare word
abbrev pub word_len : List ℕ → Option ℕ
word_len text = parts_len ends_word word_part 0 text

-- a byte, but a backslash takes the next one with it; at the end of a text there is none
abbrev pub pair_part : List ℕ → Option ℕ
pair_part text = if begins text (codes "\\") then (if nat_le 2 (length text) then Some 2 else None) else Some 1

-- a double quote stands here
abbrev pub at_quote : List ℕ → Bool
at_quote text = begins text (codes "\"")

-- parts that end only where the text does
abbrev pub never : List ℕ → Bool
never text = false

-- the bytes before the first double quote that isn't escaped
abbrev pub body_len : List ℕ → Option ℕ
body_len text = parts_len at_quote pair_part 0 text

-- the bytes between double quotes are variables, escapes and bytes
abbrev pub is_quotable : List ℕ → Bool
is_quotable body = is_some (parts_len never quoted_part 0 body)

-- behind a double quote: a body and the quote that closes it; its extent is found first
abbrev pub behind_double : List ℕ → Option ℕ
behind_double text = body_len text >>= λ n. if at_quote (drop n text) && is_quotable (take n text) then Some (n + 1) else None

-- a double-quoted text, with its quotes
abbrev pub double_len : List ℕ → Option ℕ
double_len text = later 1 (behind_double (drop 1 text))

-- a single-quoted text, with its quotes
abbrev pub single_len : List ℕ → Option ℕ
single_len text = later 1 (through 39 (drop 1 text))

-- a comment that begins with a stroke and a star: its end is looked for behind these
abbrev pub comment_len : List ℕ → Option ℕ
comment_len text = later 2 (through_comment (drop 2 text))

-- a piece that is no token
abbrev pub skipped : Option ℕ → Option Piece
skipped len = len >>= λ n. Some (record { kind = None; len = n })

-- the bytes are UTF-8; bytes below 128 are so at once, so that this computes at the texts of a proof
abbrev pub is_text : List ℕ → Bool
is_text bytes = list_all (λ b. nat_lt b 128) bytes || is_utf8 bytes

-- a token whose bytes are to be UTF-8
abbrev pub spelled : TokenKind → List ℕ → Option ℕ → Option Piece
spelled kind text len = len >>= λ n. if is_text (take n text) then Some (record { kind = Some kind; len = n }) else None

-- a comment to the end of the line begins here
abbrev pub begins_line : ℕ → List ℕ → Bool
begins_line b text = b == 35 || begins text (codes "//")

-- a first byte, and the bytes behind it before the end of the line
abbrev pub line_len : List ℕ → ℕ
line_len text = 1 + prefix_len (λ c. not (c == 10)) (drop 1 text)

-- the first piece of a text that begins with that byte: a byte of white space, a token or a comment
abbrev pub piece_at : ℕ → List ℕ → Option Piece
piece_at b text =
    if is_space b then skipped (Some 1) else (
    if is_some (mark_of b) then Some (record { kind = mark_of b; len = 1 }) else (
    if b == 34 then spelled Double text (double_len text) else (
    if b == 39 then spelled Single text (single_len text) else (
    if begins_line b text then skipped (Some (line_len text)) else (
    if begins text (codes "/*") then skipped (comment_len text) else (
    if begins text (codes "+=") then Some (record { kind = Some PlusEquals; len = 2 }) else
    spelled Word text (word_len text)))))))

-- the first piece of a text; the empty text has none
abbrev pub piece_of : List ℕ → Option Piece
piece_of [] = None
piece_of (b ∷ rest) = piece_at b (b ∷ rest)

-- the tokens that a piece at a place is: one or none
abbrev pub tokens_at : ℕ → Piece → List Token
tokens_at at p = option_to_list (option_map (λ kind. record { kind = kind; span = record { at = at; len = p.len } }) p.kind)

-- tokens before others
abbrev pub followed : List Token → Result (List Token) ℕ → Result (List Token) ℕ
followed tokens (Ok more) = Ok (tokens ++ more)
followed tokens (Err place) = Err place

-- a piece at a place and then the rest of the text, from so many bytes behind the first one; or the place, where there is no piece
abbrev pub piece_then : ℕ → Option Piece → (ℕ → Result (List Token) ℕ) → Result (List Token) ℕ
piece_then at None rest = Err at
piece_then at (Some p) rest = followed (tokens_at at p) (rest (p.len - 1))

-- the tokens of a text that stands at a place, of which so many bytes are the rest of a piece; or the start of the first piece that is none
abbrev pub tokens_from : ℕ → ℕ → List ℕ → Result (List Token) ℕ
tokens_from at n [] = Ok []
tokens_from at (suc n) (b ∷ rest) = tokens_from (at + 1) n rest
tokens_from at zero (b ∷ rest) = piece_then at (piece_of (b ∷ rest)) (λ n. tokens_from (at + 1) n rest)

-- the tokens of a text, or the start of its first piece that is none
abbrev pub tokens_of : List ℕ → Result (List Token) ℕ
tokens_of text = tokens_from 0 0 text

-- the text has no tokens, and that is where
abbrev pub Refuses : List ℕ → LexFault → Type 0
Refuses text (BadText place) = tokens_of text ≡ Err place
Refuses text NoMemory = Unit {0}
