-- Laws of the tokens: texts that are put together, and texts that are given piece by piece.
use Rattle.std.specs.Prelude.{◌≡◌, ℕ, zero, suc, ◌+◌, ◌-◌, ◌||◌, ◌&&◌, Bool, true, false, not, nat_lt, List, [], ◌∷◌, ◌++◌, length, map, drop, Option, Some, None, Result, Ok, Err}
use Rattle.conf_lexer.specs.Text.{begins_line, followed, piece_of, tokens_at, tokens_of}
use Rattle.conf_lexer.specs.declared.pieces.Piece.{Piece}
use Rattle.conf_lexer.specs.declared.tokens.Token.{Token}
use Rattle.conf_lexer.specs.declared.tokens.TokenKind.{TokenKind}
use Rattle.conf_lexer.specs.declared.tokens.TokenKind.TheVariants.{Word}

-- a bare word, and a comment to the end of the line, may go on in what is put behind them
abbrev pub is_word : Option TokenKind → Bool
is_word (Some Word) = true
is_word other = false

abbrev pub goes_on : List ℕ → Piece → Bool
goes_on [] p = false
goes_on (b ∷ rest) p = begins_line b (b ∷ rest) || is_word p.kind

-- the first piece of a text has a byte behind it, or is one that doesn't go on
abbrev pub is_closed : List ℕ → Piece → Bool
is_closed text p = nat_lt p.len (length text) || not (goes_on text p)

abbrev pub closes_then : List ℕ → Option Piece → (ℕ → Bool) → Bool
closes_then text None rest = false
closes_then text (Some p) rest = is_closed text p && rest (p.len - 1)

-- the text has tokens, and its last piece doesn't go on in what is put behind it; so many of its bytes are the rest of a piece
abbrev pub closes_from : ℕ → List ℕ → Bool
closes_from n [] = true
closes_from (suc n) (b ∷ rest) = closes_from n rest
closes_from zero (b ∷ rest) = closes_then (b ∷ rest) (piece_of (b ∷ rest)) (λ n. closes_from n rest)

abbrev pub closes : List ℕ → Bool
closes text = closes_from 0 text

-- tokens, so many bytes further on
abbrev pub moved_token : ℕ → Token → Token
moved_token n t = record { kind = t.kind; span = record { at = n + t.span.at; len = t.span.len } }

abbrev pub moved : ℕ → Result (List Token) ℕ → Result (List Token) ℕ
moved n (Ok tokens) = Ok (map (moved_token n) tokens)
moved n (Err place) = Err (n + place)

-- tokens, and then those of what is behind them
abbrev pub both : Result (List Token) ℕ → Result (List Token) ℕ → Result (List Token) ℕ
both (Ok tokens) more = followed tokens more
both (Err place) more = Err place

-- what two texts say together, where the first one closes
abbrev pub Joins : Type 0
Joins = (a b : List ℕ) → closes a ≡ true → tokens_of (a ++ b) ≡ both (tokens_of a) (moved (length a) (tokens_of b))

-- two texts that close do so together
abbrev pub ClosesJoined : Type 0
ClosesJoined = (a b : List ℕ) → closes a ≡ true → closes b ≡ true → closes (a ++ b) ≡ true

-- the text is these pieces, one after another, and then the rest
abbrev pub ArePieces : List ℕ → List Piece → List ℕ → Type 0
ArePieces text [] rest = text ≡ rest
ArePieces text (p ∷ ps) rest = (piece_of text ≡ Some p) × ArePieces (drop p.len text) ps rest

-- the tokens of pieces of which the first stands at a place, and the place behind them
abbrev pub piece_tokens : ℕ → List Piece → List Token
piece_tokens at [] = []
piece_tokens at (p ∷ ps) = tokens_at at p ++ piece_tokens (at + p.len) ps

abbrev pub place_behind : ℕ → List Piece → ℕ
place_behind at [] = at
place_behind at (p ∷ ps) = place_behind (at + p.len) ps

-- the tokens of a text are those of its pieces, whichever list of them is given
abbrev pub HasTokens : Type 0
HasTokens = (text : List ℕ) (ps : List Piece) → ArePieces text ps [] → tokens_of text ≡ Ok (piece_tokens 0 ps)

-- a text has no tokens where a rest has no first piece, and the refusal names the start of that rest
abbrev pub HasNone : Type 0
HasNone = (text : List ℕ) (ps : List Piece) (b : ℕ) (rest : List ℕ) → ArePieces text ps (b ∷ rest) → piece_of (b ∷ rest) ≡ None → tokens_of text ≡ Err (place_behind 0 ps)

-- each text is pieces, and then a rest that has no first piece: the empty one, or the first place that is none
abbrev pub IsInPieces : Type 0
IsInPieces = (text : List ℕ) → (ps : List Piece) × ((rest : List ℕ) × (ArePieces text ps rest × (piece_of rest ≡ None)))
