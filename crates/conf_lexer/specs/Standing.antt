-- What a token of a text is, seen alone, and the order of tokens.
use Rattle.std.specs.Prelude.{◌≡◌, ℕ, ◌+◌, ◌<◌, ◌≤◌, List, [], ◌∷◌, length, take, drop, Some}
use Rattle.std.specs.Str.{IsUtf8}
use Rattle.conf_lexer.specs.Text.{piece_of}
use Rattle.conf_lexer.specs.declared.tokens.Token.{Token}

-- the token lies in the text, its bytes are UTF-8, and it is the first piece of the text from its place on
pub record StandsIn (text : List ℕ) (t : Token) : Type 0 where
  pub within : t.span.at + t.span.len ≤ length text
  pub utf8 : IsUtf8 (take t.span.len (drop t.span.at text))
  pub piece : piece_of (drop t.span.at text) ≡ Some (record { kind = Some t.kind; len = t.span.len })

-- the tokens stand from a place on, none of them empty, each behind the one before it
abbrev pub InOrder : ℕ → List Token → Type 0
InOrder place [] = Unit {0}
InOrder place (t ∷ ts) = (place ≤ t.span.at) × (0 < t.span.len) × InOrder (t.span.at + t.span.len) ts
