-- The tokens of names in texts that are made: a plain bare word, and a text between single quotes.
use Rattle.std.specs.Prelude.{◌≡◌, ℕ, ◌+◌, ◌==◌, ◌<◌, ◌||◌, Bool, true, not, List, [], ◌∷◌, ◌++◌, length, Ok}
use Rattle.std.specs.List.{list_all}
use Rattle.std.specs.Str.{IsUtf8}
use Rattle.conf_lexer.specs.Joined.{closes}
use Rattle.conf_lexer.specs.Text.{is_name_byte, is_space, tokens_of}
use Rattle.conf_lexer.specs.declared.tokens.TokenKind.{TokenKind}
use Rattle.conf_lexer.specs.declared.tokens.TokenKind.TheVariants.{Word, Single}

-- a letter, a digit, an underscore, a full stop or a dash
abbrev pub is_plain : ℕ → Bool
is_plain b = is_name_byte b || b == 46 || b == 45

-- the text has one token, which stands at its start, and what is put behind it doesn't lengthen that
pub record IsOne (text : List ℕ) (kind : TokenKind) (len : ℕ) : Type 0 where
  pub tokens : tokens_of text ≡ Ok (record { kind = kind; span = record { at = 0; len = len } } ∷ [])
  pub end : closes text ≡ true

-- a plain name and a byte of white space
abbrev pub PlainName : Type 0
PlainName = (name : List ℕ) (b : ℕ) → 0 < length name → list_all is_plain name ≡ true → is_space b ≡ true → IsOne (name ++ b ∷ []) Word (length name)

-- text without a single quote, between single quotes
abbrev pub QuotedName : Type 0
QuotedName = (name : List ℕ) → IsUtf8 name → list_all (λ b. not (b == 39)) name ≡ true → IsOne (39 ∷ (name ++ 39 ∷ [])) Single (length name + 2)
