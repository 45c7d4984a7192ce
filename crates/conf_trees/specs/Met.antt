-- What the walk of one text meets first: its end, where a tree spells it, or what it refuses.
use Rattle.std.specs.Prelude.{◌≡◌, ℕ, true, List, [], ◌∷◌, ◌++◌, Ok, Err}
use Rattle.base_fields.specs.declared.names.Pair.{Pair}
use Rattle.conf_lexer.specs.declared.tokens.Token.{Token}
use Rattle.conf_lexer.specs.declared.tokens.TokenKind.{TokenKind}
use Rattle.conf_words.specs.Values.{value_of}
use Rattle.conf_items.specs.declared.grammar.Lexeme.{Lexeme}
use Rattle.conf_grammar.specs.Trees.{Items, Spells}
use Rattle.conf_grammar.specs.Laws.{is_of}
use Rattle.conf_texts.specs.Steps.{spelling_of}
use Rattle.conf_texts.specs.declared.texts.Reading.{Reading}
use Rattle.conf_texts.specs.declared.texts.Text.{Text}
use Rattle.conf_trees.specs.Walked.{LexemesOf, Walk}

-- each text that is included is read
abbrev pub AlwaysReads : Walk → Type 0
AlwaysReads included = (name : List ℕ) (reading : Reading) → (after : Reading) × (included name reading ≡ Ok after)

-- a text of the grammar begins so
abbrev pub BeginsText : List Lexeme → Type 0
BeginsText front = (t : Items) × (more : List Lexeme) × (Spells t (front ++ more))

-- a text of the grammar goes on with a token of that kind, whatever its value
abbrev pub GoesOn : List Lexeme → TokenKind → Type 0
GoesOn front kind = (l : Lexeme) → is_of kind l ≡ true → BeginsText (front ++ l ∷ [])

-- none does
abbrev pub Stops : List Lexeme → TokenKind → Type 0
Stops front kind = (l : Lexeme) → is_of kind l ≡ true → BeginsText (front ++ l ∷ []) → ⊥

-- the tokens in front have values and begin a text of the grammar, and then comes that one
pub record Reaches (vars : List Pair) (text : Text) (tokens : List Token) (front : List Lexeme) (token : Token) : Type 0 where
  pub before : List Token
  pub behind : List Token
  pub split : tokens ≡ before ++ token ∷ behind
  pub values : LexemesOf vars text before front
  pub begins : BeginsText front

-- what is met first: a tree spells the tokens; they only begin a text; one can't stand; or one can, and a variable of it has no value
pub data Meets (vars : List Pair) (text : Text) (tokens : List Token) : Type 0 where
  Spelled : (ls : List Lexeme) (t : Items) → LexemesOf vars text tokens ls → Spells t ls → Meets vars text tokens
  EndsEarly : (ls : List Lexeme) → LexemesOf vars text tokens ls → BeginsText ls → ((t : Items) → Spells t ls → ⊥) → Meets vars text tokens
  CannotStand : (front : List Lexeme) (token : Token) → Reaches vars text tokens front token → Stops front token.kind → Meets vars text tokens
  HasNoValue : (front : List Lexeme) (token : Token) (var : List ℕ) → Reaches vars text tokens front token → GoesOn front token.kind → value_of vars token.kind (spelling_of text token) ≡ Err var → Meets vars text tokens
