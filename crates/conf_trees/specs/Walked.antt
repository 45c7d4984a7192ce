-- The lexemes of a text's tokens, and the walk of a tree, a definition for each case of a tree.
use Rattle.std.specs.Prelude.{◌≡◌, ℕ, List, [], ◌∷◌, Result, Ok}
use Rattle.base_fields.specs.declared.names.Pair.{Pair}
use Rattle.conf_lexer.specs.declared.tokens.Token.{Token}
use Rattle.conf_words.specs.Values.{value_of}
use Rattle.conf_items.specs.Outline.{closed, opened, with_setting}
use Rattle.conf_items.specs.declared.grammar.Lexeme.{Lexeme}
use Rattle.conf_items.specs.declared.outline.Outline.{Outline}
use Rattle.conf_grammar.specs.Trees.{Items, NoItem, IncludeThen, OptionThen, SectionThen}
use Rattle.base_fields.specs.Results.{◌>>=◌}
use Rattle.conf_texts.specs.Steps.{spelling_of, with_value}
use Rattle.conf_texts.specs.declared.fault.WalkFault.{WalkFault}
use Rattle.conf_texts.specs.declared.texts.Reading.{Reading}
use Rattle.conf_texts.specs.declared.texts.Text.{Text}

-- a token's spelling has a value, and with it the token is that lexeme
abbrev pub HasLexeme : List Pair → Text → Token → Lexeme → Type 0
HasLexeme vars text token l = (value : List ℕ) × (value_of vars token.kind (spelling_of text token) ≡ Ok value) × (l ≡ with_value text token value)

-- the same of each token
abbrev pub LexemesOf : List Pair → Text → List Token → List Lexeme → Type 0
LexemesOf vars text [] [] = Unit {0}
LexemesOf vars text (token ∷ tokens) (l ∷ ls) = HasLexeme vars text token l × LexemesOf vars text tokens ls
LexemesOf vars text tokens ls = ⊥

-- what is read once the text of a name was, where something was read before
abbrev pub Walk : Type 0
Walk = List ℕ → Reading → Result Reading WalkFault

abbrev pub with_outline : Reading → Outline → Reading
with_outline reading outline = record reading { outline = outline }

-- what is read once the items of a tree were; `included` is the walk of a text that stands in the place of an include
abbrev pub tree_walked : Walk → Items → Reading → Result Reading WalkFault
tree_walked included NoItem reading = Ok reading
tree_walked included (IncludeThen name rest) reading = do
  after ← included name.text reading
  tree_walked included rest after
tree_walked included (OptionThen setting rest) reading = tree_walked included rest (with_outline reading (with_setting reading.outline setting))
tree_walked included (SectionThen head inside rest) reading = do
  within ← tree_walked included inside (with_outline reading (opened reading.outline head))
  tree_walked included rest (with_outline within (closed within.outline))
