-- What the texts of a configuration say, and the first thing that is met in them: a function of a name, a nesting and what was read before.
use Rattle.std.specs.Prelude.{ℕ, zero, suc, List, [], ◌∷◌, length, Result, Ok, Err}
pub use Rattle.base_fields.specs.Results.{◌>>=◌, or_else, refused_by, when}
use Rattle.base_fields.specs.declared.names.Pair.{Pair}
use Rattle.outside.specs.Files.{Tree}
use Rattle.conf_lexer.specs.declared.tokens.Token.{Token}
use Rattle.conf_items.specs.Grammar.{may_end, start}
use Rattle.conf_items.specs.declared.grammar.Parser.{Parser}
use Rattle.conf_texts.specs.Steps.{stepped, taken}
use Rattle.conf_texts.specs.Texts.{nothing_read, text_read, with_text}
use Rattle.conf_texts.specs.declared.fault.WalkFault.{WalkFault}
use Rattle.conf_texts.specs.declared.fault.WalkFault.TheVariants.{BadText, DeepInclude}
use Rattle.conf_texts.specs.declared.texts.Reading.{Reading}
use Rattle.conf_texts.specs.declared.texts.Text.{Text}
use Rattle.conf_walk.specs.declared.walking.Texts.{Texts}

-- ---- one text: its tokens one after another; `included` is the walk of a text at the next nesting

abbrev pub tokens_walked : (List ℕ → Reading → Result Reading WalkFault) → List Pair → Text → List Token → Parser → Reading → Result Reading WalkFault
tokens_walked included vars text [] parser reading = when (may_end parser) reading (BadText text.name (length text.bytes))
tokens_walked included vars text (token ∷ rest) parser reading = do
  made ← stepped vars text parser token
  after ← taken included made.output reading
  tokens_walked included vars text rest made.parser after

-- ---- texts: the walk of a name, with so many nestings left for it

unfoldable pub text_walked : List Pair → Tree → ℕ → List ℕ → Reading → Result Reading WalkFault
text_walked vars file zero name reading = Err (DeepInclude name)
text_walked vars file (suc left) name reading = do
  text ← text_read file name reading
  tokens_walked (text_walked vars file left) vars text text.tokens start (with_text reading text)

-- the main text has nesting 0, and the deepest has 8
abbrev pub nestings : ℕ
nestings = 9

abbrev pub texts_in : Reading → Texts
texts_in reading = record { items = reading.outline.items; names = reading.names }

abbrev pub texts_of : List Pair → Tree → List ℕ → Result Texts WalkFault
texts_of vars file name = text_walked vars file nestings name nothing_read >>= λ reading. Ok (texts_in reading)
