-- Where a token of a text leads, and what it makes whole.
use Rattle.std.specs.Prelude.{ℕ, Bool, List, take, drop, codes, Result, Ok, Err}
use Rattle.std.specs.Str.{bytes_eq}
use Rattle.base_fields.specs.Results.{◌>>=◌, or_else, refused_by, when}
use Rattle.base_fields.specs.declared.names.Pair.{Pair}
use Rattle.conf_lexer.specs.declared.tokens.Token.{Token}
use Rattle.conf_lexer.specs.declared.tokens.TokenKind.{TokenKind}
use Rattle.conf_lexer.specs.declared.tokens.TokenKind.TheVariants as kind
use Rattle.conf_words.specs.Values.{value_of}
use Rattle.conf_items.specs.Grammar.{allowed, moved}
use Rattle.conf_items.specs.Outline.{closed, opened, with_setting}
use Rattle.conf_items.specs.declared.items.Place.{Place}
use Rattle.conf_items.specs.declared.items.Word.{Word}
use Rattle.conf_items.specs.declared.grammar.Lexeme.{Lexeme}
use Rattle.conf_items.specs.declared.grammar.Lexeme.TheVariants as lexeme
use Rattle.conf_items.specs.declared.grammar.Mark.TheVariants as mark
use Rattle.conf_items.specs.declared.grammar.Move.{Move}
use Rattle.conf_items.specs.declared.grammar.Output.{Output}
use Rattle.conf_items.specs.declared.grammar.Output.TheVariants as output
use Rattle.conf_items.specs.declared.grammar.Parser.{Parser}
use Rattle.conf_texts.specs.declared.fault.WalkFault.{WalkFault}
use Rattle.conf_texts.specs.declared.fault.WalkFault.TheVariants.{BadText, Unset}
use Rattle.conf_texts.specs.declared.steps.Taken.{Taken}
use Rattle.conf_texts.specs.declared.steps.Taken.TheVariants as reads
use Rattle.conf_texts.specs.declared.texts.Reading.{Reading}
use Rattle.conf_texts.specs.declared.texts.Text.{Text}

abbrev pub spelling_of : Text → Token → List ℕ
spelling_of text token = take token.span.len (drop token.span.at text.bytes)

abbrev pub place_of : Text → Token → Place
place_of text token = record { text = text.number; at = token.span.at }

abbrev pub word_of : Text → Token → List ℕ → Word
word_of text token value = record { text = value; place = place_of text token }

-- a token of a kind, with its value and place
abbrev pub shaped : TokenKind → Bool → Word → Lexeme
shaped kind.Word include word = lexeme.Bare word include
shaped kind.Double include word = lexeme.Quoted word
shaped kind.Single include word = lexeme.Quoted word
shaped kind.OpenBrace include word = lexeme.OpenBrace word.place
shaped kind.CloseBrace include word = lexeme.CloseBrace
shaped kind.OpenParen include word = lexeme.OpenParen
shaped kind.CloseParen include word = lexeme.CloseParen
shaped kind.Equals include word = lexeme.Assign mark.Equals
shaped kind.PlusEquals include word = lexeme.Assign mark.PlusEquals
shaped kind.Comma include word = lexeme.Comma

abbrev pub is_include : Text → Token → Bool
is_include text token = bytes_eq (spelling_of text token) (codes "include")

abbrev pub with_value : Text → Token → List ℕ → Lexeme
with_value text token value = shaped token.kind (is_include text token) (word_of text token value)

-- where a token leads: it can't stand there, or a variable of it has no value, or it goes on
abbrev pub stepped : List Pair → Text → Parser → Token → Result Move WalkFault
stepped vars text parser token = do
  _ ← when (allowed parser token.kind) token (BadText text.name token.span.at)
  value ← refused_by Unset (value_of vars token.kind (spelling_of text token))
  or_else (moved parser (with_value text token value)) (BadText text.name token.span.at)

-- ---- what a token makes whole; `included` is the walk of a text at the next nesting

abbrev pub taken : (List ℕ → Reading → Result Reading WalkFault) → Output → Reading → Result Reading WalkFault
taken included output.Nothing reading = Ok reading
taken included (output.Setting setting) reading = Ok (record reading { outline = with_setting reading.outline setting })
taken included (output.Open head) reading = Ok (record reading { outline = opened reading.outline head })
taken included output.Close reading = Ok (record reading { outline = closed reading.outline })
taken included (output.Include name) reading = included name.text reading

-- what is read once a text that is included here was walked
abbrev pub met : (List ℕ → Reading → Result Reading WalkFault) → Taken → Result Reading WalkFault
met included (reads.Goes reading) = Ok reading
met included (reads.Includes name reading) = included name.text reading

abbrev pub reading_of : Taken → Reading
reading_of (reads.Goes reading) = reading
reading_of (reads.Includes name reading) = reading
