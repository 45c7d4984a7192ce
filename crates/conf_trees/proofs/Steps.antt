-- A token whose lexeme moves is allowed, and leads where its lexeme does.
use Rattle.std.proofs.Common.{◌≡◌, ℕ, Bool, true, false, Option, Some, is_some, List, Result, Ok, refl, ap, sym, ◌∙◌}
use Rattle.base_fields.specs.declared.names.Pair.{Pair}
use Rattle.conf_lexer.specs.declared.tokens.Token.{Token}
use Rattle.conf_lexer.specs.declared.tokens.TokenKind.{TokenKind}
use Rattle.conf_lexer.specs.declared.tokens.TokenKind.TheVariants as kind
use Rattle.conf_words.specs.Values.{value_of}
use Rattle.conf_items.specs.Grammar.{allowed, moved, moved_from, some_word}
use Rattle.conf_items.specs.declared.items.Word.{Word}
use Rattle.conf_items.specs.declared.items.Place.{Place}
use Rattle.conf_items.specs.declared.grammar.Lexeme.{Lexeme}
use Rattle.conf_items.specs.declared.grammar.Lexeme.TheVariants.{Bare, Quoted, OpenBrace}
use Rattle.conf_items.specs.declared.grammar.Move.{Move}
use Rattle.conf_items.specs.declared.grammar.Next.{Next}
use Rattle.conf_items.specs.declared.grammar.Next.TheVariants as next
use Rattle.conf_items.specs.declared.grammar.Parser.{Parser}
use Rattle.base_fields.specs.Results.{◌>>=◌, or_else, refused_by, when}
use Rattle.conf_texts.specs.Steps.{is_include, shaped, spelling_of, stepped, with_value, word_of}
use Rattle.conf_texts.specs.declared.fault.WalkFault.{WalkFault}
use Rattle.conf_texts.specs.declared.fault.WalkFault.TheVariants.{Unset}
use Rattle.conf_texts.specs.declared.texts.Text.{Text}
use Rattle.conf_trees.specs.Walked.{HasLexeme}

bare_moves : (depth : ℕ) (next : Next) (word : Word) (include : Bool) → is_some (moved_from depth next (Bare word include)) ≡ is_some (moved_from depth next (Bare some_word false))
bare_moves depth next.Item word true = refl
bare_moves depth next.Item word false = refl
bare_moves depth other word include = refl

quoted_moves : (depth : ℕ) (next : Next) (word : Word) → is_some (moved_from depth next (Quoted word)) ≡ is_some (moved_from depth next (Quoted some_word))
quoted_moves depth next.Item word = refl
quoted_moves depth other word = refl

brace_moves : (depth : ℕ) (next : Next) (place : Place) → is_some (moved_from depth next (OpenBrace place)) ≡ is_some (moved_from depth next (OpenBrace some_word.place))
brace_moves depth next.Item place = refl
brace_moves depth other place = refl

-- a token of a kind moves as the kind does, whatever its value and place
shaped_moves : (parser : Parser) (k : TokenKind) (include : Bool) (word : Word) → is_some (moved parser (shaped k include word)) ≡ allowed parser k
shaped_moves parser kind.Word include word = bare_moves parser.depth parser.next word include
shaped_moves parser kind.Double include word = quoted_moves parser.depth parser.next word
shaped_moves parser kind.Single include word = quoted_moves parser.depth parser.next word
shaped_moves parser kind.OpenBrace include word = brace_moves parser.depth parser.next word.place
shaped_moves parser other include word = refl

-- a test, a value and a move that are there
passed : (allows : Bool) (token : Token) (bad : WalkFault) (wanted : Result (List ℕ) (List ℕ)) (value : List ℕ) (f : List ℕ → Option Move) (m : Move) → allows ≡ true → wanted ≡ Ok value → f value ≡ Some m →
    (when allows token bad >>= λ _. refused_by Unset wanted >>= λ x. or_else (f x) bad) ≡ Ok m
passed allows token bad wanted value f m a w e = rw (a, w, e) refl

-- where a lexeme leads, its token leads
pub leads : (vars : List Pair) (text : Text) (parser : Parser) (token : Token) (l : Lexeme) (m : Move) → HasLexeme vars text token l → moved parser l ≡ Some m → stepped vars text parser token ≡ Ok m
leads vars text parser token l m h e =
    let there : moved parser (with_value text token h.0) ≡ Some m = ap (moved parser) (sym h.2) ∙ e in
    let allows : allowed parser token.kind ≡ true = sym (shaped_moves parser token.kind (is_include text token) (word_of text token h.0)) ∙ ap is_some there in
    passed (allowed parser token.kind) token _ (value_of vars token.kind (spelling_of text token)) h.0 (λ value. moved parser (with_value text token value)) m allows h.1 there
