-- What is met first in the tokens of a text.
use Rattle.std.proofs.Common.{◌≡◌, ℕ, Bool, true, false, Option, Some, None, List, [], ◌∷◌, ◌++◌, Result, Ok, Err, refl, ap, sym, subst, ◌∙◌, append_assoc, append-nil}
use Rattle.base_fields.specs.declared.names.Pair.{Pair}
use Rattle.conf_lexer.specs.declared.tokens.Token.{Token}
use Rattle.conf_lexer.specs.declared.tokens.TokenKind.{TokenKind}
use Rattle.conf_lexer.specs.declared.tokens.TokenKind.TheVariants as kind
use Rattle.conf_words.specs.Values.{value_of}
use Rattle.conf_items.specs.Grammar.{allowed, may_end, start}
use Rattle.conf_items.specs.declared.items.Word.{Word}
use Rattle.conf_items.specs.declared.grammar.Lexeme.{Lexeme}
use Rattle.conf_grammar.proofs.Standing.{begins_no_tree, text_reads}
use Rattle.conf_grammar.proofs.TreesFound.{begins_tree, reads_tree}
use Rattle.conf_grammar.specs.Trees.{Items, Spells}
use Rattle.conf_grammar.specs.Laws.{Ran, is_of, outputs_of, run}
use Rattle.conf_texts.specs.Steps.{is_include, shaped, spelling_of, with_value, word_of}
use Rattle.conf_texts.specs.declared.texts.Text.{Text}
use Rattle.conf_trees.specs.Laws.{MeetsOne}
use Rattle.conf_trees.specs.Met.{BeginsText, GoesOn, Meets, Spelled, EndsEarly, CannotStand, HasNoValue, Stops}
use Rattle.conf_trees.specs.Walked.{HasLexeme, LexemesOf}
use Rattle.conf_trees.proofs.Refusing.{goes_on, stops}

-- one more token
lexemes_more : (vars : List Pair) (text : Text) (tokens : List Token) (ls : List Lexeme) (token : Token) (l : Lexeme) → LexemesOf vars text tokens ls → HasLexeme vars text token l → LexemesOf vars text (tokens ++ token ∷ []) (ls ++ l ∷ [])
lexemes_more vars text [] [] token l h k = (k, tt)
lexemes_more vars text (other ∷ tokens) (m ∷ ls) token l h k = (h.0, lexemes_more vars text tokens ls token l h.1 k)
lexemes_more vars text tokens ls token l h k = absurd h

shaped_is_of : (k : TokenKind) (include : Bool) (word : Word) → is_of k (shaped k include word) ≡ true
shaped_is_of kind.Word include word = refl
shaped_is_of kind.Double include word = refl
shaped_is_of kind.Single include word = refl
shaped_is_of kind.OpenBrace include word = refl
shaped_is_of kind.CloseBrace include word = refl
shaped_is_of kind.OpenParen include word = refl
shaped_is_of kind.CloseParen include word = refl
shaped_is_of kind.Equals include word = refl
shaped_is_of kind.PlusEquals include word = refl
shaped_is_of kind.Comma include word = refl

begun : (front : List Lexeme) (ran : Ran) → run start front ≡ Some ran → BeginsText front
begun front ran e = let found = begins_tree front ran e in (found.1, found.0, found.2)

-- ---- the next token

data Turn (vars : List Pair) (text : Text) (front : List Lexeme) (token : Token) : Type 0 where
  Refused : Stops front token.kind → Turn vars text front token
  Unvalued : (var : List ℕ) → GoesOn front token.kind → value_of vars token.kind (spelling_of text token) ≡ Err var → Turn vars text front token
  Taken : (l : Lexeme) (ran : Ran) → HasLexeme vars text token l → run start (front ++ l ∷ []) ≡ Some ran → Turn vars text front token

took : (vars : List Pair) (text : Text) (front : List Lexeme) (token : Token) (l : Lexeme) → HasLexeme vars text token l → BeginsText (front ++ l ∷ []) → (r : Option Ran) → run start (front ++ l ∷ []) ≡ r → Turn vars text front token
took vars text front token l h begins None e = absurd (begins_no_tree (front ++ l ∷ []) e begins.0 begins.1 begins.2)
took vars text front token l h begins (Some ran) e = Taken l ran h e

valued : (vars : List Pair) (text : Text) (front : List Lexeme) (token : Token) → GoesOn front token.kind → (value : Result (List ℕ) (List ℕ)) → value_of vars token.kind (spelling_of text token) ≡ value → Turn vars text front token
valued vars text front token goes (Err var) e = Unvalued var goes e
valued vars text front token goes (Ok value) e =
    let l : Lexeme = with_value text token value in
    took vars text front token l (value, e, refl) (goes l (shaped_is_of token.kind (is_include text token) (word_of text token value))) (run start (front ++ l ∷ [])) refl

turn : (vars : List Pair) (text : Text) (front : List Lexeme) (token : Token) (ran : Ran) → run start front ≡ Some ran → (b : Bool) → allowed ran.parser token.kind ≡ b → Turn vars text front token
turn vars text front token ran e false a = Refused (stops front ran token.kind e a)
turn vars text front token ran e true a = valued vars text front token (goes_on front ran token.kind e a) (value_of vars token.kind (spelling_of text token)) refl

-- ---- the end

never : {A : Type 0} → false ≡ true → A
never e = absurd (cc)

-- a tree leaves nothing open
no_tree : (ls : List Lexeme) (ran : Ran) → run start ls ≡ Some ran → may_end ran.parser ≡ false → (t : Items) → Spells t ls → ⊥
no_tree ls ran e open_still t h =
    let whole : Ran = record { outputs = outputs_of t; parser = start } in
    let there : run start ls ≡ Some whole = text_reads t ls h in
    let same : ran ≡ whole = cc in
    never (sym open_still ∙ ap (λ r. may_end r.parser) same)

ended : (vars : List Pair) (text : Text) (tokens : List Token) (ls : List Lexeme) (ran : Ran) → LexemesOf vars text tokens ls → run start ls ≡ Some ran → (b : Bool) → may_end ran.parser ≡ b → Meets vars text tokens
ended vars text tokens ls ran h e true ends = let tree = reads_tree ls ran e ends in Spelled ls tree.0 h tree.1
ended vars text tokens ls ran h e false ends = EndsEarly ls h (begun ls ran e) (no_tree ls ran e ends)

-- ---- all tokens

onward : (vars : List Pair) (text : Text) (before : List Token) (front : List Lexeme) (token : Token) (behind : List Token) → LexemesOf vars text before front → BeginsText front → Turn vars text front token →
    ((l : Lexeme) (ran : Ran) → HasLexeme vars text token l → run start (front ++ l ∷ []) ≡ Some ran → Meets vars text (before ++ (token ∷ behind))) → Meets vars text (before ++ (token ∷ behind))
onward vars text before front token behind h begins (Refused none) next = CannotStand front token (record { before = before; behind = behind; split = refl; values = h; begins = begins }) none
onward vars text before front token behind h begins (Unvalued var goes none) next = HasNoValue front token var (record { before = before; behind = behind; split = refl; values = h; begins = begins }) goes none
onward vars text before front token behind h begins (Taken l ran k e) next = next l ran k e

met : (vars : List Pair) (text : Text) (before : List Token) (front : List Lexeme) (ran : Ran) (behind : List Token) → LexemesOf vars text before front → run start front ≡ Some ran → Meets vars text (before ++ behind)
met vars text before front ran [] h e = subst (Meets vars text) (sym (append-nil before)) (ended vars text before front ran h e (may_end ran.parser) refl)
met vars text before front ran (token ∷ behind) h e =
    onward vars text before front token behind h (begun front ran e) (turn vars text front token ran e (allowed ran.parser token.kind) refl)
    (λ l r k f. subst (Meets vars text) (append_assoc before (token ∷ []) behind) (met vars text (before ++ token ∷ []) (front ++ l ∷ []) r behind (lexemes_more vars text before front token l h k) f))

pub meets_one : MeetsOne
meets_one vars text tokens = met vars text [] [] (record { outputs = []; parser = start }) tokens tt refl
