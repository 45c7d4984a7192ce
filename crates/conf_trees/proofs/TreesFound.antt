-- A text that is read has a tree.
use Rattle.std.proofs.Common.{◌≡◌, ℕ, Bool, true, false, Option, Some, None, List, [], ◌∷◌, Result, Ok, Err, refl, ap, ◌∙◌}
use Rattle.base_fields.specs.declared.names.Pair.{Pair}
use Rattle.conf_lexer.specs.declared.tokens.Token.{Token}
use Rattle.conf_words.specs.Values.{value_of}
use Rattle.conf_items.specs.Grammar.{allowed, may_end, moved, start}
use Rattle.conf_items.specs.declared.grammar.Lexeme.{Lexeme}
use Rattle.conf_items.specs.declared.grammar.Move.{Move}
use Rattle.conf_items.specs.declared.grammar.Output.{Output}
use Rattle.conf_items.specs.declared.grammar.Output.TheVariants as output
use Rattle.conf_items.specs.declared.grammar.Parser.{Parser}
use Rattle.conf_grammar.proofs.TreesFound.{reads_tree}
use Rattle.conf_grammar.specs.Laws.{Ran, behind_move, kept, run}
use Rattle.base_fields.proofs.Binds.{bind_ok, or_else_ok, refused_ok, when_ok}
use Rattle.base_fields.specs.Results.{◌>>=◌, or_else, refused_by, when}
use Rattle.conf_texts.specs.Steps.{spelling_of, stepped, taken, with_value}
use Rattle.conf_walk.specs.Walk.{tokens_walked}
use Rattle.conf_texts.specs.declared.fault.WalkFault.{WalkFault}
use Rattle.conf_texts.specs.declared.fault.WalkFault.TheVariants.{BadText, Unset}
use Rattle.conf_texts.specs.declared.texts.Reading.{Reading}
use Rattle.conf_texts.specs.declared.texts.Text.{Text}
use Rattle.conf_trees.specs.Walked.{HasLexeme, LexemesOf, Walk}
use Rattle.conf_trees.specs.Laws.{HasTree}

-- ---- what was passed where the answer is no refusal

abbrev pub accepted : {A : Type 0} → A → Result A WalkFault
accepted a = Ok a

pub ok_same : {A : Type 0} (a b : A) → accepted a ≡ accepted b → a ≡ b
ok_same a b e = cc

-- ---- one token, and then all

step_ok : (vars : List Pair) (text : Text) (parser : Parser) (token : Token) (m : Move) → stepped vars text parser token ≡ Ok m → (l : Lexeme) × (HasLexeme vars text token l) × (moved parser l ≡ Some m)
step_ok vars text parser token m e =
    let bad : WalkFault = BadText text.name token.span.at in
    let wanted : Result (List ℕ) (List ℕ) = value_of vars token.kind (spelling_of text token) in
    let made : List ℕ → Result Move WalkFault = λ value. or_else (moved parser (with_value text token value)) bad in
    let first = bind_ok (when (allowed parser token.kind) token bad) (λ _. refused_by Unset wanted >>= made) m e in
    let second = bind_ok (refused_by Unset wanted) made m first.2 in
    (with_value text token second.0, (second.0, refused_ok Unset wanted second.0 second.1, refl), or_else_ok (moved parser (with_value text token second.0)) m bad second.2)

kept_some : (o : Output) (ran : Ran) → (after : Ran) × (kept o (Some ran) ≡ Some after) × (after.parser ≡ ran.parser)
kept_some output.Nothing ran = (ran, refl, refl)
kept_some o ran = (record { outputs = o ∷ ran.outputs; parser = ran.parser }, refl, refl)

tokens_ok : (included : Walk) (vars : List Pair) (text : Text) (tokens : List Token) (parser : Parser) (reading after : Reading) → tokens_walked included vars text tokens parser reading ≡ Ok after →
    (ls : List Lexeme) × (LexemesOf vars text tokens ls) × (ran : Ran) × (run parser ls ≡ Some ran) × (may_end ran.parser ≡ true)
tokens_ok included vars text [] parser reading after e =
    let ends = when_ok (may_end parser) reading after _ e in
    ([], tt, record { outputs = []; parser = parser }, refl, ends.0)
tokens_ok included vars text (token ∷ tokens) parser reading after e =
    let later : Move → Reading → Result Reading WalkFault = λ made r. tokens_walked included vars text tokens made.parser r in
    let first = bind_ok (stepped vars text parser token) (λ made. taken included made.output reading >>= later made) after e in
    let second = bind_ok (taken included first.0.output reading) (later first.0) after first.2 in
    let rest = tokens_ok included vars text tokens first.0.parser second.0 after second.2 in
    let lexeme = step_ok vars text parser token first.0 first.1 in
    let all = kept_some first.0.output rest.2 in (
      lexeme.0 ∷ rest.0,
      (lexeme.1, rest.1),
      all.0,
      ap (λ m. behind_move m (λ next. run next rest.0)) lexeme.2 ∙ ap (kept first.0.output) rest.3 ∙ all.1,
      ap may_end all.2 ∙ rest.4,
    )

pub has_tree : HasTree
has_tree vars text tokens included reading after e =
    let all = tokens_ok included vars text tokens start reading after e in
    let tree = reads_tree all.0 all.2 all.3 all.4 in
    (all.0, tree.0, all.1, tree.1)
