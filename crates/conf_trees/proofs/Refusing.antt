-- A text that no tree spells is refused at the first token that can't stand, or at its end.
use Rattle.std.proofs.Common.{◌≡◌, ℕ, Bool, true, false, Option, Some, None, List, [], ◌∷◌, ◌++◌, length, Result, Ok, Err, refl, ap, sym, subst, ◌∙◌, append_assoc, append-nil}
use Rattle.base_fields.specs.declared.names.Pair.{Pair}
use Rattle.conf_lexer.specs.declared.tokens.Token.{Token}
use Rattle.conf_lexer.specs.declared.tokens.TokenKind.{TokenKind}
use Rattle.conf_lexer.specs.declared.tokens.TokenKind.TheVariants as kind
use Rattle.conf_words.specs.Values.{value_of}
use Rattle.conf_items.specs.Grammar.{allowed, may_end, moved, some_lexeme, start}
use Rattle.conf_items.specs.Outline.{closed, opened, with_setting}
use Rattle.conf_items.specs.declared.grammar.Lexeme.{Lexeme}
use Rattle.conf_items.specs.declared.grammar.Move.{Move}
use Rattle.conf_items.specs.declared.grammar.Output.{Output}
use Rattle.conf_items.specs.declared.grammar.Output.TheVariants as output
use Rattle.conf_items.specs.declared.grammar.Parser.{Parser}
use Rattle.conf_grammar.proofs.KindsStand.{allowed_stands, refused_cannot}
use Rattle.conf_grammar.proofs.Standing.{begins_no_tree}
use Rattle.conf_grammar.proofs.TreesFound.{reads_tree}
use Rattle.conf_grammar.specs.Trees.{Items, Spells}
use Rattle.conf_grammar.specs.Laws.{Ran, is_of, run}
use Rattle.base_fields.specs.Results.{◌>>=◌, or_else, refused_by, when}
use Rattle.conf_texts.specs.Steps.{spelling_of, taken, with_value}
use Rattle.conf_walk.specs.Walk.{tokens_walked}
use Rattle.conf_texts.specs.declared.fault.WalkFault.{WalkFault}
use Rattle.conf_texts.specs.declared.fault.WalkFault.TheVariants.{BadText, Unset}
use Rattle.conf_texts.specs.declared.texts.Reading.{Reading}
use Rattle.conf_texts.specs.declared.texts.Text.{Text}
use Rattle.conf_trees.specs.Walked.{LexemesOf, Walk, with_outline}
use Rattle.conf_trees.specs.Laws.{RefusesEnd, RefusesToken, RefusesUnset}
use Rattle.conf_trees.specs.Met.{AlwaysReads, BeginsText, GoesOn, Reaches, Stops}
use Rattle.conf_trees.proofs.Steps.{leads}
use Rattle.conf_trees.proofs.TreesWalked.{apart, kept_parser}

taken_reads : (included : Walk) → AlwaysReads included → (o : Output) (reading : Reading) → (after : Reading) × (taken included o reading ≡ Ok after)
taken_reads included reads output.Nothing reading = (reading, refl)
taken_reads included reads (output.Setting setting) reading = (with_outline reading (with_setting reading.outline setting), refl)
taken_reads included reads (output.Open head) reading = (with_outline reading (opened reading.outline head), refl)
taken_reads included reads output.Close reading = (with_outline reading (closed reading.outline), refl)
taken_reads included reads (output.Include name) reading = reads name.text reading

-- the walk of tokens that are taken leads to those behind them
front_walked : (included : Walk) → AlwaysReads included → (vars : List Pair) (text : Text) (front : List Token) (fs : List Lexeme) (parser : Parser) (ran : Ran) → LexemesOf vars text front fs → run parser fs ≡ Some ran →
    (behind : List Token) (reading : Reading) → (after : Reading) × (tokens_walked included vars text (front ++ behind) parser reading ≡ tokens_walked included vars text behind ran.parser after)
front_walked included reads vars text [] [] parser ran h e behind reading =
    let same : record { outputs = []; parser = parser } ≡ ran = cc in
    (reading, ap (λ r. tokens_walked included vars text behind r.parser reading) same)
front_walked included reads vars text (token ∷ front) (l ∷ fs) parser ran h e behind reading =
    let first = apart (moved parser l) (λ p. run p fs) ran e in
    let took = taken_reads included reads first.0.output reading in
    let rest = front_walked included reads vars text front fs first.0.parser first.2 h.1 first.3 behind took.0 in
    let later : Parser → Reading → Result Reading WalkFault = λ p r. tokens_walked included vars text (front ++ behind) p r in (
      rest.0,
      ap (λ s. s >>= λ made. taken included made.output reading >>= later made.parser) (leads vars text parser token l first.0 h.0 first.1)
          ∙ ap (λ w. w >>= later first.0.parser) took.1
          ∙ rest.1
          ∙ ap (λ p. tokens_walked included vars text behind p rest.0) (kept_parser first.0.output first.2 ran first.4),
    )
front_walked included reads vars text front fs parser ran h e behind reading = absurd h

-- tokens that begin a text are taken
taken_front : (fs : List Lexeme) → BeginsText fs → (r : Option Ran) → run start fs ≡ r → (ran : Ran) × (run start fs ≡ Some ran)
taken_front fs begins None e = absurd (begins_no_tree fs e begins.0 begins.1 begins.2)
taken_front fs begins (Some ran) e = (ran, e)

not_true : (b : Bool) → (b ≡ true → ⊥) → b ≡ false
not_true true h = absurd (h refl)
not_true false h = refl

not_false : (b : Bool) → (b ≡ false → ⊥) → b ≡ true
not_false true h = refl
not_false false h = absurd (h refl)

-- some token of a kind
pub some_is_of : (k : TokenKind) → is_of k (some_lexeme k) ≡ true
some_is_of kind.Word = refl
some_is_of kind.Double = refl
some_is_of kind.Single = refl
some_is_of kind.OpenBrace = refl
some_is_of kind.CloseBrace = refl
some_is_of kind.OpenParen = refl
some_is_of kind.CloseParen = refl
some_is_of kind.Equals = refl
some_is_of kind.PlusEquals = refl
some_is_of kind.Comma = refl

-- a text that goes on with a token begins so
pub begins_with : (front : List Lexeme) (l : Lexeme) (more : List Lexeme) (t : Items) → Spells t (front ++ (l ∷ more)) → BeginsText (front ++ l ∷ [])
begins_with front l more t h = (t, more, subst (Spells t) (sym (append_assoc front (l ∷ []) more)) h)

-- where a kind is allowed, a text goes on with it, and where it isn't, none does
pub goes_on : (front : List Lexeme) (ran : Ran) (k : TokenKind) → run start front ≡ Some ran → allowed ran.parser k ≡ true → GoesOn front k
goes_on front ran k e a l of = let stands = allowed_stands front ran k l e of a in begins_with front l stands.0 stands.1 stands.2

pub stops : (front : List Lexeme) (ran : Ran) (k : TokenKind) → run start front ≡ Some ran → allowed ran.parser k ≡ false → Stops front k
stops front ran k e a l of begins = refused_cannot front ran k l e of a begins.0 begins.1 (subst (Spells begins.0) (append_assoc front (l ∷ []) begins.1) begins.2)

-- the walk up to a token
reached : (included : Walk) → AlwaysReads included → (vars : List Pair) (text : Text) (tokens : List Token) (front : List Lexeme) (token : Token) (h : Reaches vars text tokens front token) (ran : Ran) → run start front ≡ Some ran → (reading : Reading) →
    (after : Reading) × (tokens_walked included vars text tokens start reading ≡ tokens_walked included vars text (token ∷ h.behind) ran.parser after)
reached included reads vars text tokens front token h ran e reading =
    let walked = front_walked included reads vars text h.before front start ran h.values e (token ∷ h.behind) reading in
    (walked.0, ap (λ ts. tokens_walked included vars text ts start reading) h.split ∙ walked.1)

pub refuses_token : RefusesToken
refuses_token vars text tokens front token h none included reads reading =
    let ran = taken_front front h.begins (run start front) refl in
    let walked = reached included reads vars text tokens front token h ran.0 ran.1 reading in
    let refused : allowed ran.0.parser token.kind ≡ false = not_true (allowed ran.0.parser token.kind) (λ a. none (some_lexeme token.kind) (some_is_of token.kind) (goes_on front ran.0 token.kind ran.1 a (some_lexeme token.kind) (some_is_of token.kind))) in
    let bad : WalkFault = BadText text.name token.span.at in
    walked.1
    ∙ ap (λ b. (when b token bad >>= λ _. refused_by Unset (value_of vars token.kind (spelling_of text token)) >>= λ value. or_else (moved ran.0.parser (with_value text token value)) bad) >>= λ made. taken included made.output walked.0 >>= λ after. tokens_walked included vars text h.behind made.parser after) refused

-- a test that passes, and no value behind it
unset : {A : Type 0} (allows : Bool) (token : Token) (bad : WalkFault) (wanted : Result (List ℕ) (List ℕ)) (var : List ℕ) (f : List ℕ → Result Move WalkFault) (g : Move → Result A WalkFault) → allows ≡ true → wanted ≡ Err var →
    ((when allows token bad >>= λ _. refused_by Unset wanted >>= f) >>= g) ≡ Err (Unset var)
unset allows token bad wanted var f g a w = rw (a, w) refl

pub refuses_unset : RefusesUnset
refuses_unset vars text tokens front token var h goes none included reads reading =
    let ran = taken_front front h.begins (run start front) refl in
    let walked = reached included reads vars text tokens front token h ran.0 ran.1 reading in
    let passes : allowed ran.0.parser token.kind ≡ true = not_false (allowed ran.0.parser token.kind) (λ a. stops front ran.0 token.kind ran.1 a (some_lexeme token.kind) (some_is_of token.kind) (goes (some_lexeme token.kind) (some_is_of token.kind))) in
    let bad : WalkFault = BadText text.name token.span.at in
    walked.1
    ∙ unset (allowed ran.0.parser token.kind) token bad (value_of vars token.kind (spelling_of text token)) var (λ value. or_else (moved ran.0.parser (with_value text token value)) bad) (λ made. taken included made.output walked.0 >>= λ after. tokens_walked included vars text h.behind made.parser after) passes none

pub refuses_end : RefusesEnd
refuses_end vars text tokens ls h begins none included reads reading =
    let ran = taken_front ls begins (run start ls) refl in
    let walked = front_walked included reads vars text tokens ls start ran.0 h ran.1 [] reading in
    let refused : may_end ran.0.parser ≡ false = not_true (may_end ran.0.parser) (λ a. let tree = reads_tree ls ran.0 ran.1 a in none tree.0 tree.1) in
    ap (λ ts. tokens_walked included vars text ts start reading) (sym (append-nil tokens))
    ∙ walked.1
    ∙ ap (λ b. when b walked.0 (BadText text.name (length text.bytes))) refused
