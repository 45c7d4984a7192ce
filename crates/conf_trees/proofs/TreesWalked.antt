-- The walk of a text is the walk of the tree that spells it.
use Rattle.std.proofs.Common.{◌≡◌, true, Option, Some, None, List, [], ◌∷◌, ◌++◌, Result, Ok, Err, refl, ap, sym, ◌∙◌}
use Rattle.base_fields.specs.declared.names.Pair.{Pair}
use Rattle.conf_lexer.specs.declared.tokens.Token.{Token}
use Rattle.conf_items.specs.Grammar.{may_end, moved, start}
use Rattle.conf_items.specs.Outline.{closed, opened, with_setting}
use Rattle.conf_items.specs.declared.grammar.Lexeme.{Lexeme}
use Rattle.conf_items.specs.declared.grammar.Move.{Move}
use Rattle.conf_items.specs.declared.grammar.Output.{Output}
use Rattle.conf_items.specs.declared.grammar.Output.TheVariants as output
use Rattle.conf_items.specs.declared.grammar.Parser.{Parser}
use Rattle.conf_grammar.proofs.Standing.{text_reads}
use Rattle.conf_grammar.specs.Trees.{Items, NoItem, IncludeThen, OptionThen, SectionThen}
use Rattle.conf_grammar.specs.Laws.{Ran, behind_move, kept, outputs_of, run}
use Rattle.base_fields.proofs.Binds.{bind-assoc, bind-same}
use Rattle.base_fields.specs.Results.{◌>>=◌}
use Rattle.conf_texts.specs.Steps.{taken}
use Rattle.conf_walk.specs.Walk.{tokens_walked}
use Rattle.conf_texts.specs.declared.fault.WalkFault.{WalkFault}
use Rattle.conf_texts.specs.declared.texts.Reading.{Reading}
use Rattle.conf_texts.specs.declared.texts.Text.{Text}
use Rattle.conf_trees.specs.Walked.{LexemesOf, Walk, tree_walked, with_outline}
use Rattle.conf_trees.specs.Laws.{WalksTree}
use Rattle.conf_trees.proofs.Steps.{leads}

-- what was made whole, taken one after another
abbrev pub outputs_walked : Walk → List Output → Reading → Result Reading WalkFault
outputs_walked included [] reading = Ok reading
outputs_walked included (o ∷ os) reading = taken included o reading >>= outputs_walked included os

-- ---- outputs of a tree

outputs_joined : (included : Walk) (os more : List Output) (reading : Reading) → outputs_walked included (os ++ more) reading ≡ (outputs_walked included os reading >>= outputs_walked included more)
outputs_joined included [] more reading = refl
outputs_joined included (o ∷ os) more reading =
    bind-same (taken included o reading) (outputs_walked included (os ++ more)) (λ r. outputs_walked included os r >>= outputs_walked included more) (λ r. outputs_joined included os more r)
    ∙ sym (bind-assoc (taken included o reading) (outputs_walked included os) (outputs_walked included more))

tree_outputs : (included : Walk) (t : Items) (reading : Reading) → outputs_walked included (outputs_of t) reading ≡ tree_walked included t reading
tree_outputs included NoItem reading = refl
tree_outputs included (IncludeThen name rest) reading = bind-same (included name.text reading) (outputs_walked included (outputs_of rest)) (tree_walked included rest) (λ r. tree_outputs included rest r)
tree_outputs included (OptionThen setting rest) reading = tree_outputs included rest (with_outline reading (with_setting reading.outline setting))
tree_outputs included (SectionThen head inside rest) reading =
    let within : Reading = with_outline reading (opened reading.outline head) in
    let behind : Reading → Result Reading WalkFault = λ r. tree_walked included rest (with_outline r (closed r.outline)) in
    outputs_joined included (outputs_of inside) (output.Close ∷ outputs_of rest) within
    ∙ ap (λ w. w >>= outputs_walked included (output.Close ∷ outputs_of rest)) (tree_outputs included inside within)
    ∙ bind-same (tree_walked included inside within) (outputs_walked included (output.Close ∷ outputs_of rest)) behind (λ r. tree_outputs included rest (with_outline r (closed r.outline)))

-- ---- tokens one after another

ran_same : (a b : Ran) → Some a ≡ Some b → a ≡ b
ran_same a b e = cc

kept_apart : (o : Output) (r : Option Ran) (ran : Ran) → kept o r ≡ Some ran → (after : Ran) × (r ≡ Some after) × (kept o (Some after) ≡ Some ran)
kept_apart output.Nothing r ran e = (ran, e, refl)
kept_apart o None ran e = absurd (cc)
kept_apart o (Some after) ran e = (after, refl, e)

-- the first move, and those behind it
pub apart : (m : Option Move) (rest : Parser → Option Ran) (ran : Ran) → behind_move m rest ≡ Some ran → (move : Move) × (m ≡ Some move) × (after : Ran) × (rest move.parser ≡ Some after) × (kept move.output (Some after) ≡ Some ran)
apart None rest ran e = absurd (cc)
apart (Some move) rest ran e = let k = kept_apart move.output (rest move.parser) ran e in (move, refl, k.0, k.1, k.2)

pub kept_parser : (o : Output) (after ran : Ran) → kept o (Some after) ≡ Some ran → after.parser ≡ ran.parser
kept_parser output.Nothing after ran e = ap (λ r. r.parser) (ran_same after ran e)
kept_parser o after ran e = ap (λ r. r.parser) (ran_same (record { outputs = o ∷ after.outputs; parser = after.parser }) ran e)

kept_walked : (included : Walk) (o : Output) (after ran : Ran) (reading : Reading) → kept o (Some after) ≡ Some ran → (taken included o reading >>= outputs_walked included after.outputs) ≡ outputs_walked included ran.outputs reading
kept_walked included output.Nothing after ran reading e = ap (λ r. outputs_walked included r.outputs reading) (ran_same after ran e)
kept_walked included o after ran reading e = ap (λ r. outputs_walked included r.outputs reading) (ran_same (record { outputs = o ∷ after.outputs; parser = after.parser }) ran e)

pub tokens_ran : (included : Walk) (vars : List Pair) (text : Text) (tokens : List Token) (ls : List Lexeme) (parser : Parser) (reading : Reading) (ran : Ran) → LexemesOf vars text tokens ls → run parser ls ≡ Some ran → may_end ran.parser ≡ true →
    tokens_walked included vars text tokens parser reading ≡ outputs_walked included ran.outputs reading
tokens_ran included vars text [] [] parser reading ran h e ends =
    let same : record { outputs = []; parser = parser } ≡ ran = ran_same _ _ e in
    let there : may_end parser ≡ true = ap (λ r. may_end r.parser) same ∙ ends in
    rw there (ap (λ r. outputs_walked included r.outputs reading) same)
tokens_ran included vars text (token ∷ tokens) (l ∷ ls) parser reading ran h e ends =
    let first = apart (moved parser l) (λ p. run p ls) ran e in
    let last : may_end first.2.parser ≡ true = ap may_end (kept_parser first.0.output first.2 ran first.4) ∙ ends in
    ap (λ s. s >>= λ made. taken included made.output reading >>= λ after. tokens_walked included vars text tokens made.parser after) (leads vars text parser token l first.0 h.0 first.1)
    ∙ bind-same (taken included first.0.output reading) (λ after. tokens_walked included vars text tokens first.0.parser after) (outputs_walked included first.2.outputs) (λ after. tokens_ran included vars text tokens ls first.0.parser after first.2 h.1 first.3 last)
    ∙ kept_walked included first.0.output first.2 ran reading first.4
tokens_ran included vars text tokens ls parser reading ran h e ends = absurd h

pub walks_tree : WalksTree
walks_tree vars text tokens ls t h spells included reading =
    tokens_ran included vars text tokens ls start reading (record { outputs = outputs_of t; parser = start }) h (text_reads t ls spells) refl
    ∙ tree_outputs included t reading
