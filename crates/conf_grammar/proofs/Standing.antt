-- Tokens that can't stand, and tokens by which a text can end.
use Rattle.std.proofs.Common.{◌≡◌, ℕ, zero, suc, ◌+◌, false, Option, Some, None, List, [], ◌∷◌, ◌++◌, arith, refl, ap, sym, ◌∙◌, append-nil}
use Rattle.conf_items.specs.Grammar.{list_setting, given_of, moved, some_word, start}
use Rattle.conf_items.specs.declared.items.Value.TheVariants.{One}
use Rattle.conf_items.specs.declared.grammar.Next.{Next}
use Rattle.conf_items.specs.declared.grammar.Next.TheVariants as next
use Rattle.conf_items.specs.declared.grammar.Lexeme.{Lexeme}
use Rattle.conf_items.specs.declared.grammar.Lexeme.TheVariants.{Bare, OpenBrace, CloseBrace, OpenParen, CloseParen}
use Rattle.conf_items.specs.declared.grammar.Parser.{Parser}
use Rattle.conf_items.specs.declared.grammar.Output.{Output}
use Rattle.conf_items.specs.declared.grammar.Output.TheVariants as output
use Rattle.conf_items.specs.declared.grammar.Move.{Move}
use Rattle.conf_grammar.proofs.TextsRead.{joined_none, joined_twice, reads_close, tree_reads}
use Rattle.conf_grammar.specs.Laws.{BeginsNoTree, CanGoOn, Ran, TextReads, at_item, behind_move, joined, kept, outputs_of, run}

-- tokens behind others
pub goes_on : Option Ran → List Lexeme → Option Ran
goes_on None more = None
goes_on (Some ran) more = joined ran.outputs (run ran.parser more)

joined_on : (outputs : List Output) (r : Option Ran) (more : List Lexeme) → joined outputs (goes_on r more) ≡ goes_on (joined outputs r) more
unfolding goes_on
joined_on outputs None more = refl
joined_on outputs (Some ran) more = joined_twice outputs ran.outputs (run ran.parser more)

kept_on : (o : Output) (r : Option Ran) (more : List Lexeme) → kept o (goes_on r more) ≡ goes_on (kept o r) more
kept_on output.Nothing r more = refl
kept_on other r more = joined_on (other ∷ []) r more

move_on : (m : Option Move) (f g : Parser → Option Ran) (more : List Lexeme) → ((p : Parser) → f p ≡ goes_on (g p) more) → behind_move m f ≡ goes_on (behind_move m g) more
unfolding goes_on
move_on None f g more h = refl
move_on (Some move) f g more h = ap (kept move.output) (h move.parser) ∙ kept_on move.output (g move.parser) more

pub run_on : (parser : Parser) (front more : List Lexeme) → run parser (front ++ more) ≡ goes_on (run parser front) more
unfolding goes_on
run_on parser [] more = sym (joined_none (run parser more))
run_on parser (l ∷ front) more = move_on (moved parser l) (λ p. run p (front ++ more)) (λ p. run p front) more (λ p. run_on p front more)

pub on_none : (parser : Parser) (front more : List Lexeme) → run parser front ≡ None → run parser (front ++ more) ≡ None
unfolding goes_on
on_none parser front more e = run_on parser front more ∙ ap (λ r. goes_on r more) e

pub on_some : (parser : Parser) (front more : List Lexeme) (ran : Ran) → run parser front ≡ Some ran → run parser (front ++ more) ≡ joined ran.outputs (run ran.parser more)
unfolding goes_on
on_some parser front more ran e = run_on parser front more ∙ ap (λ r. goes_on r more) e

-- a text that a tree spells, alone
pub text_reads : TextReads
text_reads t ls h = ap (run start) (sym (append-nil ls)) ∙ tree_reads t ls h 0 [] ∙ ap (λ outputs. Some (record { outputs = outputs; parser = start })) (append-nil (outputs_of t))

pub begins_no_tree : BeginsNoTree
begins_no_tree front e t more h =
    let none : run start (front ++ more) ≡ None = on_none start front more e in
    let some : run start (front ++ more) ≡ Some (record { outputs = outputs_of t; parser = start }) = text_reads t (front ++ more) h in
    cc

-- the end of each open section
ends_sections : (depth : ℕ) → (more : List Lexeme) × (outputs : List Output) × (run (at_item depth) more ≡ Some (record { outputs = outputs; parser = start }))
ends_sections zero = ([], [], refl)
ends_sections (suc depth) =
    let rest = ends_sections depth in
    let count : suc depth ≡ depth + 1 = omega arith in
    (CloseBrace ∷ rest.0, output.Close ∷ rest.1, ap (λ d. run (at_item d) (CloseBrace ∷ rest.0)) count ∙ reads_close depth rest.0 ∙ ap (joined (output.Close ∷ [])) rest.2)

-- the end of the item at hand
ends_item : (depth : ℕ) (next : Next) → (front : List Lexeme) × (outputs : List Output) × (sections : ℕ) × (run (record { depth = depth; next = next }) front ≡ Some (record { outputs = outputs; parser = at_item sections }))
ends_item depth next.Item = ([], [], depth, refl)
ends_item depth (next.BehindKey key) = (OpenBrace some_word.place ∷ [], output.Open (record { word = key; name = None }) ∷ [], depth + 1, refl)
ends_item depth (next.BehindName head) = (OpenBrace some_word.place ∷ [], output.Open head ∷ [], depth + 1, refl)
ends_item depth (next.Value key mark) = (Bare some_word false ∷ [], output.Setting (record { key = key; given = given_of mark (One some_word) }) ∷ [], depth, refl)
ends_item depth (next.Element list) = (CloseBrace ∷ [], output.Setting (list_setting list) ∷ [], depth, refl)
ends_item depth (next.Separator list) = (CloseBrace ∷ [], output.Setting (list_setting list) ∷ [], depth, refl)
ends_item depth next.IncludeOpen = (OpenParen ∷ Bare some_word false ∷ CloseParen ∷ [], output.Include some_word ∷ [], depth, refl)
ends_item depth next.IncludeName = (Bare some_word false ∷ CloseParen ∷ [], output.Include some_word ∷ [], depth, refl)
ends_item depth (next.IncludeClose name) = (CloseParen ∷ [], output.Include name ∷ [], depth, refl)

pub can_go_on : CanGoOn
can_go_on parser =
    let item = ends_item parser.depth parser.next in
    let rest = ends_sections item.2 in
    (item.0 ++ rest.0, item.1 ++ rest.1, on_some parser item.0 rest.0 _ item.3 ∙ ap (joined item.1) rest.2)
