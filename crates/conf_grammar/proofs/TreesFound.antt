-- Tokens that are read to their end are spelled by a tree.
use Rattle.std.proofs.Common.{◌≡◌, ℕ, zero, suc, ◌+◌, ◌<◌, ◌≤◌, true, Some, List, [], ◌∷◌, ◌++◌, length, arith, refl, ap, sym, ◌∙◌, append_assoc, length-append}
use Rattle.std.proofs.lemmas.Bool.Decides.{nat_tests}
use Rattle.conf_items.specs.Grammar.{may_end, start}
use Rattle.conf_items.specs.declared.items.Head.{Head}
use Rattle.conf_items.specs.declared.grammar.Next.{Next}
use Rattle.conf_items.specs.declared.grammar.Next.TheVariants as next
use Rattle.conf_items.specs.declared.grammar.Lexeme.{Lexeme}
use Rattle.conf_items.specs.declared.grammar.Lexeme.TheVariants.{CloseBrace}
use Rattle.conf_items.specs.declared.grammar.Output.{Output}
use Rattle.conf_items.specs.declared.grammar.Output.TheVariants as output
use Rattle.conf_grammar.proofs.FirstItem.{First, Ended, Closed, Including, Giving, Opening, done, first}
use Rattle.conf_grammar.proofs.Standing.{can_go_on, on_some}
use Rattle.conf_grammar.specs.Trees.{IsHead, Items, NoItem, IncludeThen, OptionThen, SectionThen, Spells}
use Rattle.conf_grammar.specs.Laws.{BeginsTree, ReadsTree, at_item, joined, outputs_of, run}

-- a tree spells the tokens, or those up to the end of the section around, behind which the reading goes on
data Parts (depth : ℕ) (ls : List Lexeme) (outs : List Output) : Type 0 where
  AllOf : (t : Items) → Spells t ls → depth ≡ 0 → outs ≡ outputs_of t → Parts depth ls outs
  UpTo : (t : Items) (inside behind : List Lexeme) (more : List Output) (before : ℕ) → Spells t inside → depth ≡ before + 1 → ls ≡ inside ++ (CloseBrace ∷ behind) → outs ≡ outputs_of t ++ (output.Close ∷ more) → run (at_item before) behind ≡ done more → Parts depth ls outs

-- an item in front
extended : (item : Items → Items) (os : List Output) (front : List Lexeme) → ((t : Items) → outputs_of (item t) ≡ os ++ outputs_of t) → ((t : Items) (ls : List Lexeme) → Spells t ls → Spells (item t) (front ++ ls)) → (depth : ℕ) (ls behind : List Lexeme) (outs more : List Output) → ls ≡ front ++ behind → outs ≡ os ++ more → Parts depth behind more → Parts depth ls outs
extended item os front says spells depth ls behind outs more e f (AllOf t h count same) =
    let there : Spells (item t) (front ++ behind) = spells t behind h in
    AllOf (item t) (rw e there) count (f ∙ ap (λ xs. os ++ xs) same ∙ sym (says t))
extended item os front says spells depth ls behind outs more e f (UpTo t inside after later before h count text same ran) =
    UpTo (item t) (front ++ inside) after later before (spells t inside h) count (e ∙ ap (λ xs. front ++ xs) text ∙ sym (append_assoc front inside (CloseBrace ∷ after))) (f ∙ ap (λ xs. os ++ xs) same ∙ sym (append_assoc os (outputs_of t) (output.Close ∷ later)) ∙ ap (λ xs. xs ++ (output.Close ∷ later)) (sym (says t))) ran

shorter : (l : Lexeme) (front behind ls : List Lexeme) → ls ≡ l ∷ (front ++ behind) → length behind < length ls
shorter l front behind ls e =
    let count : length (front ++ behind) ≡ length front + length behind = length-append front behind in
    let whole : length ls ≡ length (l ∷ (front ++ behind)) = ap length e in
    omega arith

-- a section: its items, its end, and what is behind it
sectioned : (bound : ℕ) → ((depth : ℕ) (ls : List Lexeme) (outs : List Output) → length ls < bound → run (at_item depth) ls ≡ done outs → Parts depth ls outs) → (head : Head) (depth : ℕ) (front ls behind : List Lexeme) (outs more : List Output) → IsHead head front → ls ≡ front ++ behind → outs ≡ output.Open head ∷ more → length behind < bound → Parts (depth + 1) behind more → Parts depth ls outs
sectioned bound finds head depth front ls behind outs more h e f low (AllOf t g count same) = absurd (omega arith)
sectioned bound finds head depth front ls behind outs more h e f low (UpTo t inside after later before g count text same ran) =
    let level : before ≡ depth = omega arith in
    let ran_on : run (at_item depth) after ≡ done later = ap (λ d. run (at_item d) after) (sym level) ∙ ran in
    let sum : length (inside ++ (CloseBrace ∷ after)) ≡ length inside + length (CloseBrace ∷ after) = length-append inside (CloseBrace ∷ after) in
    let whole : length behind ≡ length (inside ++ (CloseBrace ∷ after)) = ap length text in
    let rest : Parts depth after later = finds depth after later (omega arith) ran_on in
    let os : List Output = output.Open head ∷ (outputs_of t ++ (output.Close ∷ [])) in
    let says : (u : Items) → outputs_of (SectionThen head t u) ≡ os ++ outputs_of u = λ u. ap (λ xs. output.Open head ∷ xs) (sym (append_assoc (outputs_of t) (output.Close ∷ []) (outputs_of u))) in
    let spells : (u : Items) (xs : List Lexeme) → Spells u xs → Spells (SectionThen head t u) ((front ++ (inside ++ (CloseBrace ∷ []))) ++ xs) = λ u xs s. (front, inside ++ (CloseBrace ∷ xs), h, (inside, CloseBrace ∷ xs, g, (CloseBrace ∷ [], xs, refl, s, refl), refl), append_assoc front (inside ++ (CloseBrace ∷ [])) xs ∙ ap (λ ys. front ++ ys) (append_assoc inside (CloseBrace ∷ []) xs)) in
    let where_text : ls ≡ (front ++ (inside ++ (CloseBrace ∷ []))) ++ after = e ∙ ap (λ xs. front ++ xs) (text ∙ sym (append_assoc inside (CloseBrace ∷ []) after)) ∙ sym (append_assoc front (inside ++ (CloseBrace ∷ [])) after) in
    let where_outs : outs ≡ os ++ later = f ∙ ap (λ xs. output.Open head ∷ xs) (same ∙ sym (append_assoc (outputs_of t) (output.Close ∷ []) later)) in
    extended (SectionThen head t) os (front ++ (inside ++ (CloseBrace ∷ []))) says spells depth ls after outs later where_text where_outs rest

step : (bound : ℕ) → ((depth : ℕ) (ls : List Lexeme) (outs : List Output) → length ls < bound → run (at_item depth) ls ≡ done outs → Parts depth ls outs) → (depth : ℕ) (ls : List Lexeme) (outs : List Output) → length ls ≤ bound → First depth ls outs → Parts depth ls outs
step bound finds depth ls outs high (Ended count text same) = AllOf NoItem text count same
step bound finds depth ls outs high (Closed before behind more count text same ran) = UpTo NoItem [] behind more before refl count text same ran
step bound finds depth ls outs high (Including name l front behind more h text same ran) =
    let low : length behind < length ls = shorter l front behind ls text in
    extended (IncludeThen name) (output.Include name ∷ []) (l ∷ front) (λ t. refl) (λ t xs s. (l ∷ front, xs, h, s, refl)) depth ls behind outs more text same (finds depth behind more (omega arith) ran)
step bound finds depth ls outs high (Giving setting l front behind more h text same ran) =
    let low : length behind < length ls = shorter l front behind ls text in
    extended (OptionThen setting) (output.Setting setting ∷ []) (l ∷ front) (λ t. refl) (λ t xs s. (l ∷ front, xs, h, s, refl)) depth ls behind outs more text same (finds depth behind more (omega arith) ran)
step bound finds depth ls outs high (Opening head l front behind more h text same ran) =
    let low : length behind < length ls = shorter l front behind ls text in
    sectioned bound finds head depth (l ∷ front) ls behind outs more h text same (omega arith) (finds (depth + 1) behind more (omega arith) ran)

found : (bound depth : ℕ) (ls : List Lexeme) (outs : List Output) → length ls ≤ bound → run (at_item depth) ls ≡ done outs → Parts depth ls outs
found zero depth ls outs high e = step zero (λ d xs os low r. absurd (omega arith)) depth ls outs high (first ls depth outs e)
found (suc bound) depth ls outs high e = step (suc bound) (λ d xs os low r. found bound d xs os (omega arith) r) depth ls outs high (first ls depth outs e)

-- outside of all sections
top : (ls : List Lexeme) (outs : List Output) → Parts 0 ls outs → (t : Items) × (Spells t ls) × (outs ≡ outputs_of t)
top ls outs (AllOf t h count same) = (t, h, same)
top ls outs (UpTo t inside behind more before h count text same ran) = absurd (omega arith)

tree_of : (ls : List Lexeme) (outs : List Output) → run start ls ≡ done outs → (t : Items) × (Spells t ls) × (outs ≡ outputs_of t)
tree_of ls outs e = top ls outs (found (length ls) 0 ls outs (omega arith) e)

ended_at : (depth : ℕ) (next : Next) → may_end (record { depth = depth; next = next }) ≡ true → record { depth = depth; next = next } ≡ start
ended_at depth next.Item e = let count : depth ≡ 0 = grind (arith, nat_tests) in ap at_item count
ended_at depth other e = absurd (grind (arith, nat_tests))

pub reads_tree : ReadsTree
reads_tree ls ran e h = tree_of ls ran.outputs (e ∙ ap (λ p. Some (record { outputs = ran.outputs; parser = p })) (ended_at ran.parser.depth ran.parser.next h))

pub begins_tree : BeginsTree
begins_tree front ran e =
    let rest = can_go_on ran.parser in
    let t = tree_of (front ++ rest.0) (ran.outputs ++ rest.1) (on_some start front rest.0 ran e ∙ ap (joined ran.outputs) rest.2) in
    (rest.0, t.0, t.1)
