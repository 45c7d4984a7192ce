-- A text that a tree spells is read as the tree says.
use Rattle.std.proofs.Common.{◌≡◌, ℕ, ◌+◌, ◌-◌, inl, inr, Bool, true, Option, Some, None, List, [], ◌∷◌, ◌++◌, nat_lt, if◌then◌else◌, arith, refl, ap, sym, ◌∙◌, append_assoc, append-nil}
use Rattle.std.proofs.lemmas.Bool.Decides.{nat_tests}
use Rattle.conf_items.specs.Grammar.{element_moved, given_of, goes, include_name_moved, key_moved, list_setting, value_moved, with_word}
use Rattle.conf_items.specs.declared.items.Word.{Word}
use Rattle.conf_items.specs.declared.items.Value.{Value}
use Rattle.conf_items.specs.declared.items.Value.TheVariants.{One, Many}
use Rattle.conf_items.specs.declared.items.Setting.{Setting}
use Rattle.conf_items.specs.declared.items.Place.{Place}
use Rattle.conf_items.specs.declared.grammar.Mark.{Mark}
use Rattle.conf_items.specs.declared.grammar.OpenList.{OpenList}
use Rattle.conf_items.specs.declared.grammar.Next.TheVariants as next
use Rattle.conf_items.specs.declared.grammar.Lexeme.{Lexeme}
use Rattle.conf_items.specs.declared.grammar.Lexeme.TheVariants.{Bare, Quoted, OpenBrace, CloseBrace, CloseParen}
use Rattle.conf_items.specs.declared.grammar.Output.{Output}
use Rattle.conf_items.specs.declared.grammar.Output.TheVariants as output
use Rattle.conf_items.specs.declared.grammar.Move.{Move}
use Rattle.conf_grammar.specs.Trees.{AreElements, Both, EndsList, IsGiven, IsHead, IsInclude, IsOption, IsValue, NoItem, IncludeThen, OptionThen, OpensSection, SectionThen, Spells}
use Rattle.conf_grammar.specs.Laws.{Ran, TreeReads, at_item, behind_move, joined, outputs_of, run}

-- a value moves as its word does, however it is spelled
by_value : (f : Lexeme → Option Move) (g : Word → Option Move) → ((word : Word) (include : Bool) → f (Bare word include) ≡ g word) → ((word : Word) → f (Quoted word) ≡ g word) → (word : Word) (value : Lexeme) → IsValue word value → f value ≡ g word
by_value f g bare quoted word (Bare other include) e = let same : other ≡ word = cc in bare other include ∙ ap g same
by_value f g bare quoted word (Quoted other) e = let same : other ≡ word = cc in quoted other ∙ ap g same
by_value f g bare quoted word other e = absurd (cc)

pub joined_twice : (first second : List Output) (ran : Option Ran) → joined first (joined second ran) ≡ joined (first ++ second) ran
joined_twice first second None = refl
joined_twice first second (Some ran) = ap (λ outputs. Some (record { outputs = outputs; parser = ran.parser })) (sym (append_assoc first second ran.outputs))

pub joined_none : (ran : Option Ran) → joined [] ran ≡ ran
joined_none None = refl
joined_none (Some ran) = refl

-- include
reads_include : (name : Word) (ls : List Lexeme) → IsInclude name ls → (depth : ℕ) (more : List Lexeme) → run (at_item depth) (ls ++ more) ≡ joined (output.Include name ∷ []) (run (at_item depth) more)
reads_include name ls h depth more =
    let move : include_name_moved depth h.1 ≡ goes depth (next.IncludeClose name) output.Nothing = by_value (include_name_moved depth) (λ w. goes depth (next.IncludeClose w) output.Nothing) (λ w i. refl) (λ w. refl) name h.1 h.2 in
    ap (λ xs. run (at_item depth) (xs ++ more)) h.3 ∙ ap (λ m. behind_move m (λ p. run p (CloseParen ∷ more))) move

-- lists
reads_end : (words : List Word) (ls : List Lexeme) → EndsList words ls → (depth : ℕ) (list : OpenList) (more : List Lexeme) → run (record { depth = depth; next = next.Separator list }) (ls ++ more) ≡ joined (output.Setting (list_setting (record list { words = list.words ++ words })) ∷ []) (run (at_item depth) more)
reads_end [] ls (inl e) depth list more = ap (λ xs. run (record { depth = depth; next = next.Separator list }) (xs ++ more)) e ∙ ap (λ ws. joined (output.Setting (list_setting (record list { words = ws })) ∷ []) (run (at_item depth) more)) (sym (append-nil list.words))
reads_end [] ls (inr e) depth list more = ap (λ xs. run (record { depth = depth; next = next.Separator list }) (xs ++ more)) e ∙ ap (λ ws. joined (output.Setting (list_setting (record list { words = ws })) ∷ []) (run (at_item depth) more)) (sym (append-nil list.words))
reads_end (word ∷ words) ls h depth list more =
    let move : element_moved depth list h.0 ≡ goes depth (next.Separator (with_word list word)) output.Nothing = by_value (element_moved depth list) (λ w. goes depth (next.Separator (with_word list w)) output.Nothing) (λ w i. refl) (λ w. refl) word h.0 h.2 in
    ap (λ xs. run (record { depth = depth; next = next.Separator list }) (xs ++ more)) h.4 ∙ ap (λ m. behind_move m (λ p. run p (h.1 ++ more))) move ∙ reads_end words h.1 h.3 depth (with_word list word) more ∙ ap (λ ws. joined (output.Setting (list_setting (record list { words = ws })) ∷ []) (run (at_item depth) more)) (append_assoc list.words (word ∷ []) words)

reads_elements : (words : List Word) (ls : List Lexeme) → AreElements words ls → (depth : ℕ) (key : Word) (mark : Mark) (place : Place) (more : List Lexeme) → run (record { depth = depth; next = next.Element (record { key = key; mark = mark; place = place; words = [] }) }) (ls ++ more) ≡ joined (output.Setting (record { key = key; given = given_of mark (Many place words) }) ∷ []) (run (at_item depth) more)
reads_elements [] ls e depth key mark place more = ap (λ xs. run (record { depth = depth; next = next.Element (record { key = key; mark = mark; place = place; words = [] }) }) (xs ++ more)) e
reads_elements (word ∷ words) ls h depth key mark place more =
    let list : OpenList = record { key = key; mark = mark; place = place; words = [] } in
    let move : element_moved depth list h.0 ≡ goes depth (next.Separator (with_word list word)) output.Nothing = by_value (element_moved depth list) (λ w. goes depth (next.Separator (with_word list w)) output.Nothing) (λ w i. refl) (λ w. refl) word h.0 h.2 in
    ap (λ xs. run (record { depth = depth; next = next.Element list }) (xs ++ more)) h.4 ∙ ap (λ m. behind_move m (λ p. run p (h.1 ++ more))) move ∙ reads_end words h.1 h.3 depth (with_word list word) more

-- options
reads_given : (value : Value) (ls : List Lexeme) → IsGiven value ls → (depth : ℕ) (key : Word) (mark : Mark) (more : List Lexeme) → run (record { depth = depth; next = next.Value key mark }) (ls ++ more) ≡ joined (output.Setting (record { key = key; given = given_of mark value }) ∷ []) (run (at_item depth) more)
reads_given (One word) ls h depth key mark more =
    let move : value_moved depth key mark h.0 ≡ goes depth next.Item (output.Setting (record { key = key; given = given_of mark (One word) })) = by_value (value_moved depth key mark) (λ w. goes depth next.Item (output.Setting (record { key = key; given = given_of mark (One w) }))) (λ w i. refl) (λ w. refl) word h.0 h.1 in
    ap (λ xs. run (record { depth = depth; next = next.Value key mark }) (xs ++ more)) h.2 ∙ ap (λ m. behind_move m (λ p. run p more)) move
reads_given (Many place words) ls h depth key mark more = ap (λ xs. run (record { depth = depth; next = next.Value key mark }) (xs ++ more)) h.2 ∙ reads_elements words h.0 h.1 depth key mark place more

reads_option : (setting : Setting) (ls : List Lexeme) → IsOption setting ls → (depth : ℕ) (more : List Lexeme) → run (at_item depth) (ls ++ more) ≡ joined (output.Setting setting ∷ []) (run (at_item depth) more)
reads_option setting ls h depth more = ap (λ xs. run (at_item depth) (xs ++ more)) h.5 ∙ reads_given h.1 h.2 h.4 depth setting.key h.0 more ∙ ap (λ g. joined (output.Setting (record { key = setting.key; given = g }) ∷ []) (run (at_item depth) more)) (sym h.3)

-- sections
reads_opening : (word : Word) (name : Option Word) (ls : List Lexeme) → OpensSection word name ls → (depth : ℕ) (more : List Lexeme) → run (at_item depth) (ls ++ more) ≡ joined (output.Open (record { word = word; name = name }) ∷ []) (run (at_item (depth + 1)) more)
reads_opening word None ls h depth more = ap (λ xs. run (at_item depth) (xs ++ more)) h.1
reads_opening word (Some name) ls h depth more =
    let move : key_moved depth word h.0 ≡ goes depth (next.BehindName (record { word = word; name = Some name })) output.Nothing = by_value (key_moved depth word) (λ w. goes depth (next.BehindName (record { word = word; name = Some w })) output.Nothing) (λ w i. refl) (λ w. refl) name h.0 h.2 in
    ap (λ xs. run (at_item depth) (xs ++ more)) h.3 ∙ ap (λ m. behind_move m (λ p. run p (OpenBrace h.1 ∷ more))) move

pub reads_close : (depth : ℕ) (more : List Lexeme) → run (at_item (depth + 1)) (CloseBrace ∷ more) ≡ joined (output.Close ∷ []) (run (at_item depth) more)
reads_close depth more =
    let test : nat_lt 0 (depth + 1) ≡ true = grind (arith, nat_tests) in
    let back : depth + 1 - 1 ≡ depth = omega arith in
    ap (λ b. behind_move (if b then goes (depth + 1 - 1) next.Item output.Close else None) (λ p. run p more)) test ∙ ap (λ d. joined (output.Close ∷ []) (run (at_item d) more)) back

-- one thing, and then what is behind it
then_more : (P Q : List Lexeme → Type 0) (ls : List Lexeme) (h : Both P Q ls) (more : List Lexeme) → ls ++ more ≡ h.0 ++ (h.1 ++ more)
then_more P Q ls h more = ap (λ xs. xs ++ more) h.4 ∙ append_assoc h.0 h.1 more

pub tree_reads : TreeReads
tree_reads NoItem ls h depth more = ap (λ xs. run (at_item depth) (xs ++ more)) h ∙ sym (joined_none _)
tree_reads (IncludeThen name rest) ls h depth more =
    ap (run (at_item depth)) (then_more (IsInclude name) (Spells rest) ls h more) ∙ reads_include name h.0 h.2 depth (h.1 ++ more) ∙ ap (joined (output.Include name ∷ [])) (tree_reads rest h.1 h.3 depth more) ∙ joined_twice (output.Include name ∷ []) (outputs_of rest) _
tree_reads (OptionThen setting rest) ls h depth more =
    ap (run (at_item depth)) (then_more (IsOption setting) (Spells rest) ls h more) ∙ reads_option setting h.0 h.2 depth (h.1 ++ more) ∙ ap (joined (output.Setting setting ∷ [])) (tree_reads rest h.1 h.3 depth more) ∙ joined_twice (output.Setting setting ∷ []) (outputs_of rest) _
tree_reads (SectionThen head inside rest) ls h depth more =
    let inner = h.3 in
    let after = inner.3 in
    let ends : after.0 ++ (after.1 ++ more) ≡ CloseBrace ∷ (after.1 ++ more) = ap (λ xs. xs ++ (after.1 ++ more)) after.2 in
    let text : ls ++ more ≡ h.0 ++ (inner.0 ++ (CloseBrace ∷ (after.1 ++ more))) = then_more (IsHead head) _ ls h more ∙ ap (λ xs. h.0 ++ xs) (then_more (Spells inside) _ h.1 inner more ∙ ap (λ xs. inner.0 ++ xs) (then_more _ (Spells rest) inner.1 after more ∙ ends)) in
    let last : run (at_item (depth + 1)) (CloseBrace ∷ (after.1 ++ more)) ≡ joined (output.Close ∷ []) (joined (outputs_of rest) (run (at_item depth) more)) = reads_close depth (after.1 ++ more) ∙ ap (joined (output.Close ∷ [])) (tree_reads rest after.1 after.3 depth more) in
    let within : run (at_item (depth + 1)) (inner.0 ++ (CloseBrace ∷ (after.1 ++ more))) ≡ joined (outputs_of inside ++ output.Close ∷ outputs_of rest) (run (at_item depth) more) = tree_reads inside inner.0 inner.2 (depth + 1) (CloseBrace ∷ (after.1 ++ more)) ∙ ap (joined (outputs_of inside)) (last ∙ joined_twice (output.Close ∷ []) (outputs_of rest) _) ∙ joined_twice (outputs_of inside) (output.Close ∷ outputs_of rest) _ in
    ap (run (at_item depth)) text ∙ reads_opening head.word head.name h.0 h.2 depth _ ∙ ap (joined (output.Open head ∷ [])) within ∙ joined_twice (output.Open head ∷ []) (outputs_of inside ++ output.Close ∷ outputs_of rest) _
