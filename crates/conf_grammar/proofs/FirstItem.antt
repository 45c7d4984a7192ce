-- What stands first in tokens that are read to their end.
use Rattle.std.proofs.Common.{◌≡◌, ℕ, ◌+◌, ◌-◌, ◌<◌, inl, inr, Bool, true, false, Option, Some, None, List, [], ◌∷◌, ◌++◌, nat_lt, if◌then◌else◌, arith, refl, ap, sym, ◌∙◌, append_assoc, append-nil}
use Rattle.std.proofs.lemmas.Bool.Decides.{nat_tests}
use Rattle.conf_items.specs.Grammar.{given_of, goes, is_item, list_setting, start, with_word}
use Rattle.conf_items.specs.declared.items.Word.{Word}
use Rattle.conf_items.specs.declared.items.Value.{Value}
use Rattle.conf_items.specs.declared.items.Value.TheVariants.{One, Many}
use Rattle.conf_items.specs.declared.items.Setting.{Setting}
use Rattle.conf_items.specs.declared.items.Head.{Head}
use Rattle.conf_items.specs.declared.items.Place.{Place}
use Rattle.conf_items.specs.declared.grammar.Mark.{Mark}
use Rattle.conf_items.specs.declared.grammar.OpenList.{OpenList}
use Rattle.conf_items.specs.declared.grammar.Next.{Next}
use Rattle.conf_items.specs.declared.grammar.Next.TheVariants as next
use Rattle.conf_items.specs.declared.grammar.Lexeme.{Lexeme}
use Rattle.conf_items.specs.declared.grammar.Lexeme.TheVariants.{Bare, Quoted, OpenBrace, CloseBrace, OpenParen, CloseParen, Assign, Comma}
use Rattle.conf_items.specs.declared.grammar.Output.{Output}
use Rattle.conf_items.specs.declared.grammar.Output.TheVariants as output
use Rattle.conf_grammar.specs.Trees.{AreElements, EndsList, IsGiven, IsHead, IsInclude, IsOption}
use Rattle.conf_grammar.specs.Laws.{Ran, at_item, behind_move, joined, run}

abbrev pub done : List Output → Option Ran
done outputs = Some (record { outputs = outputs; parser = start })

none_done : {A : Type 0} (outs : List Output) → None ≡ done outs → A
none_done outs e = absurd (cc)

abbrev is_ended : Option Ran → Bool
is_ended None = false
is_ended (Some ran) = is_item ran.parser.next

-- the tokens don't end within an item
within : {A : Type 0} (depth : ℕ) (next : Next) (outs : List Output) → is_item next ≡ false → Some (record { outputs = []; parser = record { depth = depth; next = next } }) ≡ done outs → A
within depth next outs f e = let g : is_item next ≡ true = ap is_ended e in absurd (cc)

some_same : (a b : Ran) → Some a ≡ Some b → a ≡ b
some_same a b e = cc

-- what an output stands before
parted : (o : Output) (r : Option Ran) (outs : List Output) → joined (o ∷ []) r ≡ done outs → (more : List Output) × (outs ≡ o ∷ more) × (r ≡ done more)
parted o None outs e = none_done outs e
parted o (Some ran) outs e =
    let same = some_same _ _ e in
    (ran.outputs, sym (ap (λ r. r.outputs) same), ap (λ p. Some (record { outputs = ran.outputs; parser = p })) (ap (λ r. r.parser) same))

-- behind a value of a list
list_end : (ls : List Lexeme) (depth : ℕ) (list : OpenList) (outs : List Output) → run (record { depth = depth; next = next.Separator list }) ls ≡ done outs → (words : List Word) × (front : List Lexeme) × (behind : List Lexeme) × (more : List Output) × (EndsList words front) × (ls ≡ front ++ behind) × (outs ≡ output.Setting (list_setting (record list { words = list.words ++ words })) ∷ more) × (run (at_item depth) behind ≡ done more)
list_end [] depth list outs e = within depth (next.Separator list) outs refl e
list_end (CloseBrace ∷ behind) depth list outs e =
    let p = parted (output.Setting (list_setting list)) (run (at_item depth) behind) outs e in
    ([], CloseBrace ∷ [], behind, p.0, inl refl, refl, p.1 ∙ ap (λ ws. output.Setting (list_setting (record list { words = ws })) ∷ p.0) (sym (append-nil list.words)), p.2)
list_end (Comma ∷ []) depth list outs e = within depth (next.Element list) outs refl e
list_end (Comma ∷ CloseBrace ∷ behind) depth list outs e =
    let p = parted (output.Setting (list_setting list)) (run (at_item depth) behind) outs e in
    ([], Comma ∷ CloseBrace ∷ [], behind, p.0, inr refl, refl, p.1 ∙ ap (λ ws. output.Setting (list_setting (record list { words = ws })) ∷ p.0) (sym (append-nil list.words)), p.2)
list_end (Comma ∷ Bare word include ∷ ls) depth list outs e =
    let r = list_end ls depth (with_word list word) outs e in
    (word ∷ r.0, Comma ∷ Bare word include ∷ r.1, r.2, r.3, (Bare word include, r.1, refl, r.4, refl), ap (λ xs. Comma ∷ Bare word include ∷ xs) r.5, r.6 ∙ ap (λ ws. output.Setting (list_setting (record list { words = ws })) ∷ r.3) (append_assoc list.words (word ∷ []) r.0), r.7)
list_end (Comma ∷ Quoted word ∷ ls) depth list outs e =
    let r = list_end ls depth (with_word list word) outs e in
    (word ∷ r.0, Comma ∷ Quoted word ∷ r.1, r.2, r.3, (Quoted word, r.1, refl, r.4, refl), ap (λ xs. Comma ∷ Quoted word ∷ xs) r.5, r.6 ∙ ap (λ ws. output.Setting (list_setting (record list { words = ws })) ∷ r.3) (append_assoc list.words (word ∷ []) r.0), r.7)
list_end (Comma ∷ other ∷ ls) depth list outs e = none_done outs e
list_end (other ∷ ls) depth list outs e = none_done outs e

-- behind the brace of a list
list_elements : (ls : List Lexeme) (depth : ℕ) (key : Word) (mark : Mark) (place : Place) (outs : List Output) → run (record { depth = depth; next = next.Element (record { key = key; mark = mark; place = place; words = [] }) }) ls ≡ done outs → (words : List Word) × (front : List Lexeme) × (behind : List Lexeme) × (more : List Output) × (AreElements words front) × (ls ≡ front ++ behind) × (outs ≡ output.Setting (record { key = key; given = given_of mark (Many place words) }) ∷ more) × (run (at_item depth) behind ≡ done more)
list_elements [] depth key mark place outs e = within depth (next.Element (record { key = key; mark = mark; place = place; words = [] })) outs refl e
list_elements (CloseBrace ∷ behind) depth key mark place outs e =
    let p = parted (output.Setting (record { key = key; given = given_of mark (Many place []) })) (run (at_item depth) behind) outs e in
    ([], CloseBrace ∷ [], behind, p.0, refl, refl, p.1, p.2)
list_elements (Bare word include ∷ ls) depth key mark place outs e =
    let r = list_end ls depth (record { key = key; mark = mark; place = place; words = word ∷ [] }) outs e in
    (word ∷ r.0, Bare word include ∷ r.1, r.2, r.3, (Bare word include, r.1, refl, r.4, refl), ap (λ xs. Bare word include ∷ xs) r.5, r.6, r.7)
list_elements (Quoted word ∷ ls) depth key mark place outs e =
    let r = list_end ls depth (record { key = key; mark = mark; place = place; words = word ∷ [] }) outs e in
    (word ∷ r.0, Quoted word ∷ r.1, r.2, r.3, (Quoted word, r.1, refl, r.4, refl), ap (λ xs. Quoted word ∷ xs) r.5, r.6, r.7)
list_elements (other ∷ ls) depth key mark place outs e = none_done outs e

-- behind a mark
given_value : (ls : List Lexeme) (depth : ℕ) (key : Word) (mark : Mark) (outs : List Output) → run (record { depth = depth; next = next.Value key mark }) ls ≡ done outs → (value : Value) × (front : List Lexeme) × (behind : List Lexeme) × (more : List Output) × (IsGiven value front) × (ls ≡ front ++ behind) × (outs ≡ output.Setting (record { key = key; given = given_of mark value }) ∷ more) × (run (at_item depth) behind ≡ done more)
given_value [] depth key mark outs e = within depth (next.Value key mark) outs refl e
given_value (Bare word include ∷ behind) depth key mark outs e =
    let p = parted (output.Setting (record { key = key; given = given_of mark (One word) })) (run (at_item depth) behind) outs e in
    (One word, Bare word include ∷ [], behind, p.0, (Bare word include, refl, refl), refl, p.1, p.2)
given_value (Quoted word ∷ behind) depth key mark outs e =
    let p = parted (output.Setting (record { key = key; given = given_of mark (One word) })) (run (at_item depth) behind) outs e in
    (One word, Quoted word ∷ [], behind, p.0, (Quoted word, refl, refl), refl, p.1, p.2)
given_value (OpenBrace place ∷ ls) depth key mark outs e =
    let r = list_elements ls depth key mark place outs e in
    (Many place r.0, OpenBrace place ∷ r.1, r.2, r.3, (r.1, r.4, refl), ap (λ xs. OpenBrace place ∷ xs) r.5, r.6, r.7)
given_value (other ∷ ls) depth key mark outs e = none_done outs e

-- behind the name of a section
brace : (ls : List Lexeme) (depth : ℕ) (head : Head) (outs : List Output) → run (record { depth = depth; next = next.BehindName head }) ls ≡ done outs → (place : Place) × (behind : List Lexeme) × (more : List Output) × (ls ≡ OpenBrace place ∷ behind) × (outs ≡ output.Open head ∷ more) × (run (at_item (depth + 1)) behind ≡ done more)
brace [] depth head outs e = within depth (next.BehindName head) outs refl e
brace (OpenBrace place ∷ behind) depth head outs e =
    let p = parted (output.Open head) (run (at_item (depth + 1)) behind) outs e in
    (place, behind, p.0, refl, p.1, p.2)
brace (other ∷ ls) depth head outs e = none_done outs e

-- behind a name that is included
paren : (ls : List Lexeme) (depth : ℕ) (name : Word) (outs : List Output) → run (record { depth = depth; next = next.IncludeClose name }) ls ≡ done outs → (behind : List Lexeme) × (more : List Output) × (ls ≡ CloseParen ∷ behind) × (outs ≡ output.Include name ∷ more) × (run (at_item depth) behind ≡ done more)
paren [] depth name outs e = within depth (next.IncludeClose name) outs refl e
paren (CloseParen ∷ behind) depth name outs e =
    let p = parted (output.Include name) (run (at_item depth) behind) outs e in
    (behind, p.0, refl, p.1, p.2)
paren (other ∷ ls) depth name outs e = none_done outs e

-- nothing, the end of the section around, or an item, of which the first token is given
pub data First (depth : ℕ) (ls : List Lexeme) (outs : List Output) : Type 0 where
  Ended : depth ≡ 0 → ls ≡ [] → outs ≡ [] → First depth ls outs
  Closed : (before : ℕ) (behind : List Lexeme) (more : List Output) → depth ≡ before + 1 → ls ≡ CloseBrace ∷ behind → outs ≡ output.Close ∷ more → run (at_item before) behind ≡ done more → First depth ls outs
  Including : (name : Word) (l : Lexeme) (front behind : List Lexeme) (more : List Output) → IsInclude name (l ∷ front) → ls ≡ l ∷ (front ++ behind) → outs ≡ output.Include name ∷ more → run (at_item depth) behind ≡ done more → First depth ls outs
  Giving : (setting : Setting) (l : Lexeme) (front behind : List Lexeme) (more : List Output) → IsOption setting (l ∷ front) → ls ≡ l ∷ (front ++ behind) → outs ≡ output.Setting setting ∷ more → run (at_item depth) behind ≡ done more → First depth ls outs
  Opening : (head : Head) (l : Lexeme) (front behind : List Lexeme) (more : List Output) → IsHead head (l ∷ front) → ls ≡ l ∷ (front ++ behind) → outs ≡ output.Open head ∷ more → run (at_item (depth + 1)) behind ≡ done more → First depth ls outs

-- behind `include`
included : (ls : List Lexeme) (depth : ℕ) (word : Word) (outs : List Output) → run (record { depth = depth; next = next.IncludeOpen }) ls ≡ done outs → First depth (Bare word true ∷ ls) outs
included [] depth word outs e = within depth next.IncludeOpen outs refl e
included (OpenParen ∷ []) depth word outs e = within depth next.IncludeName outs refl e
included (OpenParen ∷ Bare name include ∷ ls) depth word outs e =
    let r = paren ls depth name outs e in
    Including name (Bare word true) (OpenParen ∷ Bare name include ∷ CloseParen ∷ []) r.0 r.1 (word, Bare name include, refl, refl) (ap (λ xs. Bare word true ∷ OpenParen ∷ Bare name include ∷ xs) r.2) r.3 r.4
included (OpenParen ∷ Quoted name ∷ ls) depth word outs e =
    let r = paren ls depth name outs e in
    Including name (Bare word true) (OpenParen ∷ Quoted name ∷ CloseParen ∷ []) r.0 r.1 (word, Quoted name, refl, refl) (ap (λ xs. Bare word true ∷ OpenParen ∷ Quoted name ∷ xs) r.2) r.3 r.4
included (OpenParen ∷ other ∷ ls) depth word outs e = none_done outs e
included (other ∷ ls) depth word outs e = none_done outs e

-- behind the word of an option or of a section
keyed : (ls : List Lexeme) (depth : ℕ) (word : Word) (outs : List Output) → run (record { depth = depth; next = next.BehindKey word }) ls ≡ done outs → First depth (Bare word false ∷ ls) outs
keyed [] depth word outs e = within depth (next.BehindKey word) outs refl e
keyed (Assign mark ∷ ls) depth word outs e =
    let r = given_value ls depth word mark outs e in
    Giving (record { key = word; given = given_of mark r.0 }) (Bare word false) (Assign mark ∷ r.1) r.2 r.3 (mark, r.0, r.1, refl, r.4, refl) (ap (λ xs. Bare word false ∷ Assign mark ∷ xs) r.5) r.6 r.7
keyed (OpenBrace place ∷ behind) depth word outs e =
    let p = parted (output.Open (record { word = word; name = None })) (run (at_item (depth + 1)) behind) outs e in
    Opening (record { word = word; name = None }) (Bare word false) (OpenBrace place ∷ []) behind p.0 (place, refl) refl p.1 p.2
keyed (Bare name include ∷ ls) depth word outs e =
    let r = brace ls depth (record { word = word; name = Some name }) outs e in
    Opening (record { word = word; name = Some name }) (Bare word false) (Bare name include ∷ OpenBrace r.0 ∷ []) r.1 r.2 (Bare name include, r.0, refl, refl) (ap (λ xs. Bare word false ∷ Bare name include ∷ xs) r.3) r.4 r.5
keyed (Quoted name ∷ ls) depth word outs e =
    let r = brace ls depth (record { word = word; name = Some name }) outs e in
    Opening (record { word = word; name = Some name }) (Bare word false) (Quoted name ∷ OpenBrace r.0 ∷ []) r.1 r.2 (Quoted name, r.0, refl, refl) (ap (λ xs. Bare word false ∷ Quoted name ∷ xs) r.3) r.4 r.5
keyed (other ∷ ls) depth word outs e = none_done outs e

-- a closing brace stands within a section
closing : (inside : Bool) (depth : ℕ) (behind : List Lexeme) (outs : List Output) → nat_lt 0 depth ≡ inside → behind_move (if inside then goes (depth - 1) next.Item output.Close else None) (λ p. run p behind) ≡ done outs → First depth (CloseBrace ∷ behind) outs
closing false depth behind outs t e = none_done outs e
closing true depth behind outs t e =
    let low : 0 < depth = grind (arith, nat_tests) in
    let p = parted output.Close (run (at_item (depth - 1)) behind) outs e in
    Closed (depth - 1) behind p.0 (omega arith) refl p.1 p.2

empty : (depth : ℕ) (outs : List Output) → Some (record { outputs = []; parser = at_item depth }) ≡ done outs → First depth [] outs
empty depth outs e =
    let same = some_same _ _ e in
    Ended (ap (λ r. r.parser.depth) same) refl (sym (ap (λ r. r.outputs) same))

pub first : (ls : List Lexeme) (depth : ℕ) (outs : List Output) → run (at_item depth) ls ≡ done outs → First depth ls outs
first [] depth outs e = empty depth outs e
first (Bare word true ∷ ls) depth outs e = included ls depth word outs e
first (Bare word false ∷ ls) depth outs e = keyed ls depth word outs e
first (CloseBrace ∷ behind) depth outs e = closing (nat_lt 0 depth) depth behind outs refl e
first (other ∷ ls) depth outs e = none_done outs e
