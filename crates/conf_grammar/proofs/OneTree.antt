-- Two trees that spell the same tokens are one.
use Rattle.std.proofs.Common.{◌≡◌, Bool, true, false, Option, Some, None, List, [], ◌∷◌, ◌++◌, refl, ap, sym, ◌∙◌, append_assoc, append-nil}
use Rattle.conf_items.specs.declared.grammar.Output.{Output}
use Rattle.conf_items.specs.declared.grammar.Output.TheVariants as output
use Rattle.conf_grammar.proofs.FirstItem.{done}
use Rattle.conf_grammar.proofs.Standing.{text_reads}
use Rattle.conf_grammar.specs.Trees.{Items, NoItem, IncludeThen, OptionThen, SectionThen}
use Rattle.conf_grammar.specs.Laws.{OneTree, Ran, outputs_of}

-- nothing, or the end of a section and what is behind it
abbrev stops : List Output → Bool
stops [] = true
stops (output.Close ∷ rest) = true
stops (o ∷ rest) = false

begun : {A : Type 0} (xs rest : List Output) (o : Output) → stops (o ∷ rest) ≡ false → xs ≡ o ∷ rest → stops xs ≡ true → A
begun xs rest o e f h = let g : stops xs ≡ stops (o ∷ rest) = ap stops f in absurd (cc)

heads : (o p : Output) (xs ys : List Output) → o ∷ xs ≡ p ∷ ys → o ≡ p
heads o p xs ys e = cc

tails : (o p : Output) (xs ys : List Output) → o ∷ xs ≡ p ∷ ys → xs ≡ ys
tails o p xs ys e = cc

-- what a section makes whole, its parts apart
apart : (inside rest : Items) (xs : List Output) → (outputs_of inside ++ output.Close ∷ outputs_of rest) ++ xs ≡ outputs_of inside ++ (output.Close ∷ (outputs_of rest ++ xs))
apart inside rest xs = append_assoc (outputs_of inside) (output.Close ∷ outputs_of rest) xs

same : (t u : Items) (xs ys : List Output) → stops xs ≡ true → stops ys ≡ true → outputs_of t ++ xs ≡ outputs_of u ++ ys → (t ≡ u) × (xs ≡ ys)
same NoItem NoItem xs ys h k e = (refl, e)
same NoItem (IncludeThen name rest) xs ys h k e = begun xs _ (output.Include name) refl e h
same NoItem (OptionThen setting rest) xs ys h k e = begun xs _ (output.Setting setting) refl e h
same NoItem (SectionThen head inside rest) xs ys h k e = begun xs _ (output.Open head) refl e h
same (IncludeThen name rest) NoItem xs ys h k e = begun ys _ (output.Include name) refl (sym e) k
same (IncludeThen name rest) (IncludeThen other left) xs ys h k e =
    let first : output.Include name ≡ output.Include other = heads _ _ _ _ e in
    let behind = same rest left xs ys h k (tails _ _ _ _ e) in
    let word : name ≡ other = cc in
    let items : rest ≡ left = behind.0 in
    (cc, behind.1)
same (IncludeThen name rest) (OptionThen setting left) xs ys h k e = absurd (cc (heads _ _ _ _ e))
same (IncludeThen name rest) (SectionThen head inside left) xs ys h k e = absurd (cc (heads _ _ _ _ e))
same (OptionThen setting rest) NoItem xs ys h k e = begun ys _ (output.Setting setting) refl (sym e) k
same (OptionThen setting rest) (IncludeThen name left) xs ys h k e = absurd (cc (heads _ _ _ _ e))
same (OptionThen setting rest) (OptionThen other left) xs ys h k e =
    let first : output.Setting setting ≡ output.Setting other = heads _ _ _ _ e in
    let behind = same rest left xs ys h k (tails _ _ _ _ e) in
    let one : setting ≡ other = cc in
    let items : rest ≡ left = behind.0 in
    (cc, behind.1)
same (OptionThen setting rest) (SectionThen head inside left) xs ys h k e = absurd (cc (heads _ _ _ _ e))
same (SectionThen head inside rest) NoItem xs ys h k e = begun ys _ (output.Open head) refl (sym e) k
same (SectionThen head inside rest) (IncludeThen name left) xs ys h k e = absurd (cc (heads _ _ _ _ e))
same (SectionThen head inside rest) (OptionThen setting left) xs ys h k e = absurd (cc (heads _ _ _ _ e))
same (SectionThen head inside rest) (SectionThen other within left) xs ys h k e =
    let first : output.Open head ≡ output.Open other = heads _ _ _ _ e in
    let inner = same inside within (output.Close ∷ (outputs_of rest ++ xs)) (output.Close ∷ (outputs_of left ++ ys)) refl refl (sym (apart inside rest xs) ∙ tails _ _ _ _ e ∙ apart within left ys) in
    let behind = same rest left xs ys h k (tails _ _ _ _ inner.1) in
    let one : head ≡ other = cc in
    let items : inside ≡ within = inner.0 in
    let others : rest ≡ left = behind.0 in
    (cc, behind.1)

abbrev outputs_in : Option Ran → List Output
outputs_in None = []
outputs_in (Some ran) = ran.outputs

outputs_same : (a b : List Output) → done a ≡ done b → a ≡ b
outputs_same a b e = ap outputs_in e

pub one_tree : OneTree
one_tree t u ls h k =
    let says : outputs_of t ≡ outputs_of u = outputs_same (outputs_of t) (outputs_of u) (sym (text_reads t ls h) ∙ text_reads u ls k) in
    (same t u [] [] refl refl (append-nil (outputs_of t) ∙ says ∙ sym (append-nil (outputs_of u)))).0
