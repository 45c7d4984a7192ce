-- No text says two things.
use Rattle.std.proofs.Common.{◌≡◌, ℕ, zero, suc, Some, List, [], ◌∷◌, ◌++◌, length, Result, Ok, refl, ap, sym, subst, ◌∙◌}
use Rattle.base_fields.specs.declared.names.Pair.{Pair}
use Rattle.outside.specs.Files.{Tree}
use Rattle.conf_lexer.specs.Text.{tokens_of}
use Rattle.conf_lexer.specs.declared.tokens.Token.{Token}
use Rattle.conf_items.specs.declared.grammar.Lexeme.{Lexeme}
use Rattle.conf_grammar.proofs.OneTree.{one_tree}
use Rattle.conf_grammar.specs.Trees.{Items, NoItem, IncludeThen, OptionThen, SectionThen}
use Rattle.conf_texts.specs.Steps.{with_value}
use Rattle.conf_texts.specs.declared.texts.Text.{Text}
use Rattle.conf_trees.specs.Laws.{SaysOnce}
use Rattle.conf_trees.specs.Spliced.{IsTextOf, IsTreeOf, Says, Spliced, joined}
use Rattle.conf_trees.specs.Walked.{HasLexeme, LexemesOf}

value_same : (a b : List ℕ) (wanted : Result (List ℕ) (List ℕ)) → wanted ≡ Ok a → wanted ≡ Ok b → a ≡ b
value_same a b wanted h k = cc

tokens_same : (a b : List Token) (wanted : Result (List Token) ℕ) → wanted ≡ Ok a → wanted ≡ Ok b → a ≡ b
tokens_same a b wanted h k = cc

bytes_same : (a b : List ℕ) → Some a ≡ Some b → a ≡ b
bytes_same a b e = cc

lexeme_once : (vars : List Pair) (text : Text) (token : Token) (l m : Lexeme) → HasLexeme vars text token l → HasLexeme vars text token m → l ≡ m
lexeme_once vars text token l m h k = h.2 ∙ ap (with_value text token) (value_same h.0 k.0 _ h.1 k.1) ∙ sym k.2

lexemes_once : (vars : List Pair) (text : Text) (tokens : List Token) (ls ms : List Lexeme) → LexemesOf vars text tokens ls → LexemesOf vars text tokens ms → ls ≡ ms
lexemes_once vars text [] [] [] h k = refl
lexemes_once vars text [] [] (m ∷ ms) h k = absurd k
lexemes_once vars text [] (l ∷ ls) ms h k = absurd h
lexemes_once vars text (token ∷ tokens) [] ms h k = absurd h
lexemes_once vars text (token ∷ tokens) (l ∷ ls) [] h k = absurd k
lexemes_once vars text (token ∷ tokens) (l ∷ ls) (m ∷ ms) h k =
    ap (λ x. x ∷ ls) (lexeme_once vars text token l m h.0 k.0) ∙ ap (λ xs. m ∷ xs) (lexemes_once vars text tokens ls ms h.1 k.1)

tree_once : (vars : List Pair) (text : Text) (t u : Items) → IsTreeOf vars text t → IsTreeOf vars text u → t ≡ u
tree_once vars text t u h k =
    let same : h.0 ≡ k.0 = lexemes_once vars text text.tokens h.0 k.0 h.1 k.1 in
    one_tree t u h.0 h.2 (rw same k.2)

text_once : (file : Tree) (name : List ℕ) (number : ℕ) (a b : Text) → IsTextOf file name number a → IsTextOf file name number b → a ≡ b
text_once file name number a b h k =
    let bytes : a.bytes ≡ b.bytes = bytes_same a.bytes b.bytes (sym h.0 ∙ k.0) in
    let tokens : a.tokens ≡ b.tokens = tokens_same a.tokens b.tokens (tokens_of b.bytes) (ap tokens_of (sym bytes) ∙ h.1) k.1 in
    ap (λ n. record { name = n; number = a.number; bytes = a.bytes; tokens = a.tokens }) (h.2 ∙ sym k.2)
    ∙ ap (λ n. record { name = b.name; number = n; bytes = a.bytes; tokens = a.tokens }) (h.3 ∙ sym k.3)
    ∙ ap (λ bs. record { name = b.name; number = b.number; bytes = bs; tokens = a.tokens }) bytes
    ∙ ap (λ ts. record { name = b.name; number = b.number; bytes = b.bytes; tokens = ts }) tokens

spliced_once : (Stands : List ℕ → List (List ℕ) → Items → List (List ℕ) → Type 0) →
    ((name : List ℕ) (before after behind : List (List ℕ)) (u v : Items) → Stands name before u after → Stands name before v behind → (u ≡ v) × (after ≡ behind)) →
    (t : Items) (before after behind : List (List ℕ)) (u v : Items) → Spliced Stands t before u after → Spliced Stands t before v behind → (u ≡ v) × (after ≡ behind)
spliced_once Stands once NoItem before after behind u v h k = (h.0 ∙ sym k.0, h.1 ∙ sym k.1)
spliced_once Stands once (IncludeThen name rest) before after behind u v h k =
    let text = once name.text before h.2 k.2 h.0 k.0 h.3 k.3 in
    let more = spliced_once Stands once rest k.2 after behind h.1 k.1 (subst (λ b. Spliced Stands rest b h.1 after) text.1 h.4) k.4 in
    (h.5 ∙ ap (λ x. joined x h.1) text.0 ∙ ap (joined k.0) more.0 ∙ sym k.5, more.1)
spliced_once Stands once (OptionThen setting rest) before after behind u v h k =
    let more = spliced_once Stands once rest before after behind h.0 k.0 h.1 k.1 in
    (h.2 ∙ ap (OptionThen setting) more.0 ∙ sym k.2, more.1)
spliced_once Stands once (SectionThen head inside rest) before after behind u v h k =
    let within = spliced_once Stands once inside before h.2 k.2 h.0 k.0 h.3 k.3 in
    let more = spliced_once Stands once rest k.2 after behind h.1 k.1 (subst (λ b. Spliced Stands rest b h.1 after) within.1 h.4) k.4 in
    (h.5 ∙ ap (λ x. SectionThen head x h.1) within.0 ∙ ap (SectionThen head k.0) more.0 ∙ sym k.5, more.1)

pub says_once : SaysOnce
unfolding Says
says_once vars file zero name before after behind u v h k = absurd h
says_once vars file (suc left) name before after behind u v h k =
    let text : h.0 ≡ k.0 = text_once file name (length before) h.0 k.0 h.2 k.2 in
    let tree : h.1 ≡ k.1 = tree_once vars k.0 h.1 k.1 (subst (λ x. IsTreeOf vars x h.1) text h.3) k.3 in
    spliced_once (Says vars file left) (λ n b a c x y p q. says_once vars file left n b a c x y p q) k.1 (before ++ name ∷ []) after behind u v (subst (λ t. Spliced (Says vars file left) t (before ++ name ∷ []) u after) tree h.4) k.4
