-- What a text says with all that it includes: its tree, with the items of each included text in the place of the include.
use Rattle.std.specs.Prelude.{◌≡◌, ℕ, zero, suc, List, [], ◌∷◌, ◌++◌, length, Some, Ok}
use Rattle.std.specs.List.{sum_by}
use Rattle.base_fields.specs.declared.names.Pair.{Pair}
use Rattle.outside.specs.Files.{Tree, bytes_of}
use Rattle.conf_lexer.specs.Text.{tokens_of}
use Rattle.conf_items.specs.declared.grammar.Lexeme.{Lexeme}
use Rattle.conf_grammar.specs.Trees.{Items, NoItem, IncludeThen, OptionThen, SectionThen, Spells}
use Rattle.conf_texts.specs.declared.texts.Reading.{Reading}
use Rattle.conf_texts.specs.declared.texts.Text.{Text}
use Rattle.conf_trees.specs.Said.{HasNoInclude}
use Rattle.conf_trees.specs.Walked.{LexemesOf, Walk, tree_walked, with_outline}

-- the items of one tree, and behind them those of another
abbrev pub joined : Items → Items → Items
joined NoItem u = u
joined (IncludeThen name rest) u = IncludeThen name (joined rest u)
joined (OptionThen setting rest) u = OptionThen setting (joined rest u)
joined (SectionThen head inside rest) u = SectionThen head inside (joined rest u)

-- `u` is a tree with items in the place of each include. `Stands name before v after`: those of v stand for the text of that name, where the texts of the names `before` were read up to there, and those of `after` once it was
abbrev pub Spliced : (List ℕ → List (List ℕ) → Items → List (List ℕ) → Type 0) → Items → List (List ℕ) → Items → List (List ℕ) → Type 0
Spliced Stands NoItem before u after = (u ≡ NoItem) × (after ≡ before)
Spliced Stands (IncludeThen name rest) before u after =
    (text : Items) × (more : Items) × (between : List (List ℕ)) × (Stands name.text before text between) × (Spliced Stands rest between more after) × (u ≡ joined text more)
Spliced Stands (OptionThen setting rest) before u after = (more : Items) × (Spliced Stands rest before more after) × (u ≡ OptionThen setting more)
Spliced Stands (SectionThen head inside rest) before u after =
    (within : Items) × (more : Items) × (between : List (List ℕ)) × (Spliced Stands inside before within between) × (Spliced Stands rest between more after) × (u ≡ SectionThen head within more)

-- the text of that name, by its number in the order of reading
abbrev pub IsTextOf : Tree → List ℕ → ℕ → Text → Type 0
IsTextOf file name number text = (file name ≡ Some text.bytes) × (tokens_of text.bytes ≡ Ok text.tokens) × (text.name ≡ name) × (text.number ≡ number)

-- a tree spells a text
abbrev pub IsTreeOf : List Pair → Text → Items → Type 0
IsTreeOf vars text t = (ls : List Lexeme) × (LexemesOf vars text text.tokens ls) × (Spells t ls)

-- `u` says what the text of that name says with all that it includes, where so many nestings are left for it; the names are those of the texts read up to there, and once it was
unfoldable pub Says : List Pair → Tree → ℕ → List ℕ → List (List ℕ) → Items → List (List ℕ) → Type 0
Says vars file zero name before u after = ⊥
Says vars file (suc left) name before u after =
    (text : Text) × (t : Items) × (IsTextOf file name (length before) text) × (IsTreeOf vars text t) × (Spliced (Says vars file left) t (before ++ name ∷ []) u after)

-- the sum of the lengths of these texts
abbrev pub size_of : Tree → List (List ℕ) → ℕ
size_of file names = sum_by (λ name. length (bytes_of file name)) names

-- a tree without includes makes the outline of the one reading that of the other
abbrev pub Outlines : Items → Reading → Reading → Type 0
Outlines u before after = HasNoInclude u × ((included : Walk) → tree_walked included u before ≡ Ok (with_outline before after.outline))
