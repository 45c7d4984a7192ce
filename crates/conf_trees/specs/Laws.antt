-- The laws: the walk of a text is the walk of its tree, and what all texts say is what one tree says.
use Rattle.std.specs.Prelude.{◌≡◌, ℕ, ◌≤◌, List, [], ◌++◌, length, Ok, Err}
use Rattle.base_fields.specs.declared.names.Pair.{Pair}
use Rattle.outside.specs.Files.{Tree}
use Rattle.conf_lexer.specs.declared.tokens.Token.{Token}
use Rattle.conf_words.specs.Values.{value_of}
use Rattle.conf_items.specs.Grammar.{start}
use Rattle.conf_items.specs.declared.grammar.Lexeme.{Lexeme}
use Rattle.conf_items.specs.declared.outline.OpenSections.TheVariants.{Nothing}
use Rattle.conf_grammar.specs.Trees.{Items, Spells}
use Rattle.conf_texts.specs.Steps.{spelling_of}
use Rattle.conf_texts.specs.Texts.{most_bytes}
use Rattle.conf_walk.specs.Walk.{nestings, text_walked, texts_of, tokens_walked}
use Rattle.conf_texts.specs.declared.fault.WalkFault.TheVariants.{BadText, Unset}
use Rattle.conf_texts.specs.declared.texts.Reading.{Reading}
use Rattle.conf_texts.specs.declared.texts.Text.{Text}
use Rattle.conf_walk.specs.declared.walking.Texts.{Texts}
use Rattle.conf_trees.specs.Met.{AlwaysReads, BeginsText, GoesOn, Meets, Reaches, Stops}
use Rattle.conf_trees.specs.Said.{HasNoInclude, items_of}
use Rattle.conf_trees.specs.Spliced.{Outlines, Says, Spliced, size_of}
use Rattle.conf_trees.specs.Walked.{LexemesOf, Walk, tree_walked, with_outline}

-- ---- one text

-- the walk of a text that a tree spells is the walk of the tree, whatever is included and whatever was read before
abbrev pub WalksTree : Type 0
WalksTree = (vars : List Pair) (text : Text) (tokens : List Token) (ls : List Lexeme) (t : Items) → LexemesOf vars text tokens ls → Spells t ls → (included : Walk) (reading : Reading) → tokens_walked included vars text tokens start reading ≡ tree_walked included t reading

-- the tokens of a text whose walk doesn't refuse have values, and a tree spells them
abbrev pub HasTree : Type 0
HasTree = (vars : List Pair) (text : Text) (tokens : List Token) (included : Walk) (reading after : Reading) → tokens_walked included vars text tokens start reading ≡ Ok after → (ls : List Lexeme) × (t : Items) × (LexemesOf vars text tokens ls) × (Spells t ls)

-- a tree without includes adds the items that it says, where no section is open, and nothing else
abbrev pub AddsItems : Type 0
AddsItems = (t : Items) → HasNoInclude t → (included : Walk) (reading : Reading) → reading.outline.inside ≡ Nothing → tree_walked included t reading ≡ Ok (with_outline reading (record { items = reading.outline.items ++ items_of t; inside = Nothing }))

-- ---- one text that the walk refuses, where each text that it includes is read

-- tokens are spelled by a tree, or only begin a text, or one can't stand, or one has no value
abbrev pub MeetsOne : Type 0
MeetsOne = (vars : List Pair) (text : Text) (tokens : List Token) → Meets vars text tokens

-- the walk refuses at the first token with which no text of the grammar goes on, whatever its value
abbrev pub RefusesToken : Type 0
RefusesToken = (vars : List Pair) (text : Text) (tokens : List Token) (front : List Lexeme) (token : Token) → Reaches vars text tokens front token → Stops front token.kind → (included : Walk) → AlwaysReads included → (reading : Reading) → tokens_walked included vars text tokens start reading ≡ Err (BadText text.name token.span.at)

-- at the first variable without a value, where a text of the grammar goes on with the token
abbrev pub RefusesUnset : Type 0
RefusesUnset = (vars : List Pair) (text : Text) (tokens : List Token) (front : List Lexeme) (token : Token) (var : List ℕ) → Reaches vars text tokens front token → GoesOn front token.kind → value_of vars token.kind (spelling_of text token) ≡ Err var → (included : Walk) → AlwaysReads included → (reading : Reading) → tokens_walked included vars text tokens start reading ≡ Err (Unset var)

-- and at the length of a text whose tokens only begin one of the grammar
abbrev pub RefusesEnd : Type 0
RefusesEnd = (vars : List Pair) (text : Text) (tokens : List Token) (ls : List Lexeme) → LexemesOf vars text tokens ls → BeginsText ls → ((t : Items) → Spells t ls → ⊥) → (included : Walk) → AlwaysReads included → (reading : Reading) → tokens_walked included vars text tokens start reading ≡ Err (BadText text.name (length text.bytes))

-- ---- a text and all that it includes

-- what is read of a text makes the outline that a tree without includes makes: what the text says, in whatever section it is included
abbrev pub TextStands : Type 0
TextStands = (vars : List Pair) (file : Tree) (left : ℕ) (name : List ℕ) (reading after : Reading) → text_walked vars file left name reading ≡ Ok after → (u : Items) × (Says vars file left name reading.names u after.names) × (Outlines u reading after)

-- so what is read of a tree makes the outline of the tree in which the items of each text stand in the place of its include
abbrev pub TreeStands : Type 0
TreeStands = (vars : List Pair) (file : Tree) (left : ℕ) (t : Items) (reading after : Reading) → tree_walked (text_walked vars file left) t reading ≡ Ok after → (u : Items) × (Spliced (Says vars file left) t reading.names u after.names) × (Outlines u reading after)

-- no text says two things
abbrev pub SaysOnce : Type 0
SaysOnce = (vars : List Pair) (file : Tree) (left : ℕ) (name : List ℕ) (before after behind : List (List ℕ)) (u v : Items) → Says vars file left name before u after → Says vars file left name before v behind → (u ≡ v) × (after ≡ behind)

-- ---- the texts of a configuration

-- they say the items of one tree without includes
abbrev pub TextsSay : Type 0
TextsSay = (vars : List Pair) (file : Tree) (name : List ℕ) (texts : Texts) → texts_of vars file name ≡ Ok texts → (u : Items) × (Says vars file nestings name [] u texts.names) × (HasNoInclude u) × (texts.items ≡ items_of u) × (size_of file texts.names ≤ most_bytes)

-- what such a tree says is read, where the texts aren't too long
abbrev pub SaidTexts : Type 0
SaidTexts = (vars : List Pair) (file : Tree) (name : List ℕ) (u : Items) (names : List (List ℕ)) → Says vars file nestings name [] u names → size_of file names ≤ most_bytes → texts_of vars file name ≡ Ok (record { items = items_of u; names = names })
