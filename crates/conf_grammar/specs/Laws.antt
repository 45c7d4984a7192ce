-- The laws: the moves of a parser take exactly the texts of the grammar, and keep what their trees say.
use Rattle.std.specs.Prelude.{◌≡◌, ℕ, Bool, true, false, List, [], ◌∷◌, ◌++◌, Option, Some, None}
use Rattle.conf_lexer.specs.declared.tokens.TokenKind.{TokenKind}
use Rattle.conf_lexer.specs.declared.tokens.TokenKind.TheVariants as kind
use Rattle.conf_items.specs.Grammar.{allowed, may_end, moved, start}
use Rattle.conf_items.specs.declared.grammar.Next.TheVariants as next
use Rattle.conf_items.specs.declared.grammar.Lexeme.{Lexeme}
use Rattle.conf_items.specs.declared.grammar.Lexeme.TheVariants.{Bare, Quoted, OpenBrace, CloseBrace, OpenParen, CloseParen, Assign, Comma}
use Rattle.conf_items.specs.declared.grammar.Mark.TheVariants as mark
use Rattle.conf_items.specs.declared.grammar.Parser.{Parser}
use Rattle.conf_items.specs.declared.grammar.Output.{Output}
use Rattle.conf_items.specs.declared.grammar.Output.TheVariants as output
use Rattle.conf_items.specs.declared.grammar.Move.{Move}
use Rattle.conf_grammar.specs.Trees.{Items, NoItem, IncludeThen, OptionThen, SectionThen, Spells}

-- what a tree makes whole, in the order of its text
abbrev pub outputs_of : Items → List Output
outputs_of NoItem = []
outputs_of (IncludeThen name rest) = output.Include name ∷ outputs_of rest
outputs_of (OptionThen setting rest) = output.Setting setting ∷ outputs_of rest
outputs_of (SectionThen head inside rest) = output.Open head ∷ (outputs_of inside ++ output.Close ∷ outputs_of rest)

-- what tokens made whole, one after another, and where they led
pub record Ran : Type 0 where
  pub outputs : List Output
  pub parser : Parser

abbrev pub joined : List Output → Option Ran → Option Ran
joined outputs None = None
joined outputs (Some ran) = Some (record { outputs = outputs ++ ran.outputs; parser = ran.parser })

abbrev pub kept : Output → Option Ran → Option Ran
kept output.Nothing ran = ran
kept other ran = joined (other ∷ []) ran

abbrev pub behind_move : Option Move → (Parser → Option Ran) → Option Ran
behind_move None rest = None
behind_move (Some move) rest = kept move.output (rest move.parser)

-- the moves of these tokens; none where one of them can't stand
abbrev pub run : Parser → List Lexeme → Option Ran
run parser [] = Some (record { outputs = []; parser = parser })
run parser (l ∷ ls) = behind_move (moved parser l) (λ next. run next ls)

-- an item may stand next, in so many sections
abbrev pub at_item : ℕ → Parser
at_item depth = record { depth = depth; next = next.Item }

-- the tokens that a tree spells are taken wherever an item may stand, and make whole what the tree says
abbrev pub TreeReads : Type 0
TreeReads = (t : Items) (ls : List Lexeme) → Spells t ls → (depth : ℕ) (more : List Lexeme) → run (at_item depth) (ls ++ more) ≡ joined (outputs_of t) (run (at_item depth) more)

-- a text of the grammar is taken to its end
abbrev pub TextReads : Type 0
TextReads = (t : Items) (ls : List Lexeme) → Spells t ls → run start ls ≡ Some (record { outputs = outputs_of t; parser = start })

-- no text of the grammar begins with tokens of which one can't be taken
abbrev pub BeginsNoTree : Type 0
BeginsNoTree = (front : List Lexeme) → run start front ≡ None → (t : Items) (more : List Lexeme) → Spells t (front ++ more) → ⊥

-- from each state of a parser there are tokens that end the item at hand and the sections around it
abbrev pub CanGoOn : Type 0
CanGoOn = (parser : Parser) → (more : List Lexeme) × (outputs : List Output) × (run parser more ≡ Some (record { outputs = outputs; parser = start }))

-- a text that is taken, and that may end where it does, is one of the grammar, and made whole what its tree says
abbrev pub ReadsTree : Type 0
ReadsTree = (ls : List Lexeme) (ran : Ran) → run start ls ≡ Some ran → may_end ran.parser ≡ true → (t : Items) × (Spells t ls) × (ran.outputs ≡ outputs_of t)

-- a text of the grammar begins with tokens that are taken
abbrev pub BeginsTree : Type 0
BeginsTree = (front : List Lexeme) (ran : Ran) → run start front ≡ Some ran → (more : List Lexeme) × (t : Items) × (Spells t (front ++ more))

-- a token is of a kind, whatever its value and place
abbrev pub is_of : TokenKind → Lexeme → Bool
is_of kind.Word (Bare word include) = true
is_of kind.Double (Quoted word) = true
is_of kind.Single (Quoted word) = true
is_of kind.OpenBrace (OpenBrace place) = true
is_of kind.CloseBrace CloseBrace = true
is_of kind.OpenParen OpenParen = true
is_of kind.CloseParen CloseParen = true
is_of kind.Equals (Assign mark.Equals) = true
is_of kind.PlusEquals (Assign mark.PlusEquals) = true
is_of kind.Comma Comma = true
is_of _ _ = false

-- where a parser allows a kind behind the tokens that are taken, each token of that kind can stand there
abbrev pub AllowedStands : Type 0
AllowedStands = (front : List Lexeme) (ran : Ran) (kind : TokenKind) (l : Lexeme) → run start front ≡ Some ran → is_of kind l ≡ true → allowed ran.parser kind ≡ true → (more : List Lexeme) × (t : Items) × (Spells t (front ++ (l ∷ more)))

-- where it doesn't, none can
abbrev pub RefusedCannot : Type 0
RefusedCannot = (front : List Lexeme) (ran : Ran) (kind : TokenKind) (l : Lexeme) → run start front ≡ Some ran → is_of kind l ≡ true → allowed ran.parser kind ≡ false → (t : Items) (more : List Lexeme) → Spells t (front ++ (l ∷ more)) → ⊥

-- no text says two things
abbrev pub OneTree : Type 0
OneTree = (t u : Items) (ls : List Lexeme) → Spells t ls → Spells u ls → t ≡ u
