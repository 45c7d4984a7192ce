-- What one text says as a tree, and the tokens that spell it, a definition for each rule of the grammar.
-- A bare word that is spelled `include` begins an include and no other item; as a value it is a word like others.
use Rattle.std.specs.Prelude.{◌≡◌, ◌⊎◌, true, false, List, [], ◌∷◌, ◌++◌, Option, Some, None}
use Rattle.conf_items.specs.Grammar.{given_of}
use Rattle.conf_items.specs.declared.items.Word.{Word}
use Rattle.conf_items.specs.declared.items.Value.{Value}
use Rattle.conf_items.specs.declared.items.Value.TheVariants.{One, Many}
use Rattle.conf_items.specs.declared.items.Setting.{Setting}
use Rattle.conf_items.specs.declared.items.Head.{Head}
use Rattle.conf_items.specs.declared.items.Place.{Place}
use Rattle.conf_items.specs.declared.grammar.Mark.{Mark}
use Rattle.conf_items.specs.declared.grammar.Lexeme.{Lexeme}
use Rattle.conf_items.specs.declared.grammar.Lexeme.TheVariants.{Bare, Quoted, OpenBrace, CloseBrace, OpenParen, CloseParen, Assign, Comma}

-- the items of a text or of a section, one and then the others; a section's own items come before those behind it
pub data Items : Type 0 where
  NoItem : Items
  IncludeThen : Word → Items → Items
  OptionThen : Setting → Items → Items
  SectionThen : Head → Items → Items → Items

-- value = word | double | single
abbrev pub as_value : Lexeme → Option Word
as_value (Bare word include) = Some word
as_value (Quoted word) = Some word
as_value _ = None

abbrev pub IsValue : Word → Lexeme → Type 0
IsValue word lexeme = as_value lexeme ≡ Some word

-- include = "include" "(" value ")"
abbrev pub IsInclude : Word → List Lexeme → Type 0
IsInclude name ls = (word : Word) × (value : Lexeme) × (IsValue name value) × (ls ≡ Bare word true ∷ OpenParen ∷ value ∷ CloseParen ∷ [])

-- { "," value } [ "," ] "}"
abbrev pub EndsList : List Word → List Lexeme → Type 0
EndsList [] ls = (ls ≡ CloseBrace ∷ []) ⊎ (ls ≡ Comma ∷ CloseBrace ∷ [])
EndsList (word ∷ words) ls = (value : Lexeme) × (behind : List Lexeme) × (IsValue word value) × (EndsList words behind) × (ls ≡ Comma ∷ value ∷ behind)

-- [ value { "," value } [ "," ] ] "}"
abbrev pub AreElements : List Word → List Lexeme → Type 0
AreElements [] ls = ls ≡ CloseBrace ∷ []
AreElements (word ∷ words) ls = (value : Lexeme) × (behind : List Lexeme) × (IsValue word value) × (EndsList words behind) × (ls ≡ value ∷ behind)

-- value | list, where list = "{" [ value { "," value } [ "," ] ] "}"
abbrev pub IsGiven : Value → List Lexeme → Type 0
IsGiven (One word) ls = (value : Lexeme) × (IsValue word value) × (ls ≡ value ∷ [])
IsGiven (Many place words) ls = (behind : List Lexeme) × (AreElements words behind) × (ls ≡ OpenBrace place ∷ behind)

-- option = word ( "=" | "+=" ) ( value | list )
abbrev pub IsOption : Setting → List Lexeme → Type 0
IsOption setting ls =
    (mark : Mark) × (value : Value) × (behind : List Lexeme) × (setting.given ≡ given_of mark value) × (IsGiven value behind) × (ls ≡ Bare setting.key false ∷ Assign mark ∷ behind)

-- the start of a section: word [ value ] "{"
abbrev pub OpensSection : Word → Option Word → List Lexeme → Type 0
OpensSection word None ls = (place : Place) × (ls ≡ Bare word false ∷ OpenBrace place ∷ [])
OpensSection word (Some name) ls = (value : Lexeme) × (place : Place) × (IsValue name value) × (ls ≡ Bare word false ∷ value ∷ OpenBrace place ∷ [])

abbrev pub IsHead : Head → List Lexeme → Type 0
IsHead head ls = OpensSection head.word head.name ls

-- its end
abbrev pub ClosesSection : List Lexeme → Type 0
ClosesSection ls = ls ≡ CloseBrace ∷ []

-- one thing, and then another one behind it
abbrev pub Both : (List Lexeme → Type 0) → (List Lexeme → Type 0) → List Lexeme → Type 0
Both First Second ls = (front : List Lexeme) × (behind : List Lexeme) × (First front) × (Second behind) × (ls ≡ front ++ behind)

-- { item }, where section = word [ value ] "{" { item } "}"
abbrev pub Spells : Items → List Lexeme → Type 0
Spells NoItem ls = ls ≡ []
Spells (IncludeThen name rest) ls = Both (IsInclude name) (Spells rest) ls
Spells (OptionThen setting rest) ls = Both (IsOption setting) (Spells rest) ls
Spells (SectionThen head inside rest) ls = Both (IsHead head) (Both (Spells inside) (Both ClosesSection (Spells rest))) ls
