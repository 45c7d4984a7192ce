-- Which token may stand where in a text, and what it makes whole, rule by rule.
use Rattle.std.specs.Prelude.{ℕ, ◌+◌, ◌-◌, ◌&&◌, nat_lt, nat_eq, Bool, true, false, [], ◌∷◌, ◌++◌, Option, Some, None, is_some, if◌then◌else◌}
use Rattle.conf_lexer.specs.declared.tokens.TokenKind.{TokenKind}
use Rattle.conf_lexer.specs.declared.tokens.TokenKind.TheVariants as kind
use Rattle.conf_items.specs.declared.items.Word.{Word}
use Rattle.conf_items.specs.declared.items.Value.{Value}
use Rattle.conf_items.specs.declared.items.Value.TheVariants.{One, Many}
use Rattle.conf_items.specs.declared.items.Given.{Given}
use Rattle.conf_items.specs.declared.items.Given.TheVariants as given
use Rattle.conf_items.specs.declared.items.Setting.{Setting}
use Rattle.conf_items.specs.declared.items.Head.{Head}
use Rattle.conf_items.specs.declared.grammar.Mark.{Mark}
use Rattle.conf_items.specs.declared.grammar.Mark.TheVariants as mark
use Rattle.conf_items.specs.declared.grammar.OpenList.{OpenList}
use Rattle.conf_items.specs.declared.grammar.Next.{Next}
use Rattle.conf_items.specs.declared.grammar.Next.TheVariants as next
use Rattle.conf_items.specs.declared.grammar.Lexeme.{Lexeme}
use Rattle.conf_items.specs.declared.grammar.Lexeme.TheVariants.{Bare, Quoted, OpenBrace, CloseBrace, OpenParen, CloseParen, Assign, Comma}
use Rattle.conf_items.specs.declared.grammar.Parser.{Parser}
use Rattle.conf_items.specs.declared.grammar.Output.{Output}
use Rattle.conf_items.specs.declared.grammar.Output.TheVariants as output
use Rattle.conf_items.specs.declared.grammar.Move.{Move}

abbrev pub goes : ℕ → Next → Output → Option Move
goes depth next output = Some (record { parser = record { depth = depth; next = next }; output = output })

-- what a key is given behind a mark
abbrev pub given_of : Mark → Value → Given
given_of mark.Equals value = given.Set value
given_of mark.PlusEquals value = given.Added value

abbrev pub list_setting : OpenList → Setting
list_setting list = record { key = list.key; given = given_of list.mark (Many list.place list.words) }

-- item: `include`, the word of a key or of a section, or the end of a section
abbrev pub item_moved : ℕ → Lexeme → Option Move
item_moved depth (Bare word true) = goes depth next.IncludeOpen output.Nothing
item_moved depth (Bare word false) = goes depth (next.BehindKey word) output.Nothing
item_moved depth CloseBrace = if nat_lt 0 depth then goes (depth - 1) next.Item output.Close else None
item_moved depth _ = None

-- behind the word: a mark of an option; a name or { of a section
abbrev pub key_moved : ℕ → Word → Lexeme → Option Move
key_moved depth key (Bare name include) = goes depth (next.BehindName (record { word = key; name = Some name })) output.Nothing
key_moved depth key (Quoted name) = goes depth (next.BehindName (record { word = key; name = Some name })) output.Nothing
key_moved depth key (Assign mark) = goes depth (next.Value key mark) output.Nothing
key_moved depth key (OpenBrace place) = goes (depth + 1) next.Item (output.Open (record { word = key; name = None }))
key_moved depth key _ = None

abbrev pub name_moved : ℕ → Head → Lexeme → Option Move
name_moved depth head (OpenBrace place) = goes (depth + 1) next.Item (output.Open head)
name_moved depth head _ = None

-- behind the mark: a value or {
abbrev pub value_moved : ℕ → Word → Mark → Lexeme → Option Move
value_moved depth key mark (Bare word include) = goes depth next.Item (output.Setting (record { key = key; given = given_of mark (One word) }))
value_moved depth key mark (Quoted word) = goes depth next.Item (output.Setting (record { key = key; given = given_of mark (One word) }))
value_moved depth key mark (OpenBrace place) = goes depth (next.Element (record { key = key; mark = mark; place = place; words = [] })) output.Nothing
value_moved depth key mark _ = None

abbrev pub with_word : OpenList → Word → OpenList
with_word list word = record list { words = list.words ++ word ∷ [] }

-- in a list: a value, or its end, also behind a comma
abbrev pub element_moved : ℕ → OpenList → Lexeme → Option Move
element_moved depth list (Bare word include) = goes depth (next.Separator (with_word list word)) output.Nothing
element_moved depth list (Quoted word) = goes depth (next.Separator (with_word list word)) output.Nothing
element_moved depth list CloseBrace = goes depth next.Item (output.Setting (list_setting list))
element_moved depth list _ = None

-- behind a value of a list: a comma or its end
abbrev pub separator_moved : ℕ → OpenList → Lexeme → Option Move
separator_moved depth list Comma = goes depth (next.Element list) output.Nothing
separator_moved depth list CloseBrace = goes depth next.Item (output.Setting (list_setting list))
separator_moved depth list _ = None

-- behind `include`: (, a value, )
abbrev pub include_open_moved : ℕ → Lexeme → Option Move
include_open_moved depth OpenParen = goes depth next.IncludeName output.Nothing
include_open_moved depth _ = None

abbrev pub include_name_moved : ℕ → Lexeme → Option Move
include_name_moved depth (Bare name include) = goes depth (next.IncludeClose name) output.Nothing
include_name_moved depth (Quoted name) = goes depth (next.IncludeClose name) output.Nothing
include_name_moved depth _ = None

abbrev pub include_close_moved : ℕ → Word → Lexeme → Option Move
include_close_moved depth name CloseParen = goes depth next.Item (output.Include name)
include_close_moved depth name _ = None

abbrev pub moved_from : ℕ → Next → Lexeme → Option Move
moved_from depth next.Item lexeme = item_moved depth lexeme
moved_from depth (next.BehindKey key) lexeme = key_moved depth key lexeme
moved_from depth (next.BehindName head) lexeme = name_moved depth head lexeme
moved_from depth (next.Value key mark) lexeme = value_moved depth key mark lexeme
moved_from depth (next.Element list) lexeme = element_moved depth list lexeme
moved_from depth (next.Separator list) lexeme = separator_moved depth list lexeme
moved_from depth next.IncludeOpen lexeme = include_open_moved depth lexeme
moved_from depth next.IncludeName lexeme = include_name_moved depth lexeme
moved_from depth (next.IncludeClose name) lexeme = include_close_moved depth name lexeme

-- where a token leads; none where it can't stand
abbrev pub moved : Parser → Lexeme → Option Move
moved parser lexeme = moved_from parser.depth parser.next lexeme

-- some token of a kind
abbrev pub some_word : Word
some_word = record { text = []; place = record { text = 0; at = 0 } }

abbrev pub some_lexeme : TokenKind → Lexeme
some_lexeme kind.Word = Bare some_word false
some_lexeme kind.Double = Quoted some_word
some_lexeme kind.Single = Quoted some_word
some_lexeme kind.OpenBrace = OpenBrace some_word.place
some_lexeme kind.CloseBrace = CloseBrace
some_lexeme kind.OpenParen = OpenParen
some_lexeme kind.CloseParen = CloseParen
some_lexeme kind.Equals = Assign mark.Equals
some_lexeme kind.PlusEquals = Assign mark.PlusEquals
some_lexeme kind.Comma = Comma

-- a token of this kind may stand here, whatever its value
abbrev pub allowed : Parser → TokenKind → Bool
allowed parser kind = is_some (moved parser (some_lexeme kind))

-- the text may end here
abbrev pub is_item : Next → Bool
is_item next.Item = true
is_item _ = false

abbrev pub may_end : Parser → Bool
may_end parser = nat_eq parser.depth 0 && is_item parser.next

-- the start of a text
abbrev pub start : Parser
start = record { depth = 0; next = next.Item }
