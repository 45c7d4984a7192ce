-- The value of a token: its text with the variables replaced. The language is this project's own.
use Rattle.std.specs.Prelude.{◌≡◌, ℕ, zero, suc, ◌-◌, ◌==◌, ◌&&◌, Bool, true, false, not, nat_le, List, [], ◌∷◌, ◌++◌, length, take, drop, codes, bytes_eq, slice_index, slice_range, Option, Some, None, is_some, option_map, unwrap_or, Result, Ok, Err, if◌then◌else◌}
use Rattle.std.specs.List.{find, prefix_len}
use Rattle.std.specs.Option.{ok_or, option_or}
use Rattle.base_fields.specs.declared.names.Pair.{Pair}
use Rattle.conf_lexer.specs.Text.{begins, name_len, quoted_part, variable_len, word_part}
use Rattle.conf_lexer.specs.declared.tokens.TokenKind.{TokenKind}
use Rattle.conf_lexer.specs.declared.tokens.TokenKind.TheVariants.{Word, Double, Single}
use Rattle.conf_words.specs.declared.values.ValueFault.{ValueFault}
use Rattle.conf_words.specs.declared.values.ValueFault.TheVariants.{Unset, NoMemory}

-- ---- a variable

abbrev pub is_named : List ℕ → Pair → Bool
is_named name pair = bytes_eq pair.name name

-- the value of the first pair with that name
abbrev pub lookup : List Pair → List ℕ → Option (List ℕ)
lookup vars name = option_map (λ pair. pair.value) (find (is_named name) vars)

-- the NAME at the front
abbrev pub name_of : List ℕ → List ℕ
name_of text = take (name_len text) text

-- what stands behind the NAME at the front
abbrev pub rest_of : List ℕ → List ℕ
rest_of text = drop (name_len text) text

-- the bytes up to the first `}`, or all
abbrev pub before_brace : List ℕ → List ℕ
before_brace text = take (prefix_len (λ b. not (b == 125)) text) text

-- the text in place of a value stands behind `:-`
abbrev pub default_of : List ℕ → Option (List ℕ)
default_of text = if begins text (codes ":-") then Some (before_brace (drop 2 text)) else None

-- the value of a name, or else the text in its place, or else the name itself, which has no value
abbrev pub value_or : List Pair → List ℕ → Option (List ℕ) → Result (List ℕ) (List ℕ)
value_or vars name default = ok_or (option_or (lookup vars name) default) name

-- what a NAME and what belongs behind it stand for
abbrev pub named_value : List Pair → List ℕ → Result (List ℕ) (List ℕ)
named_value vars text = value_or vars (name_of text) (default_of (rest_of text))

-- what the variable at the front of a text that begins with `${` stands for
abbrev pub variable_value : List Pair → List ℕ → Result (List ℕ) (List ℕ)
variable_value vars text = named_value vars (drop 2 text)

-- ---- the parts of a text

-- a variable stands at the front
abbrev pub at_variable : List ℕ → Bool
at_variable text = begins text (codes "${") && is_some (variable_len text)

-- a part of a bare word stands for a variable's value, or it is a byte, which stands for itself
abbrev pub word_value : List Pair → List ℕ → Result (List ℕ) (List ℕ)
word_value vars text = if at_variable text then variable_value vars text else Ok (take 1 text)

-- what a backslash and the text behind it stand for: a quote, a backslash, a line feed or a tab, or else the backslash itself
abbrev pub escaped : List ℕ → List ℕ
escaped [] = 92 ∷ []
escaped (b ∷ rest) = if b == 34 then 34 ∷ [] else (if b == 110 then 10 ∷ [] else (if b == 116 then 9 ∷ [] else 92 ∷ []))

-- a part of a double-quoted text may be an escape, too
abbrev pub quoted_value : List Pair → List ℕ → Result (List ℕ) (List ℕ)
quoted_value vars text = if begins text (codes "\\") then Ok (escaped (drop 1 text)) else word_value vars text

-- the length of the part at the front, with or without escapes: where there is none, it is a byte
abbrev pub part_len : Bool → List ℕ → ℕ
part_len true text = unwrap_or (quoted_part text) 1
part_len false text = unwrap_or (word_part text) 1

-- what it stands for, or the name that has no value
abbrev pub part_value : List Pair → Bool → List ℕ → Result (List ℕ) (List ℕ)
part_value vars true text = quoted_value vars text
part_value vars false text = word_value vars text

-- ---- the parts one after another

-- a value, and then another; the first name without a value counts
abbrev pub followed : Result (List ℕ) (List ℕ) → Result (List ℕ) (List ℕ) → Result (List ℕ) (List ℕ)
followed (Err name) more = Err name
followed (Ok text) (Err name) = Err name
followed (Ok text) (Ok more) = Ok (text ++ more)

-- what the parts of a text stand for, of whose bytes so many are the rest of a part
abbrev pub parts_value : List Pair → Bool → ℕ → List ℕ → Result (List ℕ) (List ℕ)
parts_value vars escapes n [] = Ok []
parts_value vars escapes (suc n) (b ∷ rest) = parts_value vars escapes n rest
parts_value vars escapes zero (b ∷ rest) = followed (part_value vars escapes (b ∷ rest)) (parts_value vars escapes (part_len escapes (b ∷ rest) - 1) rest)

abbrev pub expansion : List Pair → Bool → List ℕ → Result (List ℕ) (List ℕ)
expansion vars escapes text = parts_value vars escapes 0 text

-- ---- a token

-- the first byte and the last one are that quote
abbrev pub is_between : ℕ → List ℕ → Bool
is_between quote text = nat_le 2 (length text) && (slice_index text 0 == quote && slice_index text (length text - 1) == quote)

-- what is between the quotes, or all where they don't stand there
abbrev pub between : ℕ → List ℕ → List ℕ
between quote text = if is_between quote text then slice_range text 1 (length text - 1) else text

-- the text of a token of that kind, or the name of its first variable that has no value; a mark stands for itself
abbrev pub value_of : List Pair → TokenKind → List ℕ → Result (List ℕ) (List ℕ)
value_of vars Word text = expansion vars false text
value_of vars Double text = expansion vars true (between 34 text)
value_of vars Single text = Ok (between 39 text)
value_of vars mark text = Ok text

-- the answer is the value that is wanted, unless memory was refused
abbrev pub Answers : Result (List ℕ) (List ℕ) → Result (List ℕ) ValueFault → Type 0
Answers wanted (Ok name) = wanted ≡ Ok name
Answers wanted (Err (Unset var)) = wanted ≡ Err var
Answers wanted (Err NoMemory) = Unit {0}
