-- The small parts of a bmap 2.0 document, each at the front of a text.
use Rattle.std.specs.Prelude.{ℕ, ◌+◌, ◌-◌, ◌^◌, ◌==◌, ◌||◌, ◌&&◌, Bool, not, nat_eq, nat_le, nat_lt}
use Rattle.std.specs.Prelude.{List, [], ◌∷◌, length, take, drop, reverse, codes, Option, Some, None, option_map}
use Rattle.std.specs.Prelude.{if◌then◌else◌}
use Rattle.std.specs.Char.{is_ascii_digit}
use Rattle.std.specs.List.{list_all, position, prefix_len, starts_with}
use Rattle.std.specs.Result.{result_ok}
use Rattle.std.specs.Str.Parse.{digits_value}
use Rattle.hex.specs.Hex.{decode_sized}
use Rattle.base_fields.specs.Results.{passing}
use Rattle.bmap_grammar.specs.declared.items.Held.{Held}

-- what is next, where there is this
infixl 10 ◌>>=◌
abbrev pub ◌>>=◌ : {A B : Type 0} → Option A → (A → Option B) → Option B
None >>= f = None
(Some x) >>= f = f x

-- the first of two, where there is one, and else the second
abbrev pub or_next : {A : Type 0} → Option A → Option A → Option A
or_next None next = next
or_next (Some x) next = Some x

-- ---- white space, and where things end

-- space, tab, line feed and carriage return
abbrev pub is_space : ℕ → Bool
is_space b = b == 32 || b == 9 || b == 10 || b == 13

-- how much white space stands at the front, and at the end
abbrev pub spaces : List ℕ → ℕ
spaces text = prefix_len is_space text

abbrev pub spaces_behind : List ℕ → ℕ
spaces_behind text = prefix_len is_space (reverse text)

abbrev pub begins : List ℕ → List ℕ → Bool
begins text front = starts_with nat_eq text front

-- a length with so many bytes before it
abbrev pub later : ℕ → Option ℕ → Option ℕ
later n None = None
later n (Some k) = Some (n + k)

-- the length through the first place where these bytes stand
abbrev pub through : List ℕ → List ℕ → Option ℕ
through end [] = None
through end (b ∷ rest) = if begins (b ∷ rest) end then Some (length end) else later 1 (through end rest)

-- these bytes, and anything through the next place where the others stand
abbrev pub framed : List ℕ → List ℕ → List ℕ → Option ℕ
framed front end text = if begins text front then later (length front) (through end (drop (length front) text)) else None

-- ---- tags

-- white space and `>`
abbrev pub end_len : List ℕ → Option ℕ
end_len text = if begins (drop (spaces text) text) (codes ">") then Some (spaces text + 1) else None

-- a tag without attributes, of which these are the bytes before the white space
abbrev pub tag_len : List ℕ → List ℕ → Option ℕ
tag_len front text = if begins text front then later (length front) (end_len (drop (length front) text)) else None

-- ---- values

abbrev pub value_in : List ℕ → Held → List ℕ
value_in text h = take h.count (drop h.at text)

-- what is held with so many bytes before it
abbrev pub moved : ℕ → Option Held → Option Held
moved n None = None
moved n (Some h) = Some (record { at = n + h.at; count = h.count; len = n + h.len })

-- the bytes before the next `<`, without the white space round them, and a tag
abbrev pub inside_len : List ℕ → ℕ
inside_len text = prefix_len (λ b. not (b == 60)) text

abbrev pub bare_in : List ℕ → ℕ → Held
bare_in inside tag = record {
  at = spaces inside;
  count = length (drop (spaces inside) inside) - spaces_behind (drop (spaces inside) inside);
  len = length inside + tag;
}

abbrev pub valued : List ℕ → List ℕ → Option Held
valued closing text =
    option_map (bare_in (take (inside_len text) text)) (tag_len closing (drop (inside_len text) text))

-- an element: its opening tag, its value, its closing tag
abbrev pub element_of : List ℕ → List ℕ → List ℕ → Option Held
element_of opening closing text = tag_len opening text >>= λ n. moved n (valued closing (drop n text))

-- a value in double or single quotes: the bytes before the next such quote
abbrev pub is_quote : ℕ → Bool
is_quote b = b == 34 || b == 39

abbrev pub between_quotes : ℕ → Held
between_quotes n = record { at = 1; count = n; len = n + 2 }

abbrev pub closed : ℕ → List ℕ → Option Held
closed quote rest = option_map between_quotes (position (λ b. b == quote) rest)

abbrev pub quoted : List ℕ → Option Held
quoted [] = None
quoted (b ∷ rest) = if is_quote b then closed b rest else None

-- `=` and a value in quotes, with white space before each
abbrev pub spaced_quoted : List ℕ → Option Held
spaced_quoted text = moved (spaces text) (quoted (drop (spaces text) text))

abbrev pub sign_quoted : List ℕ → Option Held
sign_quoted text = if begins text (codes "=") then moved 1 (spaced_quoted (drop 1 text)) else None

abbrev pub assigned : List ℕ → Option Held
assigned text = moved (spaces text) (sign_quoted (drop (spaces text) text))

-- what ends in an attribute, of which these are the bytes before the sign, and then the end of the tag
abbrev pub attribute_of : List ℕ → List ℕ → Option Held
attribute_of front text = if begins text front then moved (length front) (assigned (drop (length front) text)) else None

abbrev pub ended : List ℕ → Held → Option Held
ended text h = option_map (λ n. record { at = h.at; count = h.count; len = h.len + n }) (end_len (drop h.len text))

abbrev pub tag_with : List ℕ → List ℕ → Option Held
tag_with front text = attribute_of front text >>= ended text

-- ---- numbers and digests

-- 1 to 20 decimal digits of a number that fits 64 bits
abbrev pub is_number : List ℕ → Bool
is_number text = list_all is_ascii_digit text && (nat_lt 0 (length text) && nat_le (length text) 20)

abbrev pub small_value : List ℕ → Option ℕ
small_value digits = passing (λ n. nat_lt n (2 ^ 64)) (digits_value 10 digits)

abbrev pub number_of : List ℕ → Option ℕ
number_of text = if is_number text then small_value text else None

-- 64 hexadecimal digits, in either case, as 32 bytes
abbrev pub digest_of : List ℕ → Option (List ℕ)
digest_of text = result_ok (decode_sized text 32)

-- a number, or two with `-` between them
abbrev pub pair_of : List ℕ → ℕ → Option (ℕ × ℕ)
pair_of text at = number_of (take at text) >>= λ first. option_map (λ last. (first, last)) (number_of (drop (at + 1) text))

abbrev pub blocks_by : List ℕ → Option ℕ → Option (ℕ × ℕ)
blocks_by text None = option_map (λ n. (n, n)) (number_of text)
blocks_by text (Some at) = pair_of text at

abbrev pub blocks_of : List ℕ → Option (ℕ × ℕ)
blocks_of text = blocks_by text (position (λ b. b == 45) text)
