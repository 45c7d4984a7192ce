-- What the text of a value stands for.
use Rattle.std.specs.Prelude.{ℕ, ◌+◌, ◌-◌, ◌*◌, ◌^◌, ◌==◌, Bool, true, false, not, ◌&&◌, ◌||◌, nat_eq, nat_le, nat_lt, List, [], ◌∷◌, length, take, drop, map, reverse, Option, Some, None, option_and_then, codes, slice_index, if◌then◌else◌}
use Rattle.std.specs.List.{list_all, prefix_len, slice_range, starts_with}
use Rattle.std.specs.Char.{is_ascii_digit, is_ascii_hexdigit, to_ascii_lowercase}
use Rattle.std.specs.Str.{bytes_eq}
use Rattle.std.specs.Str.Parse.{digits_value}
use Rattle.uuid.specs.Text.{parsed}
use Rattle.base_fields.specs.Numbers.{is_between, is_power_between}
use Rattle.base_fields.specs.Results.{passing}
use Rattle.base_fields.specs.declared.spans.TableKind.{TableKind}
use Rattle.base_fields.specs.declared.spans.TableKind.TheVariants as table
use Rattle.conf_lexer.specs.Text.{is_space}
use Rattle.conf_values.specs.declared.values.Hole.{Hole}

-- ---- numbers and sizes

-- decimal digits, one or more, without a needless leading zero
abbrev pub has_needless_zero : List ℕ → Bool
has_needless_zero text = nat_lt 1 (length text) && slice_index text 0 == 48

abbrev pub is_decimal : List ℕ → Bool
is_decimal text = list_all is_ascii_digit text && (nat_lt 0 (length text) && not (has_needless_zero text))

-- one hexadecimal digit or more
abbrev pub is_hexadecimal : List ℕ → Bool
is_hexadecimal digits = list_all is_ascii_hexdigit digits && nat_lt 0 (length digits)

-- the number that the digits write, where it is below 2^64
abbrev pub small_value : ℕ → List ℕ → Option ℕ
small_value radix digits = passing (λ n. nat_lt n (2 ^ 64)) (digits_value radix digits)

-- a number is decimal, or 0x and hexadecimal digits
abbrev pub decimal_of : List ℕ → Option ℕ
decimal_of text = if is_decimal text then small_value 10 text else None

abbrev pub hexadecimal_of : List ℕ → Option ℕ
hexadecimal_of digits = if is_hexadecimal digits then small_value 16 digits else None

abbrev pub number_of : List ℕ → Option ℕ
number_of text = if starts_with nat_eq text (codes "0x") then hexadecimal_of (drop 2 text) else decimal_of text

abbrev pub number_between : ℕ → ℕ → List ℕ → Option ℕ
number_between least most text = option_and_then (passing (is_between least most)) (number_of text)

-- how many bytes the letter at the end of a size stands for: k or K, M, G, s
abbrev pub unit_of : ℕ → Option ℕ
unit_of letter =
    if letter == 107 || letter == 75 then Some (2 ^ 10)
    else if letter == 77 then Some (2 ^ 20)
    else if letter == 71 then Some (2 ^ 30)
    else if letter == 115 then Some 512
    else None

-- so many units, where they are a size of a text: at most 2^43 bytes
abbrev pub bytes_of : ℕ → ℕ → Option ℕ
bytes_of unit count = passing (λ n. nat_le n (2 ^ 43)) (count * unit)

-- a size with this unit at its end, or with none
abbrev pub size_with : List ℕ → Option ℕ → Option ℕ
size_with text None = option_and_then (bytes_of 1) (number_of text)
size_with text (Some unit) = option_and_then (bytes_of unit) (number_of (take (length text - 1) text))

abbrev pub size_of : List ℕ → Option ℕ
size_of text = size_with text (unit_of (slice_index text (length text - 1)))

abbrev pub size_from : ℕ → List ℕ → Option ℕ
size_from least text = option_and_then (passing (nat_le least)) (size_of text)

-- a size that is a power of two
abbrev pub power_between : ℕ → ℕ → List ℕ → Option ℕ
power_between least most text = option_and_then (passing (is_power_between least most)) (size_of text)

-- 512, and 4096 where that is allowed
abbrev pub is_sector : Bool → ℕ → Bool
is_sector wide n = n == 512 || (wide && n == 4096)

abbrev pub sector_of : Bool → List ℕ → Option ℕ
sector_of wide text = option_and_then (passing (is_sector wide)) (size_of text)

-- ---- words

-- the same word but for the case of its letters
abbrev pub is_word : List ℕ → List ℕ → Bool
is_word word text = bytes_eq (map to_ascii_lowercase text) word

abbrev pub truth_of : List ℕ → Option Bool
truth_of text =
    if is_word (codes "true") text || is_word (codes "yes") text || is_word (codes "on") text then Some true
    else if is_word (codes "false") text || is_word (codes "no") text || is_word (codes "off") text then Some false
    else None

abbrev pub table_of : List ℕ → Option TableKind
table_of text =
    if bytes_eq text (codes "none") then Some table.Bare
    else if bytes_eq text (codes "mbr") || bytes_eq text (codes "dos") then Some table.Mbr
    else if bytes_eq text (codes "gpt") then Some table.Gpt
    else if bytes_eq text (codes "hybrid") then Some table.Hybrid
    else None

-- ---- identifiers, in the order of RFC 9562

-- the types of GUID partitions that have a letter: Linux file system data, EFI system partition, Linux swap
abbrev pub linux_data : List ℕ
linux_data = 0x0F ∷ 0xC6 ∷ 0x3D ∷ 0xAF ∷ 0x84 ∷ 0x83 ∷ 0x47 ∷ 0x72 ∷ 0x8E ∷ 0x79 ∷ 0x3D ∷ 0x69 ∷ 0xD8 ∷ 0x47 ∷ 0x7D ∷ 0xE4 ∷ []

abbrev pub efi_system : List ℕ
efi_system = 0xC1 ∷ 0x2A ∷ 0x73 ∷ 0x28 ∷ 0xF8 ∷ 0x1F ∷ 0x11 ∷ 0xD2 ∷ 0xBA ∷ 0x4B ∷ 0x00 ∷ 0xA0 ∷ 0xC9 ∷ 0x3E ∷ 0xC9 ∷ 0x3B ∷ []

abbrev pub linux_swap : List ℕ
linux_swap = 0x06 ∷ 0x57 ∷ 0xFD ∷ 0x6D ∷ 0xA4 ∷ 0xAB ∷ 0x43 ∷ 0xC4 ∷ 0x84 ∷ 0xE5 ∷ 0x09 ∷ 0x33 ∷ 0xC8 ∷ 0x4B ∷ 0x4F ∷ 0x4F ∷ []

abbrev pub type_of : List ℕ → Option (List ℕ)
type_of text =
    if bytes_eq text (codes "L") then Some linux_data
    else if bytes_eq text (codes "U") then Some efi_system
    else if bytes_eq text (codes "S") then Some linux_swap
    else parsed text

-- ---- holes

-- a text without the white space at its front, and at its end
abbrev pub front_trimmed : List ℕ → List ℕ
front_trimmed text = drop (prefix_len is_space text) text

abbrev pub end_trimmed : List ℕ → List ℕ
end_trimmed text = take (length text - prefix_len is_space (reverse text)) text

abbrev pub trimmed_size : List ℕ → Option ℕ
trimmed_size text = size_of (end_trimmed (front_trimmed text))

-- how many bytes stand before the first semicolon
abbrev pub semicolon_of : List ℕ → ℕ
semicolon_of text = prefix_len (λ b. not (b == 59)) text

abbrev pub hole_between : Option ℕ → Option ℕ → Option Hole
hole_between (Some from) (Some to) = Some (record { from = from; to = to })
hole_between _ _ = None

-- two sizes with a semicolon between them
abbrev pub sizes_of : List ℕ → Option Hole
sizes_of text = hole_between (trimmed_size (take (semicolon_of text) text)) (trimmed_size (drop (semicolon_of text + 1) text))

-- what is between parentheses
abbrev pub is_enclosed : List ℕ → Bool
is_enclosed text = nat_le 2 (length text) && (slice_index text 0 == 40 && slice_index text (length text - 1) == 41)

abbrev pub inside_of : List ℕ → List ℕ
inside_of text = slice_range text 1 (length text - 1)

abbrev pub hole_of : List ℕ → Option Hole
hole_of text = if is_enclosed text then sizes_of (inside_of text) else None

-- ---- names

-- 1 to 36 characters of 0x20 to 0x7E
abbrev pub is_partition_name : List ℕ → Bool
is_partition_name text = is_between 1 36 (length text) && list_all (is_between 32 126) text
