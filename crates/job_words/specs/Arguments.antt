-- The arguments that a command's words have, and what a simple command with these makes of words.
use Rattle.std.specs.Prelude.{ℕ, ◌^◌, Bool, true, not, ◌&&◌, nat_le, nat_lt, List, [], ◌∷◌, length}
use Rattle.std.specs.Prelude.{Option, Some, None, option_and_then, unwrap_or, codes}
use Rattle.std.specs.Prelude.{if◌then◌else◌}
use Rattle.std.specs.List.{list_all, list_any}
use Rattle.std.specs.Int.{is_power_of_two}
use Rattle.std.specs.Char.{is_ascii_digit}
use Rattle.std.specs.Str.{bytes_eq}
use Rattle.std.specs.Str.Parse.{digits_value}
use Rattle.base_fields.specs.declared.names.Pair.{Pair}
use Rattle.clap.specs.Walk.{Row, Rule, Text, first_of}
use Rattle.clap.specs.Simple.{App, matches_of, new_rule, new_shape}
use Rattle.clap.specs.Faults.{fault_of}
use Rattle.clap.specs.Kinds.{Kinds}
use Rattle.clap.specs.declared.builder.action.ArgAction.TheVariants.{Set, Append, SetTrue}
use Rattle.job_words.specs.declared.arguments.Argument.{Argument}
use Rattle.job_words.specs.declared.arguments.Argument.TheVariants.{Place, Repeated, Valued, Flag}

-- a place that has to be there, and one that has one value or more
unfoldable pub place_rule : Text → Rule
place_rule id = record (new_rule id) { action = Some Set; required = true }

unfoldable pub repeated_rule : Text → Rule
repeated_rule id = record (new_rule id) { action = Some Append; required = true }

-- `--id VALUE`, and the flag `--id`
unfoldable pub option_rule : Text → Rule
option_rule id = record (new_rule id) { long = Some id; action = Some Set }

unfoldable pub flag_rule : Text → Rule
flag_rule id = record (new_rule id) { long = Some id; action = Some SetTrue }

-- an argument of the tables as a rule
abbrev pub rule_of_argument : Argument → Rule
rule_of_argument (Place id) = place_rule id.now
rule_of_argument (Repeated id) = repeated_rule id.now
rule_of_argument (Valued id) = option_rule id.now
rule_of_argument (Flag id) = flag_rule id.now

-- the simple command that has these arguments and nothing else, so neither help nor a version
abbrev pub simple : List Rule → App
simple arguments = record {
  top = record (new_shape (codes "genflash")) { rules = arguments; disable_help_flag = true };
  subs = [];
}

-- the matches, where there is no fault
abbrev pub without_fault : Kinds → List Row → Option (List Row)
without_fault [] rows = Some rows
without_fault (fault ∷ more) rows = None

-- its matches at the words, of which the first is the program's name for it; none where it fails
-- for another cause than memory
unfoldable pub taken : App → List Text → Option (List Row)
taken command words = without_fault (fault_of command words) (matches_of command words)

-- the text at a place, which is there where the command takes the words
abbrev pub text_at : Text → List Row → Text
text_at id rows = unwrap_or (first_of id rows) []

-- whether a flag was given
abbrev pub is_set : Text → List Row → Bool
is_set id rows = bytes_eq (text_at id rows) (codes "true")

-- ---- numbers

-- the number that a text of 1 to 20 decimal digits writes, where it fits 64 bits
abbrev pub is_numeral : Text → Bool
is_numeral text = list_all is_ascii_digit text
    && (nat_le 1 (length text)
    && (nat_le (length text) 20 && nat_lt (digits_value 10 text) (2 ^ 64)))

abbrev pub numeral_of : Text → Option ℕ
numeral_of text = if is_numeral text then Some (digits_value 10 text) else None

-- a number that has to pass a test
abbrev pub passing : (ℕ → Bool) → ℕ → Option ℕ
passing test n = if test n then Some n else None

-- the number of an option, which has to pass a test, or the default where it was not given
abbrev pub number_or : ℕ → (ℕ → Bool) → Option Text → Option ℕ
number_or default test None = Some default
number_or default test (Some text) = option_and_then (passing test) (numeral_of text)

abbrev pub is_between : ℕ → ℕ → ℕ → Bool
is_between least most n = nat_le least n && nat_le n most

abbrev pub is_power_between : ℕ → ℕ → ℕ → Bool
is_power_between least most n = is_power_of_two n && is_between least most n

-- ---- places

-- no two of the texts are equal
abbrev pub is_among : Text → List Text → Bool
is_among text = list_any (λ other. bytes_eq other text)

abbrev pub all_differ : List Text → Bool
all_differ [] = true
all_differ (text ∷ rest) = not (is_among text rest) && all_differ rest

-- the texts two by two
abbrev pub paired : List Text → List Pair
paired (name ∷ value ∷ rest) = record { name = name; value = value } ∷ paired rest
paired _ = []
