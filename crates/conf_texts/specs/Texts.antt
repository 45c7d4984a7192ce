-- What reading one text adds to what was read, and what is met first in it: its length, its bytes, its tokens.
use Rattle.std.specs.Prelude.{◌≡◌, ℕ, ◌+◌, ◌-◌, ◌^◌, min, nat_le, List, [], ◌∷◌, ◌++◌, length, Result, Ok, Err}
use Rattle.base_fields.specs.Results.{◌>>=◌, or_else, refused_by, when}
use Rattle.outside.specs.Files.{Tree, IsThere, bytes_of}
use Rattle.conf_lexer.specs.Text.{tokens_of}
use Rattle.conf_items.specs.declared.outline.OpenSections.TheVariants.{Nothing}
use Rattle.conf_texts.specs.Answers.{Refuses}
use Rattle.conf_texts.specs.declared.fault.WalkFault.{WalkFault}
use Rattle.conf_texts.specs.declared.fault.WalkFault.TheVariants.{BadText, TooLong, Missing}
use Rattle.conf_texts.specs.declared.texts.Reading.{Reading}
use Rattle.conf_texts.specs.declared.texts.Text.{Text}

-- the bytes of all texts are at most these
abbrev pub most_bytes : ℕ
most_bytes = 1048576

-- a sum of lengths that is not past the limit
abbrev pub in_limit : ℕ → Result ℕ WalkFault
in_limit total = when (nat_le total most_bytes) total (TooLong (min total (2 ^ 64 - 1)))

-- the text of a name, where something was read before: its length is looked at first
abbrev pub text_read : Tree → List ℕ → Reading → Result Text WalkFault
text_read file name reading = do
  bytes ← or_else (file name) (Missing name)
  total ← in_limit (reading.total + length bytes)
  tokens ← refused_by (BadText name) (tokens_of bytes)
  Ok (record { name = name; number = length reading.names; bytes = bytes; tokens = tokens })

abbrev pub with_text : Reading → Text → Reading
with_text reading text = record reading { total = reading.total + length text.bytes; names = reading.names ++ text.name ∷ [] }

abbrev pub nothing_read : Reading
nothing_read = record { outline = record { items = []; inside = Nothing }; total = 0; names = [] }

-- the answer to a question about the length of a text
abbrev pub HasLength : Tree → List ℕ → Result ℕ WalkFault → Type 0
HasLength file name (Ok len) = IsThere file name (len ≡ length (bytes_of file name))
HasLength file name (Err fault) = Refuses (or_else (file name) (Missing name)) fault
