-- A row of the table of answers: a status, what the answer is called, and its fields. From it comes the
-- error line.
use Rattle.std.specs.Prelude.{ℕ, ◌+◌, ◌*◌, nat_eq, if◌then◌else◌, List, [], ◌∷◌, ◌++◌, length, map, codes, decimal}
use Rattle.hex.specs.Hex.{encode_lower}
use Rattle.bench.specs.declared.Dev.{Dev}
use Rattle.bench.specs.declared.Dev.TheVariants as dev
use Rattle.journal_format.specs.declared.jobs.JobId.{JobId}
use Rattle.line_parts.specs.Line.{shown_flag, shown_name, with_fields}
use Rattle.line_parts.specs.declared.row.Field.{Field}
use Rattle.line_parts.specs.declared.row.Fields.{Fields}
use Rattle.line_parts.specs.declared.row.Fields.TheVariants.{Bare, One, Two, Three}
use Rattle.line_parts.specs.declared.row.Row.{Row}
use Rattle.line_parts.specs.declared.row.Value.{Value}
use Rattle.line_parts.specs.declared.row.Value.TheVariants as value

pub record AnswerRow : Type 0 where
  pub status : ℕ
  pub label : List ℕ
  pub fields : List (List ℕ × List ℕ)

-- the line of a label with its fields, and none where there is no label
abbrev pub error_of : AnswerRow → List ℕ
error_of row =
    if nat_eq (length row.label) 0 then [] else with_fields (codes "error " ++ row.label) row.fields

-- ---- a job, each of its fields by itself

-- the numbers of a job, each behind its name
abbrev pub job_numbers : JobId → List (List ℕ × ℕ)
job_numbers id =
    (codes ".size", id.size)
    ∷ (codes ".block", id.block)
    ∷ (codes ".unit", id.unit)
    ∷ (codes ".units", id.units)
    ∷ (codes ".ranges", id.ranges)
    ∷ []

-- a number of what a key names
abbrev pub numbered_of : List ℕ → List ℕ × ℕ → List ℕ × List ℕ
numbered_of key number = (key ++ number.0, decimal number.1)

abbrev pub job_fields : List ℕ → JobId → List (List ℕ × List ℕ)
job_fields key id = (key ++ codes ".digest", encode_lower id.digest) ∷ map (numbered_of key) (job_numbers id)

-- ---- rows as the code has them

abbrev pub device_name : Dev → List ℕ
device_name dev.Target = codes "target"
device_name dev.Journal = codes "journal"

-- what is printed behind a key
abbrev pub value_texts : List ℕ → Value → List (List ℕ × List ℕ)
value_texts key (value.Text name) = (key, shown_name name.now) ∷ []
value_texts key (value.Number n) = (key, decimal n) ∷ []
value_texts key (value.Digest bytes) = (key, encode_lower bytes.now) ∷ []
value_texts key (value.Flag holds) = (key, shown_flag holds) ∷ []
value_texts key (value.Device device) = (key, device_name device) ∷ []
value_texts key (value.Job id) = job_fields key id.now

abbrev pub field_texts : Field → List (List ℕ × List ℕ)
field_texts f = value_texts f.key.now f.value

abbrev pub fields_text : Fields → List (List ℕ × List ℕ)
fields_text Bare = []
fields_text (One a) = field_texts a
fields_text (Two a b) = field_texts a ++ field_texts b
fields_text (Three a b c) = field_texts a ++ field_texts b ++ field_texts c

abbrev pub shown_row : Row → AnswerRow
shown_row row = record {
  status = row.status;
  label = row.label.now;
  fields = fields_text row.fields;
}

-- the most bytes that they take
abbrev pub value_room : ℕ → Value → ℕ
value_room key (value.Text name) = key + 202
value_room key (value.Number n) = key + 22
value_room key (value.Digest bytes) = key + 66
value_room key (value.Flag holds) = key + 3
value_room key (value.Device device) = key + 9
value_room key (value.Job id) = 6 * key + 212

abbrev pub field_room : Field → ℕ
field_room f = value_room (length f.key.now) f.value

abbrev pub fields_room : Fields → ℕ
fields_room Bare = 0
fields_room (One a) = field_room a
fields_room (Two a b) = field_room a + field_room b
fields_room (Three a b c) = field_room a + field_room b + field_room c

abbrev pub row_room : Row → ℕ
row_room row = length row.label.now + fields_room row.fields
