-- The lengths of the files of an image's sources, as the files say.
use Rattle.std.specs.Prelude.{ℕ, Bool, false, not, List, length, map, Option, Some, None, is_none, Result, Ok, Err}
use Rattle.std.specs.List.{position}
use Rattle.base_fields.specs.Results.{when}
use Rattle.image_specs.specs.declared.specs.Source.{Source}
use Rattle.outside.specs.Files.{Tree, bytes_of}
use Rattle.image_plan.specs.declared.faults.PlanFault.{PlanFault}
use Rattle.image_plan.specs.declared.faults.PlanFault.TheVariants.{Missing}

-- ---- one source

-- a name under which nothing stands
abbrev pub is_lacking : Tree → Option (List ℕ) → Bool
is_lacking file None = false
is_lacking file (Some name) = is_none (file name)

abbrev pub is_absent : Tree → Source → Bool
is_absent file source = is_lacking file source.file

-- the bytes under a name, and none where there is no name
abbrev pub length_under : Tree → Option (List ℕ) → ℕ
length_under file None = 0
length_under file (Some name) = length (bytes_of file name)

abbrev pub length_of : Tree → Source → ℕ
length_of file source = length_under file source.file

-- the length of the source of that number, or that its file isn't there
abbrev pub length_said : Tree → ℕ → Source → Result ℕ PlanFault
length_said file k source = when (not (is_absent file source)) (length_of file source) (Missing k)

-- ---- all of them

-- the first whose file isn't there
abbrev pub first_absent : Tree → List Source → Option ℕ
first_absent file sources = position (is_absent file) sources

abbrev pub lengths_of : Tree → List Source → List ℕ
lengths_of file sources = map (length_of file) sources

abbrev pub unless_absent : Option ℕ → List ℕ → Result (List ℕ) PlanFault
unless_absent None lens = Ok lens
unless_absent (Some source) lens = Err (Missing source)

-- each length, or the first source whose file isn't there
abbrev pub lengths_said : Tree → List Source → Result (List ℕ) PlanFault
lengths_said file sources = unless_absent (first_absent file sources) (lengths_of file sources)
