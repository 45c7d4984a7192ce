-- Which job the words of each command stand for.
use Rattle.std.specs.Prelude.{◌≡◌, ℕ, Bool, ◌%◌, ◌==◌, ◌&&◌, nat_le, List, [], ◌∷◌, length, Option}
use Rattle.std.specs.Prelude.{Some, None, Result, Ok, Err}
use Rattle.std.specs.Prelude.{option_and_then, option_map, codes, if◌then◌else◌}
use Rattle.clap.specs.Walk.{Row, Rule, Text, all_of, first_of}
use Rattle.base_fields.specs.declared.names.Pair.{Pair}
use Rattle.job_words.specs.Arguments.{all_differ, flag_rule, is_between, is_power_between, is_set}
use Rattle.job_words.specs.Arguments.{number_or, numeral_of, option_rule}
use Rattle.job_words.specs.Arguments.{paired, place_rule, repeated_rule, simple, taken, text_at}
use Rattle.job_words.specs.Verbs.{verb_named}
use Rattle.job_words.specs.declared.verbs.Verb.{Verb}
use Rattle.job_words.specs.declared.verbs.Verb.TheVariants as verb
use Rattle.job_words.specs.declared.jobs.Job.{Job}
use Rattle.job_words.specs.declared.jobs.Job.TheVariants as job
use Rattle.job_words.specs.declared.jobs.WordFault.{WordFault}
use Rattle.job_words.specs.declared.jobs.WordFault.TheVariants.{Usage, NoMemory}

-- what was read is what is wanted, and Usage where nothing is; want of memory is free
abbrev pub Reads : {T : Type 0} → Option T → Result T WordFault → Type 0
Reads wanted (Ok got) = wanted ≡ Some got
Reads wanted (Err Usage) = wanted ≡ None
Reads wanted (Err NoMemory) = Unit {0}

-- ---- numbers of options, each with its default

-- a block of a map, in bytes
abbrev pub block_of : List Row → Option ℕ
block_of rows = number_or 4096 (is_power_between 512 65536) (first_of (codes "block") rows)

-- a unit of a copy, in bytes
abbrev pub unit_of : List Row → Option ℕ
unit_of rows = number_or 1048576 (is_power_between 65536 4194304) (first_of (codes "unit") rows)

-- how many units of a copy may be under way
abbrev pub window_of : List Row → Option ℕ
window_of rows = number_or 1 (is_between 1 16) (first_of (codes "window") rows)

-- an erase block and a page of a NAND device, in bytes
abbrev pub erase_block_of : List Row → Option ℕ
erase_block_of rows = number_or 131072 (is_power_between 1 4194304) (first_of (codes "block") rows)

abbrev pub page_of : List Row → Option ℕ
page_of rows = number_or 2048 (is_power_between 512 16384) (first_of (codes "page") rows)

-- ---- build and map

abbrev pub build_arguments : List Rule
build_arguments =
    place_rule (codes "CONF") ∷ option_rule (codes "inputpath")
    ∷ option_rule (codes "outputpath") ∷ []

abbrev pub build_from : List Row → Option Job
build_from rows = Some (job.Build (text_at (codes "CONF") rows) (first_of (codes "inputpath") rows)
    (first_of (codes "outputpath") rows))

abbrev pub map_arguments : List Rule
map_arguments = place_rule (codes "CONF") ∷ place_rule (codes "IMAGE") ∷ place_rule (codes "OUT")
    ∷ option_rule (codes "block") ∷ option_rule (codes "inputpath")
    ∷ option_rule (codes "outputpath") ∷ []

abbrev pub map_from : List Row → Option Job
map_from rows = option_map (λ block. job.Map (text_at (codes "CONF") rows)
    (text_at (codes "IMAGE") rows) (text_at (codes "OUT") rows) block
    (first_of (codes "inputpath") rows) (first_of (codes "outputpath") rows)) (block_of rows)

-- ---- copy and resume

-- the places of a copy, of which no two are equal
abbrev pub ends_differ : List Row → Bool
ends_differ rows = all_differ (text_at (codes "SOURCE") rows ∷ text_at (codes "MAP") rows
    ∷ text_at (codes "TARGET") rows ∷ text_at (codes "JOURNAL") rows ∷ [])

abbrev pub copy_arguments : List Rule
copy_arguments = place_rule (codes "SOURCE") ∷ place_rule (codes "MAP") ∷ place_rule (codes "TARGET")
    ∷ place_rule (codes "JOURNAL") ∷ option_rule (codes "unit") ∷ option_rule (codes "window")
    ∷ flag_rule (codes "sparse") ∷ []

abbrev pub copy_with : List Row → ℕ → ℕ → Job
copy_with rows unit window = job.Copy (text_at (codes "SOURCE") rows) (text_at (codes "MAP") rows)
    (text_at (codes "TARGET") rows) (text_at (codes "JOURNAL") rows) unit window
    (is_set (codes "sparse") rows)

abbrev pub copy_from : List Row → Option Job
copy_from rows = if ends_differ rows then option_and_then (λ unit.
    option_map (copy_with rows unit) (window_of rows)) (unit_of rows) else None

abbrev pub resume_arguments : List Rule
resume_arguments = place_rule (codes "SOURCE") ∷ place_rule (codes "MAP")
    ∷ place_rule (codes "TARGET") ∷ place_rule (codes "JOURNAL") ∷ option_rule (codes "unit")
    ∷ flag_rule (codes "sparse") ∷ []

abbrev pub resume_from : List Row → Option Job
resume_from rows = if ends_differ rows then option_map (λ unit. job.Resume
    (text_at (codes "SOURCE") rows) (text_at (codes "MAP") rows) (text_at (codes "TARGET") rows)
    (text_at (codes "JOURNAL") rows) unit (is_set (codes "sparse") rows)) (unit_of rows) else None

-- ---- forget, verify, list and demo

abbrev pub forget_arguments : List Rule
forget_arguments = place_rule (codes "JOURNAL") ∷ []

abbrev pub forget_from : List Row → Option Job
forget_from rows = Some (job.Forget (text_at (codes "JOURNAL") rows))

abbrev pub verify_arguments : List Rule
verify_arguments = place_rule (codes "MAP") ∷ place_rule (codes "TARGET") ∷ []

abbrev pub verify_from : List Row → Option Job
verify_from rows =
    if all_differ (text_at (codes "MAP") rows ∷ text_at (codes "TARGET") rows ∷ [])
    then Some (job.Verify (text_at (codes "MAP") rows) (text_at (codes "TARGET") rows)) else None

abbrev pub list_arguments : List Rule
list_arguments = place_rule (codes "IMAGE") ∷ []

abbrev pub list_from : List Row → Option Job
list_from rows = Some (job.List (text_at (codes "IMAGE") rows))

abbrev pub demo_arguments : List Rule
demo_arguments = place_rule (codes "SEED") ∷ []

abbrev pub demo_from : List Row → Option Job
demo_from rows = option_map (λ seed. job.Demo seed) (numeral_of (text_at (codes "SEED") rows))

-- ---- gang and gang-resume

abbrev pub gang_arguments : List Rule
gang_arguments = place_rule (codes "SOURCE") ∷ place_rule (codes "MAP")
    ∷ repeated_rule (codes "TARGETS") ∷ option_rule (codes "unit") ∷ []

-- whole pairs of a target and its journal, at most 16, where no two places are equal
abbrev pub are_pairs : Text → Text → List Text → Bool
are_pairs source map places = length places % 2 == 0
    && (nat_le (length places) 32 && all_differ (source ∷ map ∷ places))

abbrev pub pairs_among : Text → Text → List Text → Option (List Pair)
pairs_among source map places = if are_pairs source map places then Some (paired places) else None

abbrev pub pairs_from : List Row → Option (List Pair)
pairs_from rows = option_and_then (pairs_among (text_at (codes "SOURCE") rows)
    (text_at (codes "MAP") rows)) (all_of (codes "TARGETS") rows)

abbrev pub gang_from : List Row → Option Job
gang_from rows = option_and_then (λ unit. option_map (λ pairs. job.Gang
    (text_at (codes "SOURCE") rows) (text_at (codes "MAP") rows) pairs unit) (pairs_from rows))
    (unit_of rows)

abbrev pub gang_resume_from : List Row → Option Job
gang_resume_from rows = option_and_then (λ unit. option_map (λ pairs. job.GangResume
    (text_at (codes "SOURCE") rows) (text_at (codes "MAP") rows) pairs unit) (pairs_from rows))
    (unit_of rows)

-- ---- cut and expand

abbrev pub cut_arguments : List Rule
cut_arguments = place_rule (codes "IMAGE") ∷ place_rule (codes "PREFIX") ∷ place_rule (codes "SIZE")
    ∷ []

abbrev pub cut_from : List Row → Option Job
cut_from rows = option_map (λ size. job.Cut (text_at (codes "IMAGE") rows)
    (text_at (codes "PREFIX") rows) size) (numeral_of (text_at (codes "SIZE") rows))

abbrev pub expand_arguments : List Rule
expand_arguments = place_rule (codes "OUT") ∷ repeated_rule (codes "PIECES") ∷ []

-- at most 64 pieces, where no two places are equal
abbrev pub are_pieces : Text → List Text → Bool
are_pieces out pieces = nat_le (length pieces) 64 && all_differ (out ∷ pieces)

abbrev pub expand_with : Text → List Text → Option Job
expand_with out pieces = if are_pieces out pieces then Some (job.Expand out pieces) else None

abbrev pub expand_from : List Row → Option Job
expand_from rows =
    option_and_then (expand_with (text_at (codes "OUT") rows)) (all_of (codes "PIECES") rows)

-- ---- nand

abbrev pub nand_arguments : List Rule
nand_arguments = place_rule (codes "IMAGE") ∷ place_rule (codes "DEVICE")
    ∷ place_rule (codes "BADLIST") ∷ option_rule (codes "block") ∷ option_rule (codes "page") ∷ []

abbrev pub nand_places_differ : List Row → Bool
nand_places_differ rows = all_differ (text_at (codes "IMAGE") rows ∷ text_at (codes "DEVICE") rows
    ∷ text_at (codes "BADLIST") rows ∷ [])

-- a page is at most the block
abbrev pub nand_with : List Row → ℕ → ℕ → Option Job
nand_with rows block page = if nat_le page block then Some (job.Nand (text_at (codes "IMAGE") rows)
    (text_at (codes "DEVICE") rows) (text_at (codes "BADLIST") rows) block page) else None

abbrev pub nand_from : List Row → Option Job
nand_from rows = if nand_places_differ rows then option_and_then (λ block.
    option_and_then (nand_with rows block) (page_of rows)) (erase_block_of rows) else None

-- ---- all commands

-- the places of a command in their order, and its options
abbrev pub arguments_of : Verb → List Rule
arguments_of verb.Build = build_arguments
arguments_of verb.Map = map_arguments
arguments_of verb.Copy = copy_arguments
arguments_of verb.Resume = resume_arguments
arguments_of verb.Forget = forget_arguments
arguments_of verb.Verify = verify_arguments
arguments_of verb.List = list_arguments
arguments_of verb.Demo = demo_arguments
arguments_of verb.Gang = gang_arguments
arguments_of verb.GangResume = gang_arguments
arguments_of verb.Cut = cut_arguments
arguments_of verb.Expand = expand_arguments
arguments_of verb.Nand = nand_arguments

-- the job of what a command's arguments are given
abbrev pub job_from : Verb → List Row → Option Job
job_from verb.Build rows = build_from rows
job_from verb.Map rows = map_from rows
job_from verb.Copy rows = copy_from rows
job_from verb.Resume rows = resume_from rows
job_from verb.Forget rows = forget_from rows
job_from verb.Verify rows = verify_from rows
job_from verb.List rows = list_from rows
job_from verb.Demo rows = demo_from rows
job_from verb.Gang rows = gang_from rows
job_from verb.GangResume rows = gang_resume_from rows
job_from verb.Cut rows = cut_from rows
job_from verb.Expand rows = expand_from rows
job_from verb.Nand rows = nand_from rows

-- a command's simple command reads the words, and the job is that of what it gives
unfoldable pub job_by : Verb → List Text → Option Job
job_by v words = option_and_then (job_from v) (taken (simple (arguments_of v)) words)

-- the job that words stand for: the first names the command, and is that command's program name
unfoldable pub job_of : List Text → Option Job
job_of [] = None
job_of (first ∷ rest) = option_and_then (λ v. job_by v (first ∷ rest)) (verb_named first)
