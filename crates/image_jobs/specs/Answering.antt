-- The answer that each fault of a stage of a build stands for. A fault names an image or a source by its number, an answer
-- by its file.
use Rattle.std.specs.Prelude.{ℕ, List, [], slice_get, option_and_then, option_map, unwrap_or}
use Rattle.outside.specs.declared.files.ComposeFault.{ComposeFault}
use Rattle.outside.specs.declared.files.ComposeFault.TheVariants as compose
use Rattle.outside.specs.declared.files.FileErr.{FileErr}
use Rattle.outside.specs.declared.files.FileErr.TheVariants as measure
use Rattle.answer_lines.specs.declared.answer.Answer.{Answer}
use Rattle.answer_lines.specs.declared.answer.Answer.TheVariants as answer
use Rattle.conf_sections.specs.declared.fault.ConfFault.{ConfFault}
use Rattle.conf_sections.specs.declared.fault.ConfFault.TheVariants as conf
use Rattle.image_graph.specs.declared.images.Graph.{Graph}
use Rattle.image_names.specs.declared.fault.GraphFault.{GraphFault}
use Rattle.image_names.specs.declared.fault.GraphFault.TheVariants as graph
use Rattle.image_plan.specs.declared.faults.PlanFault.{PlanFault}
use Rattle.image_plan.specs.declared.faults.PlanFault.TheVariants as plan
use Rattle.image_specs.specs.declared.specs.ImageSpec.{ImageSpec}
use Rattle.placement_rules.specs.declared.faults.PlaceFault.{PlaceFault}
use Rattle.placement_rules.specs.declared.faults.PlaceFault.TheVariants as place
use Rattle.build_job.specs.declared.faults.BuildFault.{BuildFault}
use Rattle.build_job.specs.declared.faults.BuildFault.TheVariants as build

-- ---- the configuration and its graph

abbrev pub conf_answer : ConfFault → Answer
conf_answer (conf.BadText name place) = answer.BadText name place
conf_answer (conf.UnknownKey name place) = answer.UnknownKey name place
conf_answer (conf.BadValue name place) = answer.BadValue name place
conf_answer (conf.Unset var) = answer.Unset var
conf_answer (conf.DeepInclude name) = answer.DeepInclude name
conf_answer (conf.TooLong total) = answer.TooLong total
conf_answer (conf.Missing name) = answer.Missing name
conf_answer (conf.SourceShort name at) = answer.SourceShort name at
conf_answer conf.FileFault = answer.FileFault
conf_answer conf.NoMemory = answer.NoMemory

abbrev pub graph_answer : GraphFault → Answer
graph_answer (graph.TooMany count limit) = answer.TooMany count limit
graph_answer (graph.NoKind image count) = answer.NoKind image count
graph_answer (graph.NoFlash image) = answer.NoFlash image
graph_answer (graph.NameClash name) = answer.NameClash name
graph_answer (graph.Cycle name) = answer.Cycle name
graph_answer graph.NoMemory = answer.NoMemory

-- ---- the images

-- the full name of the image of that number
abbrev pub full_at : Graph → ℕ → List ℕ
full_at graph image = unwrap_or (option_map (λ spec. spec.full) (slice_get graph.specs image)) []

-- the file of the image's source of that number
abbrev pub source_file : ℕ → ImageSpec → List ℕ
source_file source spec = unwrap_or (option_and_then (λ source. source.file) (slice_get spec.sources source)) []

abbrev pub file_at : Graph → ℕ → ℕ → List ℕ
file_at graph image source = unwrap_or (option_map (source_file source) (slice_get graph.specs image)) []

abbrev pub place_answer : PlaceFault → Answer
place_answer (place.TooManyEntries count) = answer.TooManyEntries count
place_answer (place.Misaligned part value align) = answer.Misaligned part value align
place_answer (place.BadHoles part index) = answer.BadHoles part index
place_answer (place.BadAutoresize part room least) = answer.BadAutoresize part room least
place_answer (place.FileTooLarge part has limit) = answer.FileTooLarge part has limit
place_answer (place.NoSize part) = answer.NoSize part
place_answer (place.TooFar part number limit) = answer.TooFar part number limit
place_answer (place.Overlap a b) = answer.Overlap a b
place_answer (place.ImageTooSmall has needs) = answer.ImageTooSmall has needs
place_answer (place.NotOnBlock part value pebsize) = answer.NotOnBlock part value pebsize
place_answer (place.PastFlash part end limit) = answer.PastFlash part end limit
place_answer place.NoMemory = answer.NoMemory

abbrev pub plan_answer : Graph → ℕ → PlanFault → Answer
plan_answer graph image (plan.Missing source) = answer.Missing (file_at graph image source)
plan_answer graph image plan.FileFault = answer.FileFault
plan_answer graph image (plan.Place fault) = place_answer fault

abbrev pub compose_answer : Graph → ℕ → ComposeFault → Answer
compose_answer graph image (compose.Missing part) = answer.Missing (file_at graph image part)
compose_answer graph image compose.FileFault = answer.FileFault
compose_answer graph image (compose.SourceShort part at) = answer.SourceShort (file_at graph image part) at
compose_answer graph image compose.NoMemory = answer.NoMemory

-- the length of an image's own file
abbrev pub length_answer : Graph → ℕ → FileErr → Answer
length_answer graph image measure.Missing = answer.Missing (full_at graph image)
length_answer graph image measure.Failed = answer.FileFault

abbrev pub build_answer : Graph → BuildFault → Answer
build_answer graph (build.Plan image fault) = plan_answer graph image fault
build_answer graph (build.Compose image fault) = compose_answer graph image fault
build_answer graph (build.Measure image fault) = length_answer graph image fault
build_answer graph build.NoMemory = answer.NoMemory
