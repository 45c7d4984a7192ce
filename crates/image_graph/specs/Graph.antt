-- What is built of a configuration, or the first refusal; each is looked for over the whole configuration before the next.
use Rattle.std.specs.Prelude.{◌≡◌, ◌≢◌, ℕ, List, [], Option, Some, None, Result, Ok, Err, MatchResult, slice_get, unwrap_or}
use Rattle.std.specs.Option.{option_map}
use Rattle.conf_keys.specs.declared.conf.Conf.{Conf}
use Rattle.image_names.specs.declared.fault.GraphFault.{GraphFault}
use Rattle.image_names.specs.declared.fault.GraphFault.TheVariants.{Cycle, NoMemory}
use Rattle.image_names.specs.Stages.{section_fault}
use Rattle.image_order.specs.Chains.{first_cycle}
use Rattle.image_order.specs.Order.{order_among}
use Rattle.image_specs.specs.declared.specs.ImageSpec.{ImageSpec}
use Rattle.image_specs.specs.Specs.{spec_names, specs_of}
use Rattle.image_graph.specs.declared.images.Graph.{Graph}
use Rattle.image_graph.specs.Children.{families_of}
use Rattle.image_graph.specs.Clashes.{file_clash}

-- a stage's refusal, or what comes behind it
abbrev pub refused_or : Option GraphFault → Result Graph GraphFault → Result Graph GraphFault
refused_or (Some fault) behind = Err fault
refused_or None behind = behind

-- ---- cycles

abbrev pub name_at : List ImageSpec → ℕ → List ℕ
name_at specs image = unwrap_or (slice_get (spec_names specs) image) []

-- the first image from which a chain of children returns
abbrev pub cycle : List ImageSpec → Option GraphFault
cycle specs = option_map (λ image. Cycle (name_at specs image)) (first_cycle (families_of specs))

-- ---- the graph

abbrev pub order_of : List ImageSpec → List ℕ
order_of specs = order_among (families_of specs)

-- the images in their order, unless there is a cycle
abbrev pub ordered : List ImageSpec → Result Graph GraphFault
ordered specs = refused_or (cycle specs) (Ok (record { order = order_of specs; specs = specs }))

-- counts, kinds, flash devices and names of sections; then files; then cycles
abbrev pub graph_of : Conf → Result Graph GraphFault
graph_of conf =
    refused_or (section_fault conf) (refused_or (file_clash conf.texts (specs_of conf)) (ordered (specs_of conf)))

-- an answer is the wanted one, save where memory was refused
abbrev pub Answers : Result Graph GraphFault → Result Graph GraphFault → Type 0
Answers wanted got = MatchResult got (λ graph. wanted ≡ Ok graph) (λ fault. fault ≢ NoMemory → wanted ≡ Err fault)
