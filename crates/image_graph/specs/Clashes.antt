-- Where an image has the file of something that is read.
use Rattle.std.specs.Prelude.{ℕ, List, [], Option, Some, None}
use Rattle.std.specs.List.{flat_map}
use Rattle.std.specs.Option.{option_or, option_to_list}
use Rattle.image_names.specs.declared.fault.GraphFault.{GraphFault}
use Rattle.image_names.specs.Clashes.{clash_among}
use Rattle.image_names.specs.Counts.{first_fault}
use Rattle.image_specs.specs.declared.specs.ImageSpec.{ImageSpec}
use Rattle.image_specs.specs.declared.specs.Source.{Source}

-- the file that a source takes ready
abbrev pub ready_name_of : Source → Option ℕ → List (List ℕ)
ready_name_of source None = option_to_list source.file
ready_name_of source (Some child) = []

abbrev pub ready_name : Source → List (List ℕ)
ready_name source = ready_name_of source source.child

-- all files that are taken ready
abbrev pub taken : List ImageSpec → List (List ℕ)
taken specs = flat_map (λ spec. flat_map ready_name spec.sources) specs

abbrev pub file_fault : List (List ℕ) → ImageSpec → Option GraphFault
file_fault names spec = clash_among names spec.full

-- the first image whose file is taken ready, and then the first whose file is a text
abbrev pub file_clash : List (List ℕ) → List ImageSpec → Option GraphFault
file_clash texts specs =
    option_or (first_fault (file_fault (taken specs)) specs) (first_fault (file_fault texts) specs)
