-- Where two sections have one name: the first that has one name with an earlier one.
use Rattle.std.specs.Prelude.{ℕ, List, [], ◌∷◌, ◌++◌, Option, Some, None, filter, map, if◌then◌else◌}
use Rattle.std.specs.Option.{option_or}
use Rattle.conf_keys.specs.declared.conf.Conf.{Conf}
use Rattle.conf_keys.specs.declared.conf.FlashSection.{FlashSection}
use Rattle.conf_keys.specs.declared.conf.ImageSection.{ImageSection}
use Rattle.file_names.specs.FullName.{full_name}
use Rattle.image_names.specs.declared.fault.GraphFault.{GraphFault}
use Rattle.image_names.specs.declared.fault.GraphFault.TheVariants.{NameClash}
use Rattle.image_names.specs.Counts.{first_fault, names_of}
use Rattle.image_names.specs.Images.{all_names, is_built, part_names}
use Rattle.image_names.specs.Names.{holds}

-- a name that is one of these
abbrev pub clash_among : List (List ℕ) → List ℕ → Option GraphFault
clash_among names name = if holds names name then Some (NameClash name) else None

-- the first name that an earlier one is
abbrev pub again : List (List ℕ) → List (List ℕ) → Option GraphFault
again earlier [] = None
again earlier (name ∷ rest) = option_or (clash_among earlier name) (again (earlier ++ name ∷ []) rest)

abbrev pub flash_clash : List FlashSection → Option GraphFault
flash_clash flashes = again [] (names_of flashes)

abbrev pub part_clash : ImageSection → Option GraphFault
part_clash image = again [] (part_names image)

abbrev pub full_of : List ℕ → ImageSection → List ℕ
full_of output image = full_name output image.name

-- the full names of those that are built
abbrev pub built_fulls : List ℕ → List ImageSection → List (List ℕ)
built_fulls output images = map (full_of output) (filter is_built images)

-- the full names with that of an image, where it is built
abbrev pub more_fulls : List (List ℕ) → List ℕ → ImageSection → List (List ℕ)
more_fulls fulls output image = if is_built image then fulls ++ full_of output image ∷ [] else fulls

-- the full name of an image that is built is one of these
abbrev pub full_clash : List (List ℕ) → List ℕ → ImageSection → Option GraphFault
full_clash fulls output image = if is_built image then clash_among fulls (full_of output image) else None

-- an image has one name with one of these
abbrev pub clash_with : List (List ℕ) → List (List ℕ) → List ℕ → ImageSection → Option GraphFault
clash_with names fulls output image = option_or (clash_among names image.name) (full_clash fulls output image)

abbrev pub image_again : List ℕ → List ImageSection → List ImageSection → Option GraphFault
image_again output earlier [] = None
image_again output earlier (image ∷ rest) =
    option_or (clash_with (all_names earlier) (built_fulls output earlier) output image) (image_again output (earlier ++ image ∷ []) rest)

abbrev pub image_clash : List ℕ → List ImageSection → Option GraphFault
image_clash output images = image_again output [] images

abbrev pub section_clash : Conf → Option GraphFault
section_clash conf = option_or (image_clash conf.output conf.images) (option_or (flash_clash conf.flashes) (first_fault part_clash conf.images))
