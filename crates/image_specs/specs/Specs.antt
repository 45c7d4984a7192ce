-- What is built: each image with its full name, its flash device, and what it is made of.
use Rattle.std.specs.Prelude.{ℕ, List, [], ◌∷◌, Option, Some, None, find, map, option_and_then, unwrap_or}
use Rattle.std.specs.Str.{bytes_eq}
use Rattle.conf_keys.specs.declared.conf.Conf.{Conf}
use Rattle.conf_keys.specs.declared.conf.FlashSection.{FlashSection}
use Rattle.conf_keys.specs.declared.conf.ImageSection.{ImageSection}
use Rattle.conf_keys.specs.declared.conf.Kind.{Kind}
use Rattle.conf_keys.specs.declared.conf.Kind.TheVariants as kind
use Rattle.file_names.specs.FullName.{full_name}
use Rattle.image_specs.specs.declared.specs.ImageSpec.{ImageSpec}
use Rattle.image_specs.specs.declared.specs.Source.{Source}
use Rattle.image_names.specs.Images.{built_images, built_names, only_kind}
use Rattle.image_names.specs.Names.{number_of}

-- ---- sources

-- a file under the input path, that no image of these makes
abbrev pub ready_file : Conf → List ℕ → Source
ready_file conf name = record { file = Some (full_name conf.input name); child = None }

abbrev pub file_or_child : Conf → List ℕ → Option ℕ → Source
file_or_child conf name None = ready_file conf name
file_or_child conf name (Some child) = record { file = Some (full_name conf.output name); child = Some child }

-- the image of that name among those that are built, else a ready file
abbrev pub source_named : Conf → List (List ℕ) → List ℕ → Source
source_named conf names name = file_or_child conf name (number_of names name)

abbrev pub source_of : Conf → List (List ℕ) → Option (List ℕ) → Source
source_of conf names None = record { file = None; child = None }
source_of conf names (Some name) = source_named conf names name

abbrev pub sources_of : Conf → List (List ℕ) → ImageSection → Kind → List Source
sources_of conf names image kind.Sparse = source_of conf names image.sparse.image ∷ []
sources_of conf names image kind.Plain = ready_file conf (unwrap_or image.plain.name image.name) ∷ []
sources_of conf names image kind.Ready = []
sources_of conf names image kind = map (λ part. source_of conf names part.image) image.parts

-- ---- images

abbrev pub flash_named : List FlashSection → List ℕ → Option FlashSection
flash_named flashes name = find (λ flash. bytes_eq name flash.name) flashes

abbrev pub flash_of : List FlashSection → ImageSection → Kind → Option FlashSection
flash_of flashes image kind.Flash = option_and_then (flash_named flashes) image.flashtype
flash_of flashes image kind = None

abbrev pub spec_as : Conf → List (List ℕ) → ImageSection → Kind → ImageSpec
spec_as conf names image kind = record {
  name = image.name;
  full = full_name conf.output image.name;
  kind = kind;
  keys = image;
  flash = flash_of conf.flashes image kind;
  sources = sources_of conf names image kind;
}

-- an image as the one of its kind that is built
abbrev pub spec_of : Conf → List (List ℕ) → ImageSection → ImageSpec
spec_of conf names image = spec_as conf names image (unwrap_or (only_kind image.kinds) kind.Ready)

-- in the order of the text
abbrev pub specs_of : Conf → List ImageSpec
specs_of conf = map (spec_of conf (built_names conf)) (built_images conf)

abbrev pub spec_names : List ImageSpec → List (List ℕ)
spec_names specs = map (λ spec. spec.name) specs

abbrev pub full_names : List ImageSpec → List (List ℕ)
full_names specs = map (λ spec. spec.full) specs
