-- The refusals that come from counts, kinds and flash devices.
use Rattle.std.specs.Prelude.{ℕ, Bool, false, List, [], ◌∷◌, Option, Some, None, length, map, nat_lt, ◌==◌, if◌then◌else◌}
use Rattle.std.specs.Option.{option_map_or, option_or}
use Rattle.conf_keys.specs.declared.conf.Conf.{Conf}
use Rattle.conf_keys.specs.declared.conf.FlashSection.{FlashSection}
use Rattle.conf_keys.specs.declared.conf.ImageSection.{ImageSection}
use Rattle.conf_keys.specs.declared.conf.Kind.{Kind}
use Rattle.conf_keys.specs.declared.conf.Kind.TheVariants as kind
use Rattle.image_names.specs.declared.fault.GraphFault.{GraphFault}
use Rattle.image_names.specs.declared.fault.GraphFault.TheVariants.{TooMany, NoKind, NoFlash}
use Rattle.image_names.specs.Images.{counted_parts, only_kind}
use Rattle.image_names.specs.Names.{holds}

-- the fault of the first in order that has one
abbrev pub first_fault : {A : Type 0} → (A → Option GraphFault) → List A → Option GraphFault
first_fault fault [] = None
first_fault fault (x ∷ xs) = option_or (fault x) (first_fault fault xs)

-- ---- counts

abbrev pub past : ℕ → ℕ → Option GraphFault
past limit count = if nat_lt limit count then Some (TooMany count limit) else None

-- the number of all images, and then those of the partitions of each
abbrev pub too_many : Conf → Option GraphFault
too_many conf = option_or (past 64 (length conf.images)) (first_fault (λ image. past 256 (length (counted_parts image))) conf.images)

-- ---- kinds

abbrev pub kind_fault : ImageSection → Option GraphFault
kind_fault image = if length image.kinds == 1 then None else Some (NoKind image.name (length image.kinds))

abbrev pub no_kind : Conf → Option GraphFault
no_kind conf = first_fault kind_fault conf.images

-- ---- flash devices

abbrev pub names_of : List FlashSection → List (List ℕ)
names_of flashes = map (λ flash. flash.name) flashes

-- a flash image names one of the flash sections
abbrev pub has_flash : List (List ℕ) → ImageSection → Bool
has_flash names image = option_map_or (holds names) image.flashtype false

abbrev pub flash_fault_of : List (List ℕ) → ImageSection → Option Kind → Option GraphFault
flash_fault_of names image (Some kind.Flash) = if has_flash names image then None else Some (NoFlash image.name)
flash_fault_of names image other = None

abbrev pub flash_fault : List (List ℕ) → ImageSection → Option GraphFault
flash_fault names image = flash_fault_of names image (only_kind image.kinds)

abbrev pub no_flash : Conf → Option GraphFault
no_flash conf = first_fault (flash_fault (names_of conf.flashes)) conf.images
