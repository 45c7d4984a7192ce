-- What holds of a configuration whose sections have no fault.
use Rattle.std.specs.Prelude.{◌≡◌, ℕ, ◌≤◌, true, List, Some, All, length}
use Rattle.conf_keys.specs.declared.conf.Conf.{Conf}
use Rattle.conf_keys.specs.declared.conf.ImageSection.{ImageSection}
use Rattle.conf_keys.specs.declared.conf.Kind.TheVariants as kind
use Rattle.image_names.specs.Clashes.{built_fulls}
use Rattle.image_names.specs.Counts.{has_flash, names_of}
use Rattle.image_names.specs.Images.{counted_parts, all_names, names_built, only_kind, part_names}
use Rattle.image_names.specs.Names.{AreApart}

-- a flash image names one of the flash sections
abbrev pub NamesFlash : List (List ℕ) → ImageSection → Type 0
NamesFlash names image = only_kind image.kinds ≡ Some kind.Flash → has_flash names image ≡ true

pub record IsImageChecked (flashes : List (List ℕ)) (image : ImageSection) : Type 0 where
  pub few : length (counted_parts image) ≤ 256
  pub one_kind : length image.kinds ≡ 1
  pub flash : NamesFlash flashes image
  pub parts : AreApart (part_names image)

pub record IsChecked (conf : Conf) : Type 0 where
  pub few : length conf.images ≤ 64
  pub each : All (IsImageChecked (names_of conf.flashes)) conf.images
  pub images : AreApart (all_names conf.images)
  pub built : AreApart (names_built conf.images)
  pub fulls : AreApart (built_fulls conf.output conf.images)
  pub flashes : AreApart (names_of conf.flashes)
