-- What holds of an image that is built: all that its placement and its composing rest on.
use Rattle.std.specs.Prelude.{◌≡◌, ◌≢◌, ℕ, ◌≤◌, List, [], ◌∷◌, Option, Some, None, All, IsSome, length, map}
use Rattle.std.specs.List.{AllZip}
use Rattle.conf_keys.specs.declared.conf.FlashSection.{FlashSection}
use Rattle.conf_keys.specs.declared.conf.Kind.{Kind}
use Rattle.conf_keys.specs.declared.conf.Kind.TheVariants as kind
use Rattle.conf_keys.specs.declared.conf.PartitionSection.{PartitionSection}
use Rattle.conf_keys.specs.Within.{IsFlashWithin, IsImageWithin}
use Rattle.image_names.specs.Images.{counted_of}
use Rattle.image_names.specs.Names.{AreApart}
use Rattle.image_specs.specs.declared.specs.ImageSpec.{ImageSpec}
use Rattle.image_specs.specs.declared.specs.Source.{Source}
use Rattle.image_specs.specs.Identifiers.{HasIdentifiers}

-- ---- sources

-- a partition with an image has a file, and one without has neither a file nor a child
abbrev pub IsSourceFor : Option (List ℕ) → Source → Type 0
IsSourceFor (Some image) source = IsSome source.file
IsSourceFor None source = (source.file ≡ None) × (source.child ≡ None)

-- one for each partition, in order
abbrev pub ArePartSources : List PartitionSection → List Source → Type 0
ArePartSources parts sources = AllZip (λ part source. IsSourceFor part.image source) parts sources

-- one, which has a file
pub record IsOneSource (sources : List Source) : Type 0 where
  pub one : length sources ≡ 1
  pub file : All (λ source. IsSome source.file) sources

abbrev pub AreSources : Kind → List PartitionSection → List Source → Type 0
AreSources kind.Hd parts sources = ArePartSources parts sources
AreSources kind.Flash parts sources = ArePartSources parts sources
AreSources kind.Sparse parts sources = IsOneSource sources
AreSources kind.Plain parts sources = IsOneSource sources
AreSources kind.Ready parts sources = ⊥

-- ---- flash devices

-- an image for a flash device has the section that it names, and another has none
abbrev pub IsFlashFor : Kind → Option (List ℕ) → Option FlashSection → Type 0
IsFlashFor kind.Flash flashtype (Some flash) = (flashtype ≡ Some flash.name) × IsFlashWithin flash
IsFlashFor kind.Flash flashtype None = ⊥
IsFlashFor _ flashtype flash = flash ≡ None

-- ---- an image

-- its partitions that count: no rule looks at those of kind file or android-sparse
abbrev pub parts_of : ImageSpec → List PartitionSection
parts_of spec = counted_of (Some spec.kind) spec.keys.parts

-- the keys keep within the limits of a configuration, and no more than 256 partitions count, which have different names
pub record IsSpec (spec : ImageSpec) : Type 0 where
  pub name : spec.name ≡ spec.keys.name
  pub only : spec.keys.kinds ≡ spec.kind ∷ []
  pub built : spec.kind ≢ kind.Ready
  pub within : IsImageWithin spec.keys
  pub identifiers : HasIdentifiers spec.keys
  pub few : length (parts_of spec) ≤ 256
  pub apart : AreApart (map (λ part. part.name) (parts_of spec))
  pub sources : AreSources spec.kind spec.keys.parts spec.sources
  pub flash : IsFlashFor spec.kind spec.keys.flashtype spec.flash
