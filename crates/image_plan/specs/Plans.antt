-- What is said of an image: its layout, or the first refusal.
use Rattle.std.specs.Prelude.{◌≡◌, ◌≢◌, ℕ, Bool, true, false, List, Option, Some, None, All, Result, Ok, Err}
use Rattle.base_fields.specs.Results.{◌>>=◌}
use Rattle.conf_keys.specs.declared.conf.FlashSection.{FlashSection}
use Rattle.conf_keys.specs.declared.conf.Kind.{Kind}
use Rattle.conf_keys.specs.declared.conf.Kind.TheVariants as kind
use Rattle.flash_geometry.specs.Layouts.{layout_of as flash_layout, refusal as flash_refusal}
use Rattle.flash_geometry.specs.declared.geometry.Geometry.{Geometry}
use Rattle.image_layout.specs.declared.layout.Layout.{Layout}
use Rattle.image_specs.specs.declared.specs.ImageSpec.{ImageSpec}
use Rattle.outside.specs.Files.{Tree}
use Rattle.placement.specs.Layouts.{layout_of as disk_layout}
use Rattle.placement.specs.Said.{refusal as disk_refusal}
use Rattle.placement_apart.specs.Apart.{AreLengths}
use Rattle.placement_rules.specs.declared.faults.PlaceFault.{PlaceFault}
use Rattle.placement_rules.specs.declared.faults.PlaceFault.TheVariants.{NoMemory}
use Rattle.image_plan.specs.Faults.{HasFile}
use Rattle.image_plan.specs.Lengths.{lengths_said}
use Rattle.image_plan.specs.declared.faults.PlanFault.{PlanFault}
use Rattle.image_plan.specs.declared.faults.PlanFault.TheVariants.{Missing, FileFault, Place}

-- the kinds of image that have a plan
abbrev pub is_planned : Kind → Bool
is_planned kind.Hd = true
is_planned kind.Plain = true
is_planned kind.Flash = true
is_planned kind.Sparse = false
is_planned kind.Ready = false

-- ---- by lengths

abbrev pub geometry_of : FlashSection → Geometry
geometry_of flash = record { pebsize = flash.pebsize; numpebs = flash.numpebs }

-- an image for a flash device, and no other, has the section of that device
abbrev pub refusal_on : Option FlashSection → ImageSpec → List ℕ → Option PlaceFault
refusal_on None spec lens = disk_refusal spec lens
refusal_on (Some flash) spec lens = flash_refusal spec (geometry_of flash) lens

abbrev pub layout_on : Option FlashSection → ImageSpec → List ℕ → Layout
layout_on None spec lens = disk_layout spec lens
layout_on (Some flash) spec lens = flash_layout spec (geometry_of flash) lens

abbrev pub refusal_by : ImageSpec → List ℕ → Option PlaceFault
refusal_by spec lens = refusal_on spec.flash spec lens

abbrev pub layout_by : ImageSpec → List ℕ → Layout
layout_by spec lens = layout_on spec.flash spec lens

abbrev pub unless_refused : Option PlaceFault → Layout → Result Layout PlanFault
unless_refused None layout = Ok layout
unless_refused (Some fault) layout = Err (Place fault)

abbrev pub placed_said : ImageSpec → List ℕ → Result Layout PlanFault
placed_said spec lens = unless_refused (refusal_by spec lens) (layout_by spec lens)

-- ---- over files that are told

abbrev pub plan_said : Tree → ImageSpec → Result Layout PlanFault
plan_said file spec = lengths_said file spec.sources >>= placed_said spec

-- ---- over any files

-- some lengths by which it has this layout
pub record IsPlaced (spec : ImageSpec) (layout : Layout) : Type 0 where
  pub lens : List ℕ
  pub lengths : AreLengths spec.sources lens
  pub free : refusal_by spec lens ≡ None
  pub is : layout ≡ layout_by spec lens

-- its file is the image's, and that of no partition where it is that of no source
pub record HasOwnFile (spec : ImageSpec) (layout : Layout) : Type 0 where
  pub file : layout.file ≡ spec.full
  pub apart : All (λ source. source.file ≢ Some spec.full) spec.sources
      → All (λ p. p.source ≢ Some layout.file) layout.parts

-- some by which it is refused so
pub record IsRefused (spec : ImageSpec) (fault : PlaceFault) : Type 0 where
  pub lens : List ℕ
  pub lengths : AreLengths spec.sources lens
  pub is : refusal_by spec lens ≡ Some fault

-- a source that isn't there has a file, and a refusal is one by some lengths
abbrev pub IsPlanFault : ImageSpec → PlanFault → Type 0
IsPlanFault spec (Missing source) = HasFile spec.sources source
IsPlanFault spec FileFault = Unit {0}
IsPlanFault spec (Place fault) = fault ≢ NoMemory → IsRefused spec fault
