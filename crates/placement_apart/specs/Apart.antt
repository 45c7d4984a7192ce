-- A layout that is placed by the rules: its partitions and its tables lie apart and within the image.
use Rattle.std.specs.Prelude.{◌≡◌, ℕ, ◌+◌, ◌^◌, ◌≤◌, ◌⊎◌, List, None, All, length}
use Rattle.std.specs.List.{AllZip}
use Rattle.image_layout.specs.IsLayout.{IsPart, LiesApart}
use Rattle.image_layout.specs.Layout.{table_parts}
use Rattle.image_layout.specs.declared.layout.Layout.{Layout}
use Rattle.image_specs.specs.IsSpec.{IsSpec}
use Rattle.image_specs.specs.declared.specs.ImageSpec.{ImageSpec}
use Rattle.image_specs.specs.declared.specs.Source.{Source}
use Rattle.placement.specs.Layouts.{layout_of}
use Rattle.placement.specs.Said.{refusal}

-- the length of each source's file, in order, and 0 where it has none
abbrev pub AreLengths : List Source → List ℕ → Type 0
AreLengths sources lens = AllZip (λ source len. source.file ≡ None → len ≡ 0) sources lens

-- what holds of a layout but for what its tables say
pub record IsSpread (l : Layout) : Type 0 where
  pub size : l.size ≤ 2 ^ 43
  pub sector : (l.sector ≡ 512) ⊎ (l.sector ≡ 4096)
  pub few : length l.parts ≤ 256
  pub parts : All (IsPart l.size) l.parts
  pub inside : All (λ p. p.at + p.len ≤ l.size) (table_parts l)
  pub apart : LiesApart l

-- each image that isn't refused
abbrev pub PlacedLiesApart : Type 0
PlacedLiesApart =
    (spec : ImageSpec) (lens : List ℕ) → IsSpec spec → AreLengths spec.sources lens → refusal spec lens ≡ None
    → IsSpread (layout_of spec lens)
