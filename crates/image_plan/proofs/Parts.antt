-- Whose files the partitions of a layout are filled with.
use Rattle.std.specs.Prelude.{◌≡◌, ◌≢◌, ℕ, Bool, List, [], ◌∷◌, Option, Some, None, All}
use Rattle.std.proofs.Common.{refl, ap, sym, subst, ◌∙◌}
use Rattle.std.proofs.lemmas.List.Elements.{All-cons, All-head, All-nil, All-tail}
use Rattle.base_fields.specs.declared.spans.Span.{Span}
use Rattle.conf_keys.specs.declared.conf.FlashSection.{FlashSection}
use Rattle.conf_keys.specs.declared.conf.PartitionSection.{PartitionSection}
use Rattle.flash_geometry.specs.Layouts.{parts_from as flash_parts_from, placed_of as flash_placed_of}
use Rattle.flash_geometry.specs.Places.{places}
use Rattle.image_layout.specs.declared.layout.Layout.{Layout}
use Rattle.image_specs.specs.declared.specs.ImageSpec.{ImageSpec}
use Rattle.image_specs.specs.declared.specs.Source.{Source}
use Rattle.placement.specs.Layouts.{parts_from, placed_of, wholes_as}
use Rattle.placement_rules.specs.Places.{Stood, stood}
use Rattle.placement_rules.specs.Terms.{names_of}
use Rattle.image_plan.specs.Plans.{HasOwnFile, geometry_of, layout_by, layout_on}

-- ---- what holds of the file of each source holds of that of each partition

disk_parts : (P : Option (List ℕ) → Type 0) (names : List (List ℕ)) (sources : List Source) (wholes : List Bool)
    (ss : List Stood) → All (λ s. P s.file) sources → All (λ p. P p.source) (parts_from names sources wholes ss)
disk_parts P [] sources wholes ss all = All-nil (λ p. P p.source)
disk_parts P (name ∷ names) [] wholes ss all = All-nil (λ p. P p.source)
disk_parts P (name ∷ names) (source ∷ sources) [] ss all = All-nil (λ p. P p.source)
disk_parts P (name ∷ names) (source ∷ sources) (whole ∷ wholes) [] all = All-nil (λ p. P p.source)
disk_parts P (name ∷ names) (source ∷ sources) (whole ∷ wholes) (s ∷ ss) all =
    All-cons (λ p. P p.source) (placed_of name source.file whole s) (parts_from names sources wholes ss)
    (All-head (λ s. P s.file) source sources all)
    (disk_parts P names sources wholes ss (All-tail (λ s. P s.file) source sources all))

flash_parts : (P : Option (List ℕ) → Type 0) (parts : List PartitionSection) (sources : List Source) (lens : List ℕ)
    (ss : List Span) → All (λ s. P s.file) sources → All (λ p. P p.source) (flash_parts_from parts sources lens ss)
flash_parts P [] sources lens ss all = All-nil (λ p. P p.source)
flash_parts P (part ∷ parts) [] lens ss all = All-nil (λ p. P p.source)
flash_parts P (part ∷ parts) (source ∷ sources) [] ss all = All-nil (λ p. P p.source)
flash_parts P (part ∷ parts) (source ∷ sources) (len ∷ lens) [] all = All-nil (λ p. P p.source)
flash_parts P (part ∷ parts) (source ∷ sources) (len ∷ lens) (s ∷ ss) all =
    All-cons (λ p. P p.source) (flash_placed_of part source len s) (flash_parts_from parts sources lens ss)
    (All-head (λ s. P s.file) source sources all)
    (flash_parts P parts sources lens ss (All-tail (λ s. P s.file) source sources all))

-- ---- the image's own file

file_on : (flash : Option FlashSection) (spec : ImageSpec) (lens : List ℕ)
    → (layout_on flash spec lens).file ≡ spec.full
file_on None spec lens = refl
file_on (Some flash) spec lens = refl

apart_on : (flash : Option FlashSection) (spec : ImageSpec) (lens : List ℕ)
    → All (λ source. source.file ≢ Some spec.full) spec.sources
    → All (λ p. p.source ≢ Some (layout_on flash spec lens).file) (layout_on flash spec lens).parts
apart_on None spec lens all =
    disk_parts (λ f. f ≢ Some spec.full) (names_of spec) spec.sources (wholes_as spec.kind spec.keys.parts)
    (stood spec lens) all
apart_on (Some flash) spec lens all =
    flash_parts (λ f. f ≢ Some spec.full) spec.keys.parts spec.sources lens
    (places (geometry_of flash) spec.keys.parts lens) all

pub own_file : (spec : ImageSpec) (lens : List ℕ) (layout : Layout)
    → layout ≡ layout_by spec lens → HasOwnFile spec layout
own_file spec lens layout is = record {
  file = ap (λ (l : Layout). l.file) is ∙ file_on spec.flash spec lens;
  apart = λ all. subst (λ (l : Layout). All (λ p. p.source ≢ Some l.file) l.parts) (sym is)
      (apart_on spec.flash spec lens all);
}
