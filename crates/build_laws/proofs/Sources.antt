-- Where the files that an image is made of stay as they are, its layout is the same, and so are the bytes of it.
use Rattle.std.specs.Prelude.{◌≡◌, ℕ, zero, suc, ◌+◌, ◌<◌, Bool, cond, List, [], ◌∷◌, Option, Some, None, is_none}
use Rattle.std.specs.Prelude.{Ok, Err, length, unwrap_or}
use Rattle.std.specs.List.{AllByRecursion, position_from}
use Rattle.std.proofs.Common.{refl, ap, sym, subst, ◌∙◌, arith}
use Rattle.std.proofs.lemmas.Iterator.Adapters.{position_from-zero}
use Rattle.base_fields.specs.Results.{◌>>=◌}
use Rattle.base_fields.specs.declared.spans.Span.{Span}
use Rattle.conf_keys.specs.declared.conf.FlashSection.{FlashSection}
use Rattle.conf_keys.specs.declared.conf.PartitionSection.{PartitionSection}
use Rattle.flash_geometry.specs.Layouts.{parts_from as flash_parts_from}
use Rattle.flash_geometry.specs.Places.{places}
use Rattle.image_composer.proofs.Wanted.{byte_at_same}
use Rattle.image_layout.specs.Layout.{byte_at, source_bytes}
use Rattle.image_layout.specs.declared.layout.Layout.{Layout}
use Rattle.image_layout.specs.declared.layout.Placed.{Placed}
use Rattle.image_parts.specs.Files.{part_of}
use Rattle.image_plan.specs.Lengths.{first_absent, is_absent, is_lacking, length_of, length_under, lengths_of}
use Rattle.image_plan.specs.Lengths.{unless_absent}
use Rattle.image_plan.specs.Plans.{geometry_of, layout_by, layout_on, placed_said, plan_said, refusal_by}
use Rattle.image_plan.specs.Plans.{unless_refused}
use Rattle.image_plan.specs.declared.faults.PlanFault.TheVariants.{Missing, Place}
use Rattle.image_specs.specs.declared.specs.ImageSpec.{ImageSpec}
use Rattle.image_specs.specs.declared.specs.Source.{Source}
use Rattle.outside.specs.Files.{Tree, bytes_of}
use Rattle.placement.specs.Layouts.{parts_from, wholes_as}
use Rattle.placement_rules.specs.Places.{Stood, stood}
use Rattle.placement_rules.specs.Terms.{names_of}
use Rattle.placement_rules.specs.declared.faults.PlaceFault.{PlaceFault}

-- ---- what stays

abbrev pub NameStays : Tree → Tree → Option (List ℕ) → Type 0
NameStays before now None = Unit {0}
NameStays before now (Some name) = now name ≡ before name

abbrev pub SourcesStay : Tree → Tree → List Source → Type 0
SourcesStay before now sources = AllByRecursion (λ source. NameStays before now source.file) sources

abbrev PartsStay : Tree → Tree → List Placed → Type 0
PartsStay before now parts = AllByRecursion (λ p. NameStays before now p.source) parts

-- ---- the layout

lacking_same : (before now : Tree) (file : Option (List ℕ)) → NameStays before now file
    → is_lacking now file ≡ is_lacking before file
lacking_same before now None h = refl
lacking_same before now (Some name) h = ap (λ (o : Option (List ℕ)). is_none o) h

length_same : (before now : Tree) (file : Option (List ℕ)) → NameStays before now file
    → length_under now file ≡ length_under before file
length_same before now None h = refl
length_same before now (Some name) h = ap (λ (o : Option (List ℕ)). length (unwrap_or o [])) h

absent_same : (before now : Tree) (sources : List Source) (k : ℕ) → SourcesStay before now sources
    → position_from (is_absent now) k sources ≡ position_from (is_absent before) k sources
absent_same before now [] k h = refl
absent_same before now (source ∷ rest) k h =
    ap (λ (b : Bool). cond b (Some k) (position_from (is_absent now) (k + 1) rest))
    (lacking_same before now source.file h.0)
    ∙ ap (λ (o : Option ℕ). cond (is_absent before source) (Some k) o) (absent_same before now rest (k + 1) h.1)

lengths_same : (before now : Tree) (sources : List Source) → SourcesStay before now sources
    → lengths_of now sources ≡ lengths_of before sources
lengths_same before now [] h = refl
lengths_same before now (source ∷ rest) h =
    ap (λ (n : ℕ). n ∷ lengths_of now rest) (length_same before now source.file h.0)
    ∙ ap (λ (ns : List ℕ). length_of before source ∷ ns) (lengths_same before now rest h.1)

pub plan_same : (before now : Tree) (spec : ImageSpec) → SourcesStay before now spec.sources
    → plan_said now spec ≡ plan_said before spec
plan_same before now spec h =
    let absent : first_absent now spec.sources ≡ first_absent before spec.sources =
    position_from-zero (is_absent now) spec.sources
    ∙ absent_same before now spec.sources 0 h
    ∙ sym (position_from-zero (is_absent before) spec.sources) in
    ap (λ (o : Option ℕ). unless_absent o (lengths_of now spec.sources) >>= placed_said spec) absent
    ∙ ap (λ (ns : List ℕ). unless_absent (first_absent before spec.sources) ns >>= placed_said spec)
    (lengths_same before now spec.sources h)

-- ---- its parts have the files of the image's sources

disk_parts : (before now : Tree) (names : List (List ℕ)) (sources : List Source) (wholes : List Bool) (ss : List Stood)
    → SourcesStay before now sources → PartsStay before now (parts_from names sources wholes ss)
disk_parts before now [] sources wholes ss h = tt
disk_parts before now (name ∷ names) [] wholes ss h = tt
disk_parts before now (name ∷ names) (source ∷ sources) [] ss h = tt
disk_parts before now (name ∷ names) (source ∷ sources) (whole ∷ wholes) [] h = tt
disk_parts before now (name ∷ names) (source ∷ sources) (whole ∷ wholes) (s ∷ ss) h =
    (h.0, disk_parts before now names sources wholes ss h.1)

flash_parts : (before now : Tree) (parts : List PartitionSection) (sources : List Source) (lens : List ℕ)
    (ss : List Span) → SourcesStay before now sources → PartsStay before now (flash_parts_from parts sources lens ss)
flash_parts before now [] sources lens ss h = tt
flash_parts before now (part ∷ parts) [] lens ss h = tt
flash_parts before now (part ∷ parts) (source ∷ sources) [] ss h = tt
flash_parts before now (part ∷ parts) (source ∷ sources) (len ∷ lens) [] h = tt
flash_parts before now (part ∷ parts) (source ∷ sources) (len ∷ lens) (s ∷ ss) h =
    (h.0, flash_parts before now parts sources lens ss h.1)

parts_on : (before now : Tree) (flash : Option FlashSection) (spec : ImageSpec) (lens : List ℕ)
    → SourcesStay before now spec.sources → PartsStay before now (layout_on flash spec lens).parts
parts_on before now None spec lens h =
    disk_parts before now (names_of spec) spec.sources (wholes_as spec.kind spec.keys.parts) (stood spec lens) h
parts_on before now (Some flash) spec lens h =
    flash_parts before now spec.keys.parts spec.sources lens (places (geometry_of flash) spec.keys.parts lens) h

-- a layout that is said is the one by the lengths of the sources' files
by_refusal : (spec : ImageSpec) (lens : List ℕ) (layout : Layout) (refused : Option PlaceFault)
    → unless_refused refused (layout_by spec lens) ≡ Ok layout → layout ≡ layout_by spec lens
by_refusal spec lens layout None h = let same : Ok (layout_by spec lens) ≡ Ok layout = h in cc
by_refusal spec lens layout (Some fault) h = absurd (let no : Err (Place fault) ≡ Ok layout = h in cc)

by_absent : (spec : ImageSpec) (layout : Layout) (lens : List ℕ) (absent : Option ℕ)
    → (unless_absent absent lens >>= placed_said spec) ≡ Ok layout → layout ≡ layout_by spec lens
by_absent spec layout lens None h = by_refusal spec lens layout (refusal_by spec lens) h
by_absent spec layout lens (Some source) h = absurd (let no : Err (Missing source) ≡ Ok layout = h in cc)

pub layout_of_plan : (file : Tree) (spec : ImageSpec) (layout : Layout) → plan_said file spec ≡ Ok layout
    → layout ≡ layout_by spec (lengths_of file spec.sources)
layout_of_plan file spec layout plan =
    by_absent spec layout (lengths_of file spec.sources) (first_absent file spec.sources) plan

parts_stay : (before now : Tree) (spec : ImageSpec) (layout : Layout) → plan_said before spec ≡ Ok layout
    → SourcesStay before now spec.sources → PartsStay before now layout.parts
parts_stay before now spec layout plan h =
    subst (λ (l : Layout). PartsStay before now l.parts) (sym (layout_of_plan before spec layout plan))
    (parts_on before now spec.flash spec (lengths_of before spec.sources) h)

-- its file is the image's
file_on : (flash : Option FlashSection) (spec : ImageSpec) (lens : List ℕ)
    → (layout_on flash spec lens).file ≡ spec.full
file_on None spec lens = refl
file_on (Some flash) spec lens = refl

pub file_of_plan : (before : Tree) (spec : ImageSpec) (layout : Layout) → plan_said before spec ≡ Ok layout
    → layout.file ≡ spec.full
file_of_plan before spec layout plan =
    ap (λ (l : Layout). l.file) (layout_of_plan before spec layout plan)
    ∙ file_on spec.flash spec (lengths_of before spec.sources)

-- ---- the bytes

bytes_same : (before now : Tree) (file : Option (List ℕ)) → NameStays before now file
    → source_bytes (bytes_of before) file ≡ source_bytes (bytes_of now) file
bytes_same before now None h = refl
bytes_same before now (Some name) h = ap (λ (o : Option (List ℕ)). unwrap_or o []) (sym h)

each_same : (before now : Tree) (parts : List Placed) → PartsStay before now parts → (k : ℕ) → k < length parts
    → source_bytes (bytes_of before) (part_of parts k).source ≡ source_bytes (bytes_of now) (part_of parts k).source
each_same before now [] h k inside = absurd (omega arith)
each_same before now (p ∷ parts) h zero inside = bytes_same before now p.source h.0
each_same before now (p ∷ parts) h (suc k) inside = each_same before now parts h.1 k (omega arith)

pub byte_same : (before now : Tree) (spec : ImageSpec) (layout : Layout) → plan_said before spec ≡ Ok layout
    → SourcesStay before now spec.sources → (o : ℕ)
    → byte_at layout (bytes_of before) o ≡ byte_at layout (bytes_of now) o
byte_same before now spec layout plan h o =
    byte_at_same layout (bytes_of before) (bytes_of now) o
    (each_same before now layout.parts (parts_stay before now spec layout plan h))
