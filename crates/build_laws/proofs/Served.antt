-- Where an image has a layout by the files, they have every byte that it needs of them: the length of a part is that of
-- the file of its source.
use Rattle.std.specs.Prelude.{◌≡◌, ℕ, zero, suc, ◌<◌, Bool, List, [], ◌∷◌, ◌++◌, Option, Some, None, Ok}
use Rattle.std.specs.Prelude.{length, unwrap_or}
use Rattle.std.specs.List.{AllByRecursion}
use Rattle.std.proofs.Common.{refl, sym, subst, arith}
use Rattle.base_fields.specs.declared.spans.Span.{Span}
use Rattle.base_fields.specs.declared.spans.TableKind.{TableKind}
use Rattle.conf_keys.specs.declared.conf.FlashSection.{FlashSection}
use Rattle.conf_keys.specs.declared.conf.Kind.{Kind}
use Rattle.conf_keys.specs.declared.conf.Kind.TheVariants as kind
use Rattle.conf_keys.specs.declared.conf.PartitionSection.{PartitionSection}
use Rattle.conf_values.specs.declared.values.Hole.{Hole}
use Rattle.flash_geometry.specs.Layouts.{parts_from as flash_parts_from}
use Rattle.flash_geometry.specs.Places.{places}
use Rattle.image_layout.specs.declared.layout.Layout.{Layout}
use Rattle.image_layout.specs.declared.layout.Placed.{Placed}
use Rattle.image_parts.specs.Files.{HaveNeeded, source_in}
use Rattle.image_plan.specs.Lengths.{length_of, length_under, lengths_of}
use Rattle.image_plan.specs.Plans.{geometry_of, layout_on, plan_said}
use Rattle.image_specs.specs.declared.specs.ImageSpec.{ImageSpec}
use Rattle.image_specs.specs.declared.specs.Source.{Source}
use Rattle.outside.specs.Files.{Tree}
use Rattle.placement.specs.Layouts.{parts_from, wholes_as}
use Rattle.placement_rules.specs.Frames.{frame_of}
use Rattle.placement_rules.specs.Places.{Stood, stood, stood_from, stood_of}
use Rattle.placement_rules.specs.Terms.{holes_of, names_of, terms, terms_as, terms_from}
use Rattle.placement_rules.specs.declared.terms.Frame.{Frame}
use Rattle.placement_rules.specs.declared.terms.Terms.{Terms}
use Rattle.build_laws.proofs.Sources.{layout_of_plan}

-- ---- the lengths of parts

-- each has the length of the source of its number
abbrev AreLong : {X : Type 0} → (X → ℕ) → Tree → List Source → List X → Type 0
AreLong len file [] xs = Unit {0}
AreLong len file (source ∷ sources) [] = Unit {0}
AreLong len file (source ∷ sources) (x ∷ xs) = (len x ≡ length_of file source) × AreLong len file sources xs

abbrev len_in : Terms → ℕ
len_in t = t.len

abbrev len_of : Stood → ℕ
len_of s = s.terms.len

listed_long : (file : Tree) (spec : ImageSpec) (table : TableKind) (before parts : List PartitionSection)
    (sources : List Source) → AreLong len_in file sources (terms_from spec table before parts (lengths_of file sources))
listed_long file spec table before parts [] = tt
listed_long file spec table before [] (source ∷ sources) = tt
listed_long file spec table before (part ∷ parts) (source ∷ sources) =
    (refl, listed_long file spec table (before ++ part ∷ []) parts sources)

terms_long : (chosen : Kind) (file : Tree) (spec : ImageSpec) (sources : List Source)
    → AreLong len_in file sources (terms_as chosen spec (lengths_of file sources))
terms_long chosen file spec [] = tt
terms_long kind.Hd file spec (source ∷ sources) =
    listed_long file spec spec.keys.hd.partition_table_type [] spec.keys.parts (source ∷ sources)
terms_long kind.Plain file spec (source ∷ sources) = (refl, by_rest sources)
  where
    by_rest : (rest : List Source) → AreLong len_in file rest []
    by_rest [] = tt
    by_rest (first ∷ rest) = tt
terms_long kind.Flash file spec (source ∷ sources) = tt
terms_long kind.Sparse file spec (source ∷ sources) = tt
terms_long kind.Ready file spec (source ∷ sources) = tt

stood_long : (file : Tree) (frame : Frame) (before : List Stood) (sources : List Source) (ts : List Terms)
    (holes : List (List Hole)) → AreLong len_in file sources ts
    → AreLong len_of file sources (stood_from frame before ts holes)
stood_long file frame before [] ts holes h = tt
stood_long file frame before (source ∷ sources) [] holes h = tt
stood_long file frame before (source ∷ sources) (t ∷ ts) [] h = tt
stood_long file frame before (source ∷ sources) (t ∷ ts) (hole ∷ holes) h =
    (h.0, stood_long file frame (before ++ stood_of frame before t hole ∷ []) sources ts holes h.1)

-- ---- parts and their files

-- it is as long as its file
abbrev IsServed : Tree → Placed → Type 0
IsServed file p = p.len ≡ length_under file p.source

disk_served : (file : Tree) (names : List (List ℕ)) (sources : List Source) (wholes : List Bool) (ss : List Stood)
    → AreLong len_of file sources ss → AllByRecursion (IsServed file) (parts_from names sources wholes ss)
disk_served file [] sources wholes ss h = tt
disk_served file (name ∷ names) [] wholes ss h = tt
disk_served file (name ∷ names) (source ∷ sources) [] ss h = tt
disk_served file (name ∷ names) (source ∷ sources) (whole ∷ wholes) [] h = tt
disk_served file (name ∷ names) (source ∷ sources) (whole ∷ wholes) (s ∷ ss) h =
    (h.0, disk_served file names sources wholes ss h.1)

flash_served : (file : Tree) (parts : List PartitionSection) (sources : List Source) (ss : List Span)
    → AllByRecursion (IsServed file) (flash_parts_from parts sources (lengths_of file sources) ss)
flash_served file [] sources ss = tt
flash_served file (part ∷ parts) [] ss = tt
flash_served file (part ∷ parts) (source ∷ sources) [] = tt
flash_served file (part ∷ parts) (source ∷ sources) (s ∷ ss) = (refl, flash_served file parts sources ss)

parts_served : (file : Tree) (flash : Option FlashSection) (spec : ImageSpec)
    → AllByRecursion (IsServed file) (layout_on flash spec (lengths_of file spec.sources)).parts
parts_served file None spec =
    let lens : List ℕ = lengths_of file spec.sources in
    disk_served file (names_of spec) spec.sources (wholes_as spec.kind spec.keys.parts) (stood spec lens)
    (stood_long file (frame_of spec) [] spec.sources (terms spec lens) (holes_of spec)
    (terms_long spec.kind file spec spec.sources))
parts_served file (Some flash) spec =
    flash_served file spec.keys.parts spec.sources
    (places (geometry_of flash) spec.keys.parts (lengths_of file spec.sources))

-- ---- all parts

needed_there : (file : Tree) (source : Option (List ℕ)) (n : ℕ) → n < length_under file source
    → n < length (unwrap_or (source_in file source) [])
needed_there file None n below = absurd (omega arith)
needed_there file (Some name) n below = below

each_there : (file : Tree) (parts : List Placed) → AllByRecursion (IsServed file) parts
    → HaveNeeded file parts (length parts)
each_there file [] h k inside i needed = absurd (omega arith)
each_there file (p ∷ parts) h zero inside i needed =
    let below : i < p.len = needed.below in
    let long : p.len ≡ length_under file p.source = h.0 in
    needed_there file p.source i (omega (arith, below, long))
each_there file (p ∷ parts) h (suc k) inside i needed = each_there file parts h.1 k (omega arith) i needed

pub plans_are_served : (file : Tree) (spec : ImageSpec) (layout : Layout) → plan_said file spec ≡ Ok layout
    → HaveNeeded file layout.parts (length layout.parts)
plans_are_served file spec layout plan =
    each_there file layout.parts
    (subst (λ (l : Layout). AllByRecursion (IsServed file) l.parts) (sym (layout_of_plan file spec layout plan))
    (parts_served file spec.flash spec))
