-- The layout of an image that isn't refused: its partitions and its tables lie apart and within it.
use Rattle.std.specs.Prelude.{◌≡◌, ℕ, ◌+◌, ◌≤◌, List, [], All, IsTrue, Bool, None, length, slice_index_or}
use Rattle.std.specs.Option.{option_or}
use Rattle.std.proofs.Common.{refl, arith}
use Rattle.std.proofs.lemmas.List.Elements.{All-weaker}
use Rattle.base_fields.proofs.PartBytes.{part_byte-none}
use Rattle.image_layout.specs.IsLayout.{LiesApart}
use Rattle.image_layout.specs.Layout.{is_claimed, table_byte}
use Rattle.image_layout.specs.declared.layout.Placed.{Placed}
use Rattle.image_specs.specs.declared.specs.ImageSpec.{ImageSpec}
use Rattle.placement.specs.Layouts.{image_size, layout_in, parts_from, wholes_as}
use Rattle.placement.specs.Said.{image_first, image_last, name_at, named, partition_fault}
use Rattle.placement_rules.specs.Faults.{first_fault}
use Rattle.placement_rules.specs.Frames.{backup_len, frame_of}
use Rattle.placement_rules.specs.Places.{Stood, end_of, stood}
use Rattle.placement_rules.specs.Terms.{names_of}
use Rattle.placement_rules.specs.declared.faults.PartFault.{PartFault}
use Rattle.placement_rules.specs.declared.terms.Frame.{Frame}
use Rattle.placement_apart.specs.Apart.{IsSpread, PlacedLiesApart}
use Rattle.placement_apart.proofs.Claims.{IsClean, all_clean}
use Rattle.placement_apart.proofs.Clear.{IsClear, all_clear, all_pass}
use Rattle.placement_apart.proofs.Frames.{IsFrame, frame_is}
use Rattle.placement_apart.proofs.Own.{IsSound, sound}
use Rattle.placement_apart.proofs.Parts.{claimed_by, claims_apart, no_more, parts_all, parts_are}
use Rattle.placement_apart.proofs.Sizes.{IsSized, full, is_sized}
use Rattle.placement_apart.proofs.Steps.{all_both, map_none, or_none}
use Rattle.placement_apart.proofs.Tables.{IsKnown, IsOne, tables_apart, tables_inside, tables_missed}
use Rattle.placement_apart.proofs.Terms.{AreSourced, IsStanding, few_stood, source_all, stand_all}

-- ---- what is known

known : (spec : ImageSpec) (frame : Frame) (ss : List Stood) → IsFrame frame.table frame.sector frame.front frame.entries_at → All (IsStanding frame) ss → image_first spec frame ≡ None → first_fault frame [] ss ≡ None → image_last spec frame ss ≡ None → IsKnown frame ss
known spec frame ss is stands before none behind = record {
  frame_is = is;
  sized = is_sized spec frame ss is.sector before behind;
  sound = all_both (IsStanding frame) (IsClear frame) (IsSound frame.table frame.sector frame.entries_at)
      (λ s stands clear. sound frame s is.narrow stands clear) ss stands (all_clear frame ss none);
  passes = all_pass frame ss none;
}

-- ---- the layout

across : (spec : ImageSpec) (frame : Frame) (ss : List Stood) → IsKnown frame ss → All (λ (p : Placed). (o : ℕ) → IsTrue (is_claimed p o) → table_byte (layout_in spec frame ss) o ≡ None) (layout_in spec frame ss).parts
across spec frame ss known =
    let clean : All (λ s. All (IsClean s) ss) ss =
    all_clean frame.table frame.sector frame.entries_at ss known.sound known.passes in
    parts_all (λ (p : Placed). (o : ℕ) → IsTrue (is_claimed p o) → table_byte (layout_in spec frame ss) o ≡ None)
    (names_of spec) spec.sources (wholes_as spec.kind spec.keys.parts) ss
    (λ k d inside name source whole o claimed.
    let s : Stood = slice_index_or ss k d in
    let one : IsOne frame ss s =
    record { sound = known.sound k d inside; clean = clean k d inside; ends = known.sized.ends k d inside } in
    part_byte-none _ o
    (tables_missed frame.table spec frame ss s o refl known one (claimed_by name source whole s o claimed)))

apart : (spec : ImageSpec) (frame : Frame) (ss : List Stood) → IsKnown frame ss → LiesApart (layout_in spec frame ss)
apart spec frame ss known = record {
  claims = claims_apart (names_of spec) spec.sources (wholes_as spec.kind spec.keys.parts) ss known.passes;
  tables = tables_apart frame.table spec frame ss refl known;
  across = across spec frame ss known;
}

ends_inside : (frame : Frame) (ss : List Stood) → IsSized frame ss → All (λ s. end_of s ≤ image_size frame ss) ss
ends_inside frame ss sized =
    let needs : full frame ss + backup_len frame ≤ image_size frame ss = sized.needs in
    All-weaker (λ s. end_of s ≤ full frame ss) (λ s. end_of s ≤ image_size frame ss) (λ s h. omega arith) ss sized.ends

spread : (spec : ImageSpec) (frame : Frame) (ss : List Stood) → IsKnown frame ss → AreSourced spec.sources ss → length ss ≤ 256 → IsSpread (layout_in spec frame ss)
spread spec frame ss known sourced few =
    let names : List (List ℕ) = names_of spec in
    let wholes : List Bool = wholes_as spec.kind spec.keys.parts in
    let most : length (parts_from names spec.sources wholes ss) ≤ length ss = no_more names spec.sources wholes ss in
    record {
      size = known.sized.small;
      sector = known.frame_is.sector;
      few = omega arith;
      parts = parts_are frame.table frame.sector frame.entries_at (image_size frame ss) names spec.sources wholes ss
          known.sound (ends_inside frame ss known.sized) sourced;
      inside = tables_inside frame.table spec frame ss refl known;
      apart = apart spec frame ss known;
    }

-- ---- the law

pub placed_lies_apart : PlacedLiesApart
placed_lies_apart spec lens is lengths none =
    let frame : Frame = frame_of spec in
    let ss : List Stood = stood spec lens in
    let first =
    or_none (image_first spec frame) (option_or (partition_fault spec frame ss) (image_last spec frame ss)) none in
    let second = or_none (partition_fault spec frame ss) (image_last spec frame ss) first.1 in
    let faultless : first_fault frame [] ss ≡ None =
    map_none (λ (found : ℕ × PartFault). named (names_of spec) (name_at (names_of spec) found.0) found.1)
    (first_fault frame [] ss) second.0 in
    let framed : IsFrame frame.table frame.sector frame.front frame.entries_at = frame_is spec is.within.hd in
    let stands : All (IsStanding frame) ss =
    stand_all spec.kind spec frame lens refl is.within.hd.align is.within.parts in
    let all : IsKnown frame ss = known spec frame ss framed stands first.0 faultless second.1 in
    spread spec frame ss all
    (source_all spec.kind spec frame spec.sources lens lengths)
    (few_stood spec.kind spec frame lens is.few)
