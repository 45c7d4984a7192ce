-- The tables of a layout: they lie apart, within the image, and where no partition claims an offset.
use Rattle.std.specs.Prelude.{◌≡◌, ℕ, ◌+◌, ◌*◌, ◌/◌, ◌<◌, ◌≤◌, List, [], ◌∷◌, ◌++◌, All, AllPairs, true, None, Some, slice_index_or, if◌then◌else◌}
use Rattle.std.proofs.Common.{ap, arith}
use Rattle.std.proofs.lemmas.List.Elements.{All-append, All-cons, All-nil, All-weaker}
use Rattle.std.proofs.lemmas.List.Kept.{AllPairs-cons}
use Rattle.base_fields.specs.Parts.{AreApart, IsIn, LieApart, Part, fields_part}
use Rattle.base_fields.specs.declared.spans.TableKind.{TableKind}
use Rattle.base_fields.specs.declared.spans.TableKind.TheVariants as table
use Rattle.base_fields.proofs.PartBytes.{apart_both}
use Rattle.extended_chain.specs.Chain.{chain_parts, start_of}
use Rattle.gpt_table.specs.Gpt.{back_entries_at, last_sector}
use Rattle.gpt_table.specs.GptParts.{gpt_parts}
use Rattle.gpt_table.specs.declared.table.GptSpec.{GptSpec}
use Rattle.mbr_table.specs.Mbr.{mbr_fields, mbr_parts, no_entry, protective}
use Rattle.mbr_table.specs.declared.mbr.MbrSpec.{MbrSpec}
use Rattle.hybrid_table.specs.Hybrid.{hybrid_spec}
use Rattle.image_layout.specs.Layout.{guid_parts_of, record_parts_of}
use Rattle.image_specs.specs.declared.specs.ImageSpec.{ImageSpec}
use Rattle.placement.specs.Layouts.{guid_spec, hybrid_entries, image_size, logical_for, logical_specs, mbr_for, mbr_spec, primary_entries, slots}
use Rattle.placement_rules.specs.Claims.{claims, in_run}
use Rattle.placement_rules.specs.Frames.{backup_len, entries_len, has_guid, has_table}
use Rattle.placement_rules.specs.Places.{Stood, end_of}
use Rattle.placement_rules.specs.declared.terms.Frame.{Frame}
use Rattle.placement_apart.proofs.Claims.{IsClean, claim_inside, claim_misses, in_run_true, record_misses}
use Rattle.placement_apart.proofs.Clear.{Passes}
use Rattle.placement_apart.proofs.Frames.{IsFrame}
use Rattle.placement_apart.proofs.Guid.{IsAt, IsBack, guid_all, guid_apart, guid_at, guid_inside}
use Rattle.placement_apart.proofs.Own.{IsSound, record_at}
use Rattle.placement_apart.proofs.Records.{records_all, records_apart}
use Rattle.placement_apart.proofs.Sizes.{IsSized, full}
use Rattle.placement_apart.proofs.Steps.{all_both}

-- the parts of the tables of one kind
abbrev pub tables_as : TableKind → ImageSpec → Frame → List Stood → List Part
tables_as t spec frame ss =
    record_parts_of (mbr_for t spec frame ss)
    ++ chain_parts (logical_for t spec ss)
    ++ guid_parts_of (if has_guid t then Some (guid_spec spec frame ss) else None)

-- what is known of an image and its partitions
pub record IsKnown (frame : Frame) (ss : List Stood) : Type 0 where
  pub frame_is : IsFrame frame.table frame.sector frame.front frame.entries_at
  pub sized : IsSized frame ss
  pub sound : All (IsSound frame.table frame.sector frame.entries_at) ss
  pub passes : AllPairs Passes ss

-- an offset that is none of so many bytes from a place on
abbrev pub Misses : ℕ → ℕ → ℕ → Type 0
Misses o at len = ¬ ((at ≤ o) × (o < at + len))

-- the part of a master boot record
abbrev record_of : MbrSpec → Part
record_of m = fields_part 0 440 512 (mbr_fields m)

none_apart : AreApart []
none_apart i j d order inside = absurd (omega arith)

-- ---- a master boot record and a chain

abbrev mbr_of : ImageSpec → List Stood → MbrSpec
mbr_of spec ss = mbr_spec spec (slots (primary_entries spec.keys.parts ss) (logical_specs spec.keys.parts ss))

abbrev chain_of : ImageSpec → List Stood → List Part
chain_of spec ss = chain_parts (logical_specs spec.keys.parts ss)

abbrev start : ImageSpec → List Stood → ℕ
start spec ss = start_of (logical_specs spec.keys.parts ss)

-- no byte of the master boot record is in the record of a logical partition
front_misses : (t : TableKind) (z entries_at : ℕ) (s : Stood) → has_table t ≡ true → IsSound t z entries_at s → s.terms.logical ≡ true → (o : ℕ) → (440 ≤ o) × (o < 440 + 72) → Misses o (record_at s) 512
front_misses t z entries_at s has is logical o within second =
    record_misses s (in_run 440 72) o (is.mbr has) (is.head logical) second.0 second.1
    (in_run_true 440 72 o within.0 within.1)

chain_apart : (spec : ImageSpec) (frame : Frame) (ss : List Stood) → has_table frame.table ≡ true → IsKnown frame ss → AreApart ((mbr_parts (mbr_of spec ss) ++ chain_of spec ss) ++ [])
chain_apart spec frame ss has known =
    let P : Stood → Type 0 = IsSound frame.table frame.sector frame.entries_at in
    let Q : ℕ → ℕ → Type 0 = λ at len. (o : ℕ) → (440 ≤ o) × (o < 440 + 72) → Misses o at len in
    let first : All (LieApart (record_of (mbr_of spec ss))) (chain_of spec ss) =
    records_all Q (start spec ss) spec.keys.parts ss
    (All-weaker P (λ s. s.terms.logical ≡ true → Q (record_at s) 512)
    (λ s is logical. front_misses frame.table frame.sector frame.entries_at s has is logical) ss known.sound) in
    let others : AreApart (chain_of spec ss) =
    records_apart frame.table frame.sector frame.entries_at
    (start spec ss) spec.keys.parts ss known.sound known.passes in
    apart_both (record_of (mbr_of spec ss) ∷ chain_of spec ss) []
    (AllPairs-cons LieApart (record_of (mbr_of spec ss)) (chain_of spec ss) first others)
    none_apart
    (λ k d inside. All-nil (LieApart (slice_index_or (record_of (mbr_of spec ss) ∷ chain_of spec ss) k d)))

-- what holds of each part, by its place and its length
chain_all : (Q : ℕ → ℕ → Type 0) (spec : ImageSpec) (ss : List Stood) → Q 440 72 → All (λ s. s.terms.logical ≡ true → Q (record_at s) 512) ss → All (λ (p : Part). Q p.at p.len) ((mbr_parts (mbr_of spec ss) ++ chain_of spec ss) ++ [])
chain_all Q spec ss first records =
    let P : Part → Type 0 = λ p. Q p.at p.len in
    All-append P (record_of (mbr_of spec ss) ∷ chain_of spec ss) []
    (All-cons P (record_of (mbr_of spec ss)) (chain_of spec ss) first
    (records_all Q (start spec ss) spec.keys.parts ss records))
    (All-nil P)

record_inside : (t : TableKind) (z entries_at end size : ℕ) (s : Stood) → end ≤ size → IsSound t z entries_at s → end_of s ≤ end → s.terms.logical ≡ true → record_at s + 512 ≤ size
record_inside t z entries_at end size s low is ends logical =
    let ahead : record_at s + 512 ≤ s.place.at = (is.head logical).ahead in omega arith

end_inside : (frame : Frame) (ss : List Stood) → IsSized frame ss → full frame ss ≤ image_size frame ss
end_inside frame ss sized =
    let needs : full frame ss + backup_len frame ≤ image_size frame ss = sized.needs in omega arith

chain_inside : (spec : ImageSpec) (frame : Frame) (ss : List Stood) → has_table frame.table ≡ true → IsKnown frame ss → All (λ (p : Part). p.at + p.len ≤ image_size frame ss) ((mbr_parts (mbr_of spec ss) ++ chain_of spec ss) ++ [])
chain_inside spec frame ss has known =
    let size : ℕ = image_size frame ss in
    let end : ℕ = full frame ss in
    let inside : end ≤ size = end_inside frame ss known.sized in
    let low : 512 ≤ frame.front = known.frame_is.low has in
    let front : frame.front ≤ end = known.sized.front in
    chain_all (λ at len. at + len ≤ size) spec ss (omega arith)
    (all_both (IsSound frame.table frame.sector frame.entries_at) (λ s. end_of s ≤ end)
    (λ s. s.terms.logical ≡ true → record_at s + 512 ≤ size)
    (λ s is ends logical. record_inside frame.table frame.sector frame.entries_at end size s inside is ends logical) ss known.sound known.sized.ends)

-- ---- a claim

-- what is known of one partition of an image
pub record IsOne (frame : Frame) (ss : List Stood) (s : Stood) : Type 0 where
  pub sound : IsSound frame.table frame.sector frame.entries_at s
  pub clean : All (IsClean s) ss
  pub ends : end_of s ≤ full frame ss

mbr_missed : (frame : Frame) (ss : List Stood) (s : Stood) (o : ℕ) → has_table frame.table ≡ true → IsOne frame ss s → claims s o ≡ true → Misses o 440 72
mbr_missed frame ss s o has one claimed within =
    claim_misses s (in_run 440 72) o (one.sound.mbr has) claimed (in_run_true 440 72 o within.0 within.1)

chain_missed : (spec : ImageSpec) (frame : Frame) (ss : List Stood) (s : Stood) (o : ℕ) → has_table frame.table ≡ true → IsOne frame ss s → claims s o ≡ true → All (λ (p : Part). ¬ IsIn p o) ((mbr_parts (mbr_of spec ss) ++ chain_of spec ss) ++ [])
chain_missed spec frame ss s o has one claimed =
    chain_all (Misses o) spec ss (mbr_missed frame ss s o has one claimed)
    (All-weaker (IsClean s) (λ r. r.terms.logical ≡ true → Misses o (record_at r) 512)
    (λ r clean logical within. clean o claimed logical within.0 within.1) ss one.clean)

entries_run : (at same o : ℕ) → at ≡ same → (at ≤ o) × (o < at + 16384) → in_run same entries_len o ≡ true
entries_run at same o e within =
    let low : at ≤ o = within.0 in
    let high : o < at + 16384 = within.1 in
    in_run_true same entries_len o (omega arith) (omega arith)

backup_missed : (g : GptSpec) (entries_at end size o : ℕ) → IsAt g entries_at end size → o < end → g.backup ≡ true → Misses o (back_entries_at g * g.sector) 16384 × Misses o (last_sector g * g.sector) g.sector
backup_missed g entries_at end size o is below b =
    let back : IsBack g size = is.back b in
    let behind : end + (g.sector + 16384) ≤ size = is.behind b in
    let first : back_entries_at g * g.sector + 16384 + g.sector ≡ size = back.entries in
    let last : last_sector g * g.sector + g.sector ≡ size = back.header in (
      λ within. let low : back_entries_at g * g.sector ≤ o = within.0 in absurd (omega arith),
      λ within. let low : last_sector g * g.sector ≤ o = within.0 in absurd (omega arith),
    )

guid_missed : (m : MbrSpec) (spec : ImageSpec) (frame : Frame) (ss : List Stood) (s : Stood) (o : ℕ) → has_guid frame.table ≡ true → has_table frame.table ≡ true → IsAt (guid_spec spec frame ss) frame.entries_at (full frame ss) (image_size frame ss) → IsOne frame ss s → claims s o ≡ true → All (λ (p : Part). ¬ IsIn p o) (mbr_parts m ++ gpt_parts (guid_spec spec frame ss))
guid_missed m spec frame ss s o guid has is one claimed =
    let g : GptSpec = guid_spec spec frame ss in
    let before : o < end_of s = (claim_inside s o claimed).1 in
    let ends : end_of s ≤ full frame ss = one.ends in
    let below : o < full frame ss = omega arith in
    guid_all (Misses o) m g
    (mbr_missed frame ss s o has one claimed)
    (λ within. claim_misses s (in_run frame.sector frame.sector) o (one.sound.header guid) claimed
    (in_run_true frame.sector frame.sector o within.0 within.1))
    (λ within. claim_misses s (in_run frame.entries_at entries_len) o (one.sound.entries guid) claimed
    (entries_run (g.entries_at * g.sector) frame.entries_at o is.entries within))
    (backup_missed g frame.entries_at (full frame ss) (image_size frame ss) o is below)

-- ---- by the kind of the table

-- the records beside a GUID partition table
abbrev protected_of : ImageSpec → Frame → List Stood → MbrSpec
protected_of spec frame ss =
    mbr_spec spec (protective (image_size frame ss / frame.sector) ∷ no_entry ∷ no_entry ∷ no_entry ∷ [])

abbrev hybrid_of : ImageSpec → Frame → List Stood → MbrSpec
hybrid_of spec frame ss =
    hybrid_spec spec.keys.hd.disk_signature (frame.front / 512) (hybrid_entries spec.keys.parts ss)

guid_known : (spec : ImageSpec) (frame : Frame) (ss : List Stood) → has_guid frame.table ≡ true → IsKnown frame ss → IsAt (guid_spec spec frame ss) frame.entries_at (full frame ss) (image_size frame ss)
guid_known spec frame ss guid known = guid_at spec frame ss known.frame_is known.sized guid

pub tables_apart : (t : TableKind) (spec : ImageSpec) (frame : Frame) (ss : List Stood) → frame.table ≡ t → IsKnown frame ss → AreApart (tables_as t spec frame ss)
tables_apart table.Bare spec frame ss same known = none_apart
tables_apart table.Mbr spec frame ss same known = chain_apart spec frame ss (ap has_table same) known
tables_apart table.Gpt spec frame ss same known =
    guid_apart (protected_of spec frame ss) (guid_spec spec frame ss) frame.entries_at (full frame ss)
    (image_size frame ss) (guid_known spec frame ss (ap has_guid same) known)
tables_apart table.Hybrid spec frame ss same known =
    guid_apart (hybrid_of spec frame ss) (guid_spec spec frame ss) frame.entries_at (full frame ss)
    (image_size frame ss) (guid_known spec frame ss (ap has_guid same) known)

pub tables_inside : (t : TableKind) (spec : ImageSpec) (frame : Frame) (ss : List Stood) → frame.table ≡ t → IsKnown frame ss → All (λ (p : Part). p.at + p.len ≤ image_size frame ss) (tables_as t spec frame ss)
tables_inside table.Bare spec frame ss same known = All-nil (λ (p : Part). p.at + p.len ≤ image_size frame ss)
tables_inside table.Mbr spec frame ss same known = chain_inside spec frame ss (ap has_table same) known
tables_inside table.Gpt spec frame ss same known =
    guid_inside (protected_of spec frame ss) (guid_spec spec frame ss) frame.entries_at (full frame ss)
    (image_size frame ss) (guid_known spec frame ss (ap has_guid same) known)
tables_inside table.Hybrid spec frame ss same known =
    guid_inside (hybrid_of spec frame ss) (guid_spec spec frame ss) frame.entries_at (full frame ss)
    (image_size frame ss) (guid_known spec frame ss (ap has_guid same) known)

pub tables_missed : (t : TableKind) (spec : ImageSpec) (frame : Frame) (ss : List Stood) (s : Stood) (o : ℕ) → frame.table ≡ t → IsKnown frame ss → IsOne frame ss s → claims s o ≡ true → All (λ (p : Part). ¬ IsIn p o) (tables_as t spec frame ss)
tables_missed table.Bare spec frame ss s o same known one claimed = All-nil (λ (p : Part). ¬ IsIn p o)
tables_missed table.Mbr spec frame ss s o same known one claimed =
    chain_missed spec frame ss s o (ap has_table same) one claimed
tables_missed table.Gpt spec frame ss s o same known one claimed =
    guid_missed (protected_of spec frame ss) spec frame ss s o (ap has_guid same) (ap has_table same)
    (guid_known spec frame ss (ap has_guid same) known) one claimed
tables_missed table.Hybrid spec frame ss s o same known one claimed =
    guid_missed (hybrid_of spec frame ss) spec frame ss s o (ap has_guid same) (ap has_table same)
    (guid_known spec frame ss (ap has_guid same) known) one claimed
