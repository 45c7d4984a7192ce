-- The tables of an image that is placed, each kind by itself.
use Rattle.std.specs.Prelude.{◌≡◌, ◌≢◌, ℕ, ◌*◌, ◌/◌, ◌≤◌, List, [], ◌∷◌, Option, Some, None, All, length, unwrap_or}
use Rattle.std.specs.List.{AllByRecursion}
use Rattle.std.proofs.Common.{refl, ap, sym, subst, arith, inl, inr, ◌∙◌}
use Rattle.std.proofs.lemmas.List.Elements.{All-from_recursion}
use Rattle.base_fields.specs.declared.spans.TableKind.TheVariants as table
use Rattle.conf_keys.specs.Within.{IsImageWithin, IsSectorSize}
use Rattle.conf_keys.specs.declared.conf.PartitionSection.{PartitionSection}
use Rattle.extended_chain.specs.declared.chain.LogicalSpec.{LogicalSpec}
use Rattle.extended_chain.specs.Chain.{start_of}
use Rattle.extended_chain.specs.Extended.{greatest_end}
use Rattle.hybrid_table.specs.Hybrid.{HybridFits, hybrid_spec}
use Rattle.image_layout.specs.IsLayout.{IsBare, IsChain, IsTabled, extended_slot}
use Rattle.image_specs.specs.Identifiers.{HasIdentifiers}
use Rattle.image_specs.specs.declared.specs.ImageSpec.{ImageSpec}
use Rattle.mbr_table.specs.Mbr.{HasLast, no_entry}
use Rattle.mbr_table.specs.Reading.{EntryFits}
use Rattle.placement.specs.Layouts.{hybrid_entries, layout_in, logical_specs, mbr_spec, primary_entries, slots}
use Rattle.placement.specs.Said.{extended_start, in_extended}
use Rattle.placement_rules.specs.Frames.{frame_as}
use Rattle.placement_rules.specs.Places.{Stood}
use Rattle.table_entries.specs.Entries.{logical_spec_of, mbr_entry_of}
use Rattle.placement_tables.proofs.Accepted.{IsAccepted}
use Rattle.placement_tables.proofs.Chain.{Rise, StartsAt, all_rise, ends_at, extended_fits, extended_last, extended_some, starts_at}
use Rattle.placement_tables.proofs.Counts.{logical_more, narrow_few, primary_few, primary_three}
use Rattle.placement_tables.proofs.Entries.{entries_all, entries_few}
use Rattle.placement_tables.proofs.Guid.{IsGuidFrame, is_guid, same_front}
use Rattle.placement_tables.proofs.Recorded.{IsNarrow, all_narrow, all_recorded, filled_entry, filled_last}
use Rattle.placement_tables.proofs.Slots.{is_chain, primaries_beside, primaries_fit, primaries_last, slots_fit, slots_last}
use Rattle.placement_tables.proofs.Sound.{Stand, fitting}

-- ---- none

pub is_bare : (spec : ImageSpec) (ss : List Stood) → IsBare (layout_in spec (frame_as spec table.Bare) ss)
is_bare spec ss = record { mbr = refl; gpt = refl; logical = refl; hybrid = refl }

-- ---- a master boot record

begun :
    (ss : List Stood) (start : Option ℕ) (s : LogicalSpec) (specs : List LogicalSpec) → StartsAt start (s ∷ specs)
    → in_extended ss start ≡ None → in_extended ss (Some (512 * start_of (s ∷ specs))) ≡ None
begun ss None s specs h free = absurd (cc)
begun ss (Some start) s specs h free = rw h free

few_primaries :
    (spec : ImageSpec) (ss : List Stood) (s : LogicalSpec) (specs : List LogicalSpec)
    → spec.keys.hd.extended_partition ≤ 4 → Stand spec table.Mbr [] [] spec.keys.parts ss
    → logical_specs spec.keys.parts ss ≡ s ∷ specs → length (primary_entries spec.keys.parts ss) ≤ 3
few_primaries spec ss s specs key stand same =
    let few = primary_few (λ part s. mbr_entry_of part s.place.at s.place.size) spec [] [] spec.keys.parts ss stand in
    elim (logical_more (λ part s. logical_spec_of part (unwrap_or s.place.head 0) s.place.at s.place.size) spec [] []
    spec.keys.parts ss stand) [
      | inl none ↦ let empty : [] ≡ s ∷ specs = sym none ∙ same in absurd (cc)
      | inr more ↦ let three = primary_three spec key (omega arith) in omega (arith, few, three)
    ]

-- the chain of these logical partitions, of which there is one
chained :
    (spec : ImageSpec) (ss : List Stood) (logical : List LogicalSpec) → (frame_as spec table.Mbr).sector ≡ 512
    → spec.keys.hd.extended_partition ≤ 4 → length spec.keys.parts ≤ 256
    → Stand spec table.Mbr [] [] spec.keys.parts ss → IsAccepted spec (frame_as spec table.Mbr) ss
    → logical_specs spec.keys.parts ss ≡ logical → logical ≢ []
    → IsChain (mbr_spec spec (slots (primary_entries spec.keys.parts ss) logical)) logical
    (extended_slot (mbr_spec spec (slots (primary_entries spec.keys.parts ss) logical)) logical)
chained spec ss [] z key few stand accepted same some = absurd (some refl)
chained spec ss (s ∷ specs) z key few stand accepted same some =
    let parts = spec.keys.parts in
    let recorded = all_recorded spec [] [] parts ss z stand in
    let rise : Rise 1 (s ∷ specs) =
    subst (λ (xs : List LogicalSpec). Rise 1 xs) same (all_rise spec [] [] parts ss z stand) in
    let starts : StartsAt (extended_start ss) (s ∷ specs) =
    subst (λ (xs : List LogicalSpec). StartsAt (extended_start ss) xs) same (starts_at parts ss recorded) in
    let ends = ap (λ (xs : List LogicalSpec). 512 * greatest_end xs) (sym same) ∙ ends_at parts ss recorded in
    let count : length (s ∷ specs) ≤ length parts =
    subst (λ (xs : List LogicalSpec). length xs ≤ length parts) same
    (entries_few (λ s. s.terms.logical)
    (λ part s. logical_spec_of part (unwrap_or s.place.head 0) s.place.at s.place.size) parts ss) in
    is_chain spec (primary_entries parts ss) 1 s specs (few_primaries spec ss s specs key stand same)
    (primaries_beside parts ss (s ∷ specs) recorded (extended_some 1 s specs rise)
    (begun ss (extended_start ss) s specs starts accepted.extended) ends)
    (omega (arith, count, few)) (omega arith) rise

pub is_mbr :
    (spec : ImageSpec) (ss : List Stood) → (frame_as spec table.Mbr).sector ≡ 512 → IsImageWithin spec.keys
    → length spec.keys.parts ≤ 256 → Stand spec table.Mbr [] [] spec.keys.parts ss
    → IsAccepted spec (frame_as spec table.Mbr) ss → IsTabled table.Mbr (layout_in spec (frame_as spec table.Mbr) ss)
is_mbr spec ss z within few stand accepted =
    let parts = spec.keys.parts in
    let recorded = all_recorded spec [] [] parts ss z stand in
    let rise : Rise 1 (logical_specs parts ss) = all_rise spec [] [] parts ss z stand in
    record {
      fits =
          slots_fit spec (primary_entries parts ss) (logical_specs parts ss) within.hd.disk_signature
          (primaries_fit parts ss recorded)
          (extended_fits 1 (logical_specs parts ss) (omega arith) rise);
      last =
          slots_last (primary_entries parts ss) (logical_specs parts ss) (primaries_last parts ss recorded)
          (extended_last 1 (logical_specs parts ss) (omega arith) rise);
      sector = z;
      gpt = refl;
      hybrid = refl;
      chain = λ some.
          chained spec ss (logical_specs parts ss) z within.hd.extended_partition few stand accepted refl some;
    }

-- ---- a GUID partition table

pub is_gpt :
    (spec : ImageSpec) (ss : List Stood) → (frame_as spec table.Gpt).sector ≡ spec.keys.hd.sector_size
    → IsSectorSize table.Gpt spec.keys.hd.sector_size → IsImageWithin spec.keys → HasIdentifiers spec.keys
    → Stand spec table.Gpt [] [] spec.keys.parts ss → IsAccepted spec (frame_as spec table.Gpt) ss
    → IsTabled table.Gpt (layout_in spec (frame_as spec table.Gpt) ss)
is_gpt spec ss z size within identifiers stand accepted =
    let frame : IsGuidFrame (frame_as spec table.Gpt) = record {
      sector = rw z size;
      step = refl;
      front = rw z refl;
      behind = rw z within.hd.gpt_location.0;
    } in
    record {
      guid =
          is_guid spec table.Gpt ss frame refl refl identifiers (fitting spec table.Gpt [] [] spec.keys.parts ss stand)
          accepted refl;
      signature = within.hd.disk_signature;
      entries = refl;
      hybrid = refl;
    }

-- ---- a hybrid

hybrid_fits :
    (spec : ImageSpec) (ss : List Stood) → (frame_as spec table.Hybrid).sector ≡ 512 → IsImageWithin spec.keys
    → Stand spec table.Hybrid [] [] spec.keys.parts ss
    → HybridFits spec.keys.hd.disk_signature (hybrid_entries spec.keys.parts ss) × All (HasLast 0)
    (hybrid_entries spec.keys.parts ss)
hybrid_fits spec ss z within stand =
    let parts = spec.keys.parts in
    let narrow = all_narrow spec [] [] parts ss z stand in
    let entry = λ (part : PartitionSection) (s : Stood). mbr_entry_of part s.place.at s.place.size in
    let fit : AllByRecursion EntryFits (hybrid_entries parts ss) =
    entries_all EntryFits IsNarrow (λ s. s.terms.narrow) entry parts ss narrow
    (λ part s is here. filled_entry part s is.within (is.filled here)) in
    let last : AllByRecursion (HasLast 0) (hybrid_entries parts ss) =
    entries_all (HasLast 0) IsNarrow (λ s. s.terms.narrow) entry parts ss narrow
    (λ part s is here. filled_last part s (is.filled here)) in (
      record {
        few = narrow_few entry spec [] [] parts ss stand;
        signature_fits = within.hd.disk_signature;
        entries = λ k inside. All-from_recursion EntryFits (hybrid_entries parts ss) fit k no_entry inside;
      },
      All-from_recursion (HasLast 0) (hybrid_entries parts ss) last,
    )

pub is_hybrid :
    (spec : ImageSpec) (ss : List Stood) → (frame_as spec table.Hybrid).sector ≡ spec.keys.hd.sector_size
    → IsSectorSize table.Hybrid spec.keys.hd.sector_size → IsImageWithin spec.keys → HasIdentifiers spec.keys
    → Stand spec table.Hybrid [] [] spec.keys.parts ss → IsAccepted spec (frame_as spec table.Hybrid) ss
    → IsTabled table.Hybrid (layout_in spec (frame_as spec table.Hybrid) ss)
is_hybrid spec ss z size within identifiers stand accepted =
    let small : (frame_as spec table.Hybrid).sector ≡ 512 = z ∙ size in
    let frame : IsGuidFrame (frame_as spec table.Hybrid) = record {
      sector = inl small;
      step = refl;
      front = rw z refl;
      behind = rw z within.hd.gpt_location.0;
    } in
    let fits = hybrid_fits spec ss small within stand in
    let parts = spec.keys.parts in
    record {
      guid =
          is_guid spec table.Hybrid ss frame refl refl identifiers (fitting spec table.Hybrid [] [] parts ss stand)
          accepted refl;
      sector = small;
      fits = fits.0;
      last = fits.1;
      entries =
          ap (λ (front : ℕ). hybrid_spec spec.keys.hd.disk_signature (front / 512) (hybrid_entries parts ss))
          (same_front spec table.Hybrid ss frame refl accepted);
    }
