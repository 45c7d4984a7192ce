-- The GUID partition table of an image that is placed.
use Rattle.std.specs.Prelude.{◌≡◌, ℕ, ◌+◌, ◌*◌, ◌≤◌, ◌⊎◌, max, Bool, true, false, ◌&&◌, nat_lt, if◌then◌else◌, List, [], ◌∷◌, All, length, map}
use Rattle.std.specs.List.{AllZip}
use Rattle.std.proofs.Common.{refl, sym, subst, arith, inl, inr, ◌∙◌}
use Rattle.std.proofs.lemmas.Bool.{ltb-false}
use Rattle.std.proofs.lemmas.List.Elements.{All-from_recursion}
use Rattle.std.proofs.lemmas.Nat.Gcd.{dvd-zero, mod-eq-zero_of_dvd}
use native.Mathlib.Nat.{dvd-add, dvd-mul_left}
use Prim.Native.Nat.{◌∣◌}
use Rattle.base_fields.specs.declared.spans.TableKind.{TableKind}
use Rattle.gpt_table.specs.Gpt.{EntryFits, GptFits, front_end, no_entry}
use Rattle.gpt_table.specs.declared.entry.GptEntry.{GptEntry}
use Rattle.image_layout.specs.IsLayout.{IsGuid}
use Rattle.image_specs.specs.Identifiers.{HasIdentifiers}
use Rattle.image_specs.specs.declared.specs.ImageSpec.{ImageSpec}
use Rattle.placement.specs.Layouts.{guid_entries, guid_spec, image_size, layout_in, needs_of}
use Rattle.placement_rules.specs.Frames.{backup_len, frame_as, has_guid, has_table}
use Rattle.placement_rules.specs.Places.{Stood, end_of, greatest, least_multiple}
use Rattle.placement_rules.specs.Terms.{in_tables}
use Rattle.placement_rules.specs.declared.terms.Frame.{Frame}
use Rattle.table_entries.proofs.Fits.{gpt_entry_fits, length-disk_id}
use Rattle.table_entries.specs.Entries.{gpt_entry_of}
use Rattle.placement_tables.proofs.Accepted.{IsAccepted}
use Rattle.placement_tables.proofs.Entries.{entries_all, tabled_count}
use Rattle.placement_tables.proofs.GuidNumbers.{HasRoomFor, guid_numbers}
use Rattle.placement_tables.proofs.Refusals.{provided_none}
use Rattle.placement_tables.proofs.Sound.{IsFitting}
use Rattle.placement_tables.proofs.Standing.{chosen}

-- the frame of an image with a GUID partition table
pub record IsGuidFrame (frame : Frame) : Type 0 where
  pub sector : (frame.sector ≡ 512) ⊎ (frame.sector ≡ 4096)
  pub step : (if has_table frame.table then frame.sector else 1) ≡ frame.sector
  pub front : frame.front ≡ max (2 * frame.sector) (frame.entries_at + 16384)
  pub behind : 2 * frame.sector ≤ frame.entries_at

-- ---- the size

even_backup : (frame : Frame) → (frame.sector ≡ 512) ⊎ (frame.sector ≡ 4096) → frame.sector ∣ backup_len frame
even_backup frame sector = even frame.sector frame.backup sector
  where
    even : (z : ℕ) (backup : Bool) → (z ≡ 512) ⊎ (z ≡ 4096) → z ∣ (if backup then z + 16384 else 0)
    even z true (inl e) = rw e (dvd-mul_left 512 33)
    even z true (inr e) = rw e (dvd-mul_left 4096 5)
    even z false h = dvd-zero z

even_needs : (frame : Frame) (ss : List Stood) → IsGuidFrame frame → frame.sector ∣ needs_of frame ss
even_needs frame ss is =
    dvd-add frame.sector
    (subst (λ (z : ℕ). frame.sector ∣ least_multiple z (greatest (frame.front ∷ map end_of ss))) (sym is.step)
    (dvd-mul_left frame.sector _))
    (even_backup frame is.sector)

-- a multiple that isn't below
not_below : (z n : ℕ) → (z ≡ 512) ⊎ (z ≡ 4096) → n ≤ least_multiple z n
not_below z n (inl e) = rw e (omega arith)
not_below z n (inr e) = rw e (omega arith)

front_needed :
    (frame : Frame) (ss : List Stood) → IsGuidFrame frame → frame.front + backup_len frame ≤ needs_of frame ss
front_needed frame ss is =
    let most = greatest (frame.front ∷ map end_of ss) in
    let above : most ≤ least_multiple frame.sector most = not_below frame.sector most is.sector in
    let stepped : most ≤ least_multiple (if has_table frame.table then frame.sector else 1) most =
    subst (λ (z : ℕ). most ≤ least_multiple z most) (sym is.step) above in
    let first : frame.front ≤ most = omega arith in
    omega (arith, stepped, first)

pub has_room :
    (spec : ImageSpec) (frame : Frame) (ss : List Stood) → IsGuidFrame frame → has_table frame.table ≡ true
    → IsAccepted spec frame ss → HasRoomFor frame.sector frame.entries_at (image_size frame ss) frame.backup
has_room spec frame ss is table accepted =
    let needed = front_needed frame ss is in
    let front = is.front in
    record {
      even_at = mod-eq-zero_of_dvd frame.sector (accepted.even_entries table);
      even =
          mod-eq-zero_of_dvd frame.sector
          (chosen (λ n. frame.sector ∣ n) frame.size (needs_of frame ss) (accepted.even_size table)
          (even_needs frame ss is));
      behind = is.behind;
      most = accepted.size;
      front = rw (← front) (omega (arith, needed, accepted.needs));
      back = λ is.
          let whole : backup_len frame ≡ frame.sector + 16384 = rw is refl in
          rw (← front) (omega (arith, needed, accepted.needs, whole));
    }

-- ---- the table

few_entries :
    (entries : List GptEntry) (guid : Bool) (count : ℕ) → length entries ≡ count → guid ≡ true
    → (guid && nat_lt 128 count) ≡ false → length entries ≤ 128
few_entries entries true count same is h = let few = ltb-false 128 count h in omega arith
few_entries entries false count same is h = absurd (cc)

entries_fit :
    (spec : ImageSpec) (t : TableKind) (ss : List Stood) → AllZip (IsFitting spec t) spec.keys.parts ss
    → All EntryFits (guid_entries spec (frame_as spec t) ss)
entries_fit spec t ss fitting =
    All-from_recursion EntryFits (guid_entries spec (frame_as spec t) ss)
    (entries_all EntryFits (IsFitting spec t) (λ s. s.terms.tabled)
    (λ part s. gpt_entry_of spec.name part s.place.at s.place.size (frame_as spec t).sector) spec.keys.parts ss fitting
    (λ part s is tabled.
    let far = is.stands.far in
    gpt_entry_fits spec.name part s.place.at s.place.size (frame_as spec t).sector is.within is.identifiers.own
    is.identifiers.kind (omega arith)))

pub is_guid :
    (spec : ImageSpec) (t : TableKind) (ss : List Stood) → IsGuidFrame (frame_as spec t) → has_table t ≡ true
    → has_guid t ≡ true → HasIdentifiers spec.keys → AllZip (IsFitting spec t) spec.keys.parts ss
    → IsAccepted spec (frame_as spec t) ss → (layout_in spec (frame_as spec t) ss).logical ≡ []
    → IsGuid (layout_in spec (frame_as spec t) ss) (guid_spec spec (frame_as spec t) ss)
is_guid spec t ss frame table guid identifiers fitting accepted none =
    let f = frame_as spec t in
    let n =
    guid_numbers f.sector f.entries_at (image_size f ss) f.backup frame.sector
    (has_room spec f ss frame table accepted) in
    let g = guid_spec spec f ss in
    let fits : GptFits g = record {
      sector = frame.sector;
      disk = length-disk_id spec.name spec.keys.hd identifiers.disk;
      least = n.least;
      last = n.last;
      entries_at = n.entries_at;
      has_entries = n.has_entries;
      usable = n.usable;
      few =
          few_entries (guid_entries spec f ss) (has_guid t) (length (in_tables t spec.keys.parts))
          (tabled_count _ spec t spec.keys.parts ss fitting) guid (provided_none _ _ accepted.entries);
      entries = λ k inside. entries_fit spec t ss fitting k no_entry inside;
    } in
    record {
      fits = fits;
      apart = record { front = n.front; back = n.back };
      room = n.room;
      sector = refl;
      size = n.size;
      logical = none;
    }

pub same_front :
    (spec : ImageSpec) (t : TableKind) (ss : List Stood) → IsGuidFrame (frame_as spec t) → has_table t ≡ true
    → IsAccepted spec (frame_as spec t) ss → (frame_as spec t).front ≡ front_end (guid_spec spec (frame_as spec t) ss)
same_front spec t ss frame table accepted =
    let f = frame_as spec t in
    let n =
    guid_numbers f.sector f.entries_at (image_size f ss) f.backup frame.sector
    (has_room spec f ss frame table accepted) in
    frame.front ∙ sym n.front_end
