-- What stands in a master boot record or a boot record, in sectors of 512 bytes.
use Rattle.std.specs.Prelude.{◌≡◌, ℕ, ◌+◌, ◌/◌, ◌%◌, ◌^◌, ◌<◌, ◌≤◌, Bool, true, false, ◌&&◌, List, [], ◌∷◌, ◌++◌, Some, None}
use Rattle.std.specs.List.{AllZip}
use Rattle.std.proofs.Common.{sym, subst, arith, ◌∙◌}
use Rattle.std.proofs.lemmas.Bool.{and_parts, or_left}
use Rattle.std.proofs.lemmas.Nat.Gcd.{mod-eq-zero_of_dvd}
use Prim.Native.Nat.{◌∣◌}
use Rattle.base_fields.specs.declared.spans.TableKind.{TableKind}
use Rattle.base_fields.specs.declared.spans.TableKind.TheVariants as table
use Rattle.conf_keys.specs.Within.{IsPartitionWithin}
use Rattle.conf_keys.specs.declared.conf.PartitionSection.{PartitionSection}
use Rattle.image_specs.specs.declared.specs.ImageSpec.{ImageSpec}
use Rattle.mbr_table.specs.Mbr.{HasLast}
use Rattle.mbr_table.specs.Reading.{EntryFits}
use Rattle.placement_rules.specs.Frames.{frame_as}
use Rattle.placement_rules.specs.Places.{Stood, end_of}
use Rattle.placement_rules.specs.Terms.{in_table}
use Rattle.table_entries.proofs.Fits.{mbr_entry_fits, mbr_entry_has_last}
use Rattle.table_entries.specs.Entries.{mbr_entry_of}
use Rattle.placement_tables.proofs.Sound.{IsSound, Stand}
use Rattle.placement_tables.proofs.Standing.{IsStanding}

-- whole sectors, at least one, whose numbers are of 32 bits
pub record IsFilled (s : Stood) : Type 0 where
  pub at : s.place.at % 512 ≡ 0
  pub size : s.place.size % 512 ≡ 0
  pub some : 512 ≤ s.place.size
  pub end : end_of s / 512 ≤ 2 ^ 32
  pub count : s.place.size / 512 < 2 ^ 32

-- a logical partition with its record
pub record IsHeaded (s : Stood) : Type 0 where
  pub head : ℕ
  pub there : s.place.head ≡ Some head
  pub even : head % 512 ≡ 0
  pub ahead : head + 512 ≤ s.place.at
  pub filled : IsFilled s

pub record IsRecorded (part : PartitionSection) (s : Stood) : Type 0 where
  pub within : IsPartitionWithin part
  pub filled : s.terms.tabled ≡ true → IsFilled s
  pub led : s.terms.logical ≡ true → IsHeaded s
  pub unled : s.terms.logical ≡ false → s.place.head ≡ None

even_in : (z n : ℕ) → z ≡ 512 → z ∣ n → n % 512 ≡ 0
even_in z n e h = mod-eq-zero_of_dvd 512 (subst (λ (y : ℕ). y ∣ n) e h)

pub filled_where :
    (spec : ImageSpec) (t : TableKind) (s : Stood) → (frame_as spec t).sector ≡ 512 → IsStanding (frame_as spec t) s
    → s.terms.tabled ≡ true → s.terms.narrow ≡ true → IsFilled s
filled_where spec t s z stands tabled narrow =
    let even : s.place.size % 512 ≡ 0 = even_in _ s.place.size z (stands.size tabled) in
    let some : 0 < s.place.size = stands.some tabled in
    record {
      at = even_in _ s.place.at z (stands.at tabled);
      size = even;
      some = omega arith;
      end = stands.end narrow;
      count = stands.count narrow;
    }

-- ---- mbr

logical_tabled : (within more logical : Bool) → logical ≡ (within && more) → logical ≡ true → within ≡ true
logical_tabled within more logical same is = (and_parts within more (sym same ∙ is)).0

pub recorded :
    (spec : ImageSpec) (before : List PartitionSection) (done : List Stood) (part : PartitionSection) (s : Stood)
    → (frame_as spec table.Mbr).sector ≡ 512 → IsSound spec table.Mbr before done part s → IsRecorded part s
recorded spec before done part s z sound =
    let narrow = λ (tabled : s.terms.tabled ≡ true).
    sound.narrow ∙ or_left (in_table table.Mbr part) _ (sym sound.tabled ∙ tabled) in
    let filled =
    λ (tabled : s.terms.tabled ≡ true). filled_where spec table.Mbr s z sound.stands tabled (narrow tabled) in
    record {
      within = sound.within;
      filled = filled;
      led = λ is.
          let led = sound.stands.led is in
          let ahead = led.ahead in
          record {
            head = led.head;
            there = led.there;
            even = even_in _ led.head z led.even;
            ahead = subst (λ (y : ℕ). led.head + y ≤ s.place.at) z ahead;
            filled =
                filled (sound.tabled ∙ logical_tabled (in_table table.Mbr part) _ s.terms.logical sound.logical is);
          };
      unled = sound.stands.unled;
    }

pub all_recorded :
    (spec : ImageSpec) (before : List PartitionSection) (done : List Stood) (parts : List PartitionSection)
    (ss : List Stood) → (frame_as spec table.Mbr).sector ≡ 512 → Stand spec table.Mbr before done parts ss
    → AllZip IsRecorded parts ss
all_recorded spec before done [] [] z h = tt
all_recorded spec before done [] (s ∷ ss) z h = absurd h
all_recorded spec before done (part ∷ parts) [] z h = absurd h
all_recorded spec before done (part ∷ parts) (s ∷ ss) z h =
    (recorded spec before done part s z h.0, all_recorded spec (before ++ part ∷ []) (done ++ s ∷ []) parts ss z h.1)

-- ---- hybrid

pub record IsNarrow (part : PartitionSection) (s : Stood) : Type 0 where
  pub within : IsPartitionWithin part
  pub filled : s.terms.narrow ≡ true → IsFilled s

typed_tabled : (tabled typed more narrow : Bool) → narrow ≡ ((tabled && typed) && more) → narrow ≡ true → tabled ≡ true
typed_tabled tabled typed more narrow same is =
    (and_parts tabled typed (and_parts (tabled && typed) more (sym same ∙ is)).0).0

pub all_narrow :
    (spec : ImageSpec) (before : List PartitionSection) (done : List Stood) (parts : List PartitionSection)
    (ss : List Stood) → (frame_as spec table.Hybrid).sector ≡ 512 → Stand spec table.Hybrid before done parts ss
    → AllZip IsNarrow parts ss
all_narrow spec before done [] [] z h = tt
all_narrow spec before done [] (s ∷ ss) z h = absurd h
all_narrow spec before done (part ∷ parts) [] z h = absurd h
all_narrow spec before done (part ∷ parts) (s ∷ ss) z h = (
  record {
    within = h.0.within;
    filled = λ is.
        filled_where spec table.Hybrid s z h.0.stands
        (h.0.tabled ∙ typed_tabled (in_table table.Hybrid part) _ _ s.terms.narrow h.0.narrow is) is;
  },
  all_narrow spec (before ++ part ∷ []) (done ++ s ∷ []) parts ss z h.1,
)

-- ---- entries

pub filled_entry :
    (part : PartitionSection) (s : Stood) → IsPartitionWithin part → IsFilled s
    → EntryFits (mbr_entry_of part s.place.at s.place.size)
filled_entry part s within filled =
    let at = filled.at in
    let some = filled.some in
    let end = filled.end in
    mbr_entry_fits part s.place.at s.place.size within (omega arith) filled.count

pub filled_last :
    (part : PartitionSection) (s : Stood) → IsFilled s → HasLast 0 (mbr_entry_of part s.place.at s.place.size)
filled_last part s filled = mbr_entry_has_last 0 part s.place.at s.place.size filled.some
