-- The numbers of what the keys and a place give fit their fields.
use Rattle.std.specs.Prelude.{◌≡◌, ℕ, zero, suc, ◌+◌, ◌*◌, ◌/◌, ◌^◌, ◌<◌, ◌≤◌, List, [], ◌∷◌, ◌++◌, Bool, true, false, ◌&&◌, ◌==◌, Option, None, Some, IfSome, codes, length, slice_index, unwrap_or}
use Rattle.std.specs.Int.{to_be_bytes, w32}
use Rattle.std.specs.List.{list_all}
use Rattle.std.proofs.Common.{arith, lit<, lit≤, length-append, refl, ◌∙◌}
use Rattle.std.proofs.Math.Nat.{div-le_self}
use Rattle.std.proofs.lemmas.Bool.{and_parts}
use Rattle.std.proofs.lemmas.Bool.Decides.{nat_tests}
use Rattle.std.proofs.lemmas.List.{length-set, length-take-le}
use Rattle.sha1.specs.Sha1.{digest_bytes, sha1}
use Rattle.uuid.specs.Uuid.{namespace_url}
use Rattle.base_fields.proofs.Between.{between_gives}
use Rattle.base_fields.specs.Numbers.{IsBetween, is_between}
use Rattle.conf_keys.specs.Within.{IsPartitionWithin}
use Rattle.conf_keys.specs.declared.conf.HdKeys.{HdKeys}
use Rattle.conf_keys.specs.declared.conf.PartitionSection.{PartitionSection}
use Rattle.extended_chain.specs.ChainReading.{LogicalFits}
use Rattle.gpt_table.proofs.NameUnits.{length-name_units, name_units-fit}
use Rattle.gpt_table.specs.Flags.{attributes_of, bit}
use Rattle.gpt_table.specs.Gpt as gpt
use Rattle.gpt_table.specs.declared.flags.Flags.{Flags}
use Rattle.mbr_table.specs.Mbr.{HasLast, is_empty}
use Rattle.mbr_table.specs.Reading.{EntryFits}
use Rattle.mbr_table.specs.declared.mbr.MbrEntry.{MbrEntry}
use Rattle.table_entries.specs.Entries.{derived_id, disk_id, flags_of, gpt_entry_of, logical_spec_of, mbr_entry_of, mbr_kind, own_id}

-- ---- master boot records

kind_between : (kind : Option ℕ) → IfSome kind (IsBetween 1 255) → IsBetween 1 255 (unwrap_or kind 0x83)
kind_between None h = (lit≤ tt, lit≤ tt)
kind_between (Some n) h = h

pub mbr_kind_between : (part : PartitionSection) → IsPartitionWithin part → IsBetween 1 255 (mbr_kind part)
mbr_kind_between part within = kind_between part.partition_type within.partition_type

pub mbr_kind_fits : (part : PartitionSection) → IsPartitionWithin part → mbr_kind part < 2 ^ 8
mbr_kind_fits part within = let between = mbr_kind_between part within in omega (arith, between.1)

typed_is_used : (kind : ℕ) (first count : Bool) → 1 ≤ kind → ((kind == 0) && first && count) ≡ false
typed_is_used kind first count some =
    let typed : (kind == 0) ≡ false = grind (arith, nat_tests) in
    rw typed refl

-- the entry of a partition isn't empty, wherever it stands
pub mbr_entry_used :
    (part : PartitionSection) (at size : ℕ) → IsPartitionWithin part
    → is_empty (mbr_entry_of part at size) ≡ false
mbr_entry_used part at size within =
    typed_is_used (mbr_kind part) (at / 512 == 0) (size / 512 == 0) (mbr_kind_between part within).0

pub mbr_entry_fits :
    (part : PartitionSection) (at size : ℕ) → IsPartitionWithin part → at / 512 < 2 ^ 32 → size / 512 < 2 ^ 32
    → EntryFits (mbr_entry_of part at size)
mbr_entry_fits part at size within first count = record {
  kind = mbr_kind_fits part within;
  first = first;
  count = count;
  used = λ active. mbr_entry_used part at size within;
}

pub counted_has_last : (start : ℕ) (e : MbrEntry) → 0 < e.count → HasLast start e
counted_has_last start e some used = omega arith

pub mbr_entry_has_last :
    (start : ℕ) (part : PartitionSection) (at size : ℕ) → 512 ≤ size → HasLast start (mbr_entry_of part at size)
mbr_entry_has_last start part at size some used = omega arith

pub logical_spec_fits :
    (part : PartitionSection) (head at size : ℕ) → IsPartitionWithin part → head / 512 < 2 ^ 32
    → at / 512 < 2 ^ 32 → size / 512 < 2 ^ 32 → LogicalFits (logical_spec_of part head at size)
logical_spec_fits part head at size within before first count =
    record { kind = mbr_kind_fits part within; head = before; first = first; count = count }

-- ---- identifiers

word_long : (n : ℕ) → length (to_be_bytes w32 n) ≡ 4
word_long n = refl

length-digest_bytes : (h : List ℕ) (n : ℕ) → length (digest_bytes h n) ≡ 4 * n
unfolding digest_bytes
length-digest_bytes h zero = refl
length-digest_bytes h (suc n) =
    let front = length-digest_bytes h n in
    let word = word_long (slice_index h n) in
    omega (arith, length-append (digest_bytes h n) (to_be_bytes w32 (slice_index h n)))

sha1_long : (message : List ℕ) → length (sha1 message) ≡ 20
unfolding sha1
sha1_long message = length-digest_bytes _ 5

pub length-derived_id : (name : List ℕ) → length (derived_id name) ≡ 16
unfolding derived_id
length-derived_id name =
    let long = sha1_long (namespace_url ++ name) in
    length-set _ 6 _ ∙ length-set _ 8 _ ∙ length-take-le 16 (sha1 (namespace_url ++ name)) (omega arith)

id_long :
    (key : Option (List ℕ)) (name : List ℕ) → IfSome key (λ id. length id ≡ 16)
    → length (unwrap_or key (derived_id name)) ≡ 16
id_long None name h = length-derived_id name
id_long (Some id) name h = h

pub length-own_id :
    (image : List ℕ) (part : PartitionSection) → IfSome part.partition_uuid (λ id. length id ≡ 16)
    → length (own_id image part) ≡ 16
length-own_id image part h = id_long part.partition_uuid (codes "genflash:" ++ image ++ codes "#" ++ part.name) h

pub length-disk_id :
    (image : List ℕ) (hd : HdKeys) → IfSome hd.disk_uuid (λ id. length id ≡ 16) → length (disk_id image hd) ≡ 16
length-disk_id image hd h = id_long hd.disk_uuid (codes "genflash:" ++ image) h

-- ---- GUID partition tables

-- both tests of a name
name_tests :
    (part : PartitionSection) → IsPartitionWithin part
    → (is_between 1 36 (length part.name) ≡ true) × (list_all (is_between 32 126) part.name ≡ true)
name_tests part within =
    and_parts (is_between 1 36 (length part.name)) (list_all (is_between 32 126) part.name) within.name

pub name_is_short : (part : PartitionSection) → IsPartitionWithin part → length part.name ≤ 36
name_is_short part within = (between_gives 1 36 (length part.name) (name_tests part within).0).1

small_units : (text : List ℕ) → list_all (is_between 32 126) text ≡ true → (i : ℕ) → slice_index text i < 2 ^ 16
small_units [] all i = lit< tt
small_units (b ∷ text) all zero =
    let tests = and_parts (is_between 32 126 b) (list_all (is_between 32 126) text) all in
    let small = (between_gives 32 126 b tests.0).1 in omega arith
small_units (b ∷ text) all (suc i) =
    small_units text (and_parts (is_between 32 126 b) (list_all (is_between 32 126) text) all).1 i

bit_fits : (set : Bool) (k : ℕ) → bit set k ≤ 2 ^ k
bit_fits true k = omega arith
bit_fits false k = omega arith

pub attributes_fit : (flags : Flags) → attributes_of flags < 2 ^ 64
attributes_fit flags =
    let b = bit_fits flags.bootable 2 in
    let r = bit_fits flags.read_only 60 in
    let h = bit_fits flags.hidden 62 in
    let n = bit_fits flags.no_automount 63 in
    omega arith

pub gpt_entry_fits :
    (image : List ℕ) (part : PartitionSection) (at size z : ℕ) → IsPartitionWithin part
    → IfSome part.partition_uuid (λ id. length id ≡ 16) → length part.partition_type_uuid ≡ 16
    → at + size ≤ 2 ^ 44 → gpt.EntryFits (gpt_entry_of image part at size z)
gpt_entry_fits image part at size z within own kind end =
    let first = div-le_self at z in
    let last = div-le_self (at + size) z in
    let name = length-name_units part.name (name_is_short part within) in
    record {
      lengths = record { kind = kind; own = length-own_id image part own; name = name };
      first = omega arith;
      last = omega arith;
      attrs = attributes_fit (flags_of part);
      units = name_units-fit part.name (small_units part.name (name_tests part within).1);
    }
