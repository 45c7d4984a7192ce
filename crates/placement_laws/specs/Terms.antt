-- What the rules look at of each partition of a disk image, by its number.
use Rattle.std.specs.Prelude.{◌≡◌, ◌≢◌, ℕ, ◌+◌, ◌<◌, ◌≤◌, ◌⊎◌, ◌↔◌, ◌&&◌, Bool, true, false, IsTrue, List, Some, None, filter, is_some, length, slice_index, slice_index_or, take}
use Rattle.base_fields.specs.declared.spans.TableKind.{TableKind}
use Rattle.base_fields.specs.declared.spans.TableKind.TheVariants as table
use Rattle.conf_keys.specs.declared.conf.HdKeys.{HdKeys}
use Rattle.conf_keys.specs.declared.conf.Kind.TheVariants.{Hd}
use Rattle.conf_keys.specs.declared.conf.PartitionSection.{PartitionSection}
use Rattle.image_specs.specs.declared.specs.ImageSpec.{ImageSpec}
use Rattle.placement_rules.specs.Terms.{terms}
use Rattle.placement_rules.specs.declared.terms.Terms.{Terms}
use Rattle.placement_laws.specs.Placed.{IsPlaceable}

-- ---- the table

-- the image has a table, and the partition isn't left out of it
abbrev pub IsTabled : TableKind → PartitionSection → Type 0
IsTabled kind part = (kind ≢ table.Bare) × IsTrue part.in_partition_table

abbrev pub tabled : TableKind → PartitionSection → Bool
tabled table.Bare part = false
tabled kind part = part.in_partition_table

-- one with a type for a master boot record
abbrev pub typed : TableKind → PartitionSection → Bool
typed kind part = tabled kind part && is_some part.partition_type

-- ---- aligns

-- no align of its own, in the table, of an image that has none
abbrev pub TakesDefault : HdKeys → PartitionSection → Bool → Type 0
TakesDefault hd part is_tabled = (part.align ≡ None) × (is_tabled ≡ true) × (hd.align ≡ None)

-- its own, else where the table has it that of the image, else 512 for mbr and 1,048,576 for gpt and hybrid; 1 where no
-- table has it
pub record HasAlign (hd : HdKeys) (part : PartitionSection) (is_tabled : Bool) (align : ℕ) : Type 0 where
  pub own : (n : ℕ) → part.align ≡ Some n → align ≡ n
  pub outside : part.align ≡ None → is_tabled ≡ false → align ≡ 1
  pub image : part.align ≡ None → is_tabled ≡ true → (n : ℕ) → hd.align ≡ Some n → align ≡ n
  pub sector : TakesDefault hd part is_tabled → hd.partition_table_type ≡ table.Mbr → align ≡ 512
  pub mebibyte : TakesDefault hd part is_tabled → hd.partition_table_type ≢ table.Mbr → align ≡ 1048576

-- ---- logical ones

-- of so many in the table, one that so many of these stand before: with the key `extended-partition` those in front of that
-- slot are primary, and without it the first three where there are more than four
abbrev pub IsBehindPrimary : ℕ → ℕ → ℕ → Type 0
IsBehindPrimary slot count before = ((1 ≤ slot) × (slot ≤ before + 1)) ⊎ ((slot ≡ 0) × (4 < count) × (3 ≤ before))

-- how many of these the table has
abbrev pub count_tabled : HdKeys → List PartitionSection → ℕ
count_tabled hd parts = length (filter (tabled hd.partition_table_type) parts)

abbrev pub IsLogical : HdKeys → List PartitionSection → ℕ → Bool → Type 0
IsLogical hd parts k is_tabled =
    (hd.partition_table_type ≡ table.Mbr)
    × IsTrue is_tabled
    × IsBehindPrimary hd.extended_partition (count_tabled hd parts) (count_tabled hd (take k parts))

-- ---- sectors of 32 bits

-- it has a type, and fewer than three before it in the table have one
abbrev pub IsFirstTyped : HdKeys → List PartitionSection → ℕ → PartitionSection → Type 0
IsFirstTyped hd parts k part =
    IsTrue (is_some part.partition_type) × (length (filter (typed hd.partition_table_type) (take k parts)) < 3)

-- one of an mbr's table, or one of the first three of a hybrid's table that have a type
abbrev pub IsNarrow : HdKeys → List PartitionSection → ℕ → PartitionSection → Bool → Type 0
IsNarrow hd parts k part is_tabled =
    ((hd.partition_table_type ≡ table.Mbr) × IsTrue is_tabled)
    ⊎ ((hd.partition_table_type ≡ table.Hybrid) × IsTrue is_tabled × IsFirstTyped hd parts k part)

-- ---- terms

-- those of partition number k
pub record AreTermsOf (hd : HdKeys) (parts : List PartitionSection) (k : ℕ) (part : PartitionSection) (n : ℕ) (t : Terms) : Type 0 where
  pub offset : t.offset ≡ part.offset
  pub size : t.size ≡ part.size
  pub len : t.len ≡ n
  pub autoresize : t.autoresize ≡ part.autoresize
  pub in_table : IsTrue t.tabled ↔ IsTabled hd.partition_table_type part
  pub align : HasAlign hd part t.tabled t.align
  pub logical : IsTrue t.logical ↔ IsLogical hd parts k t.tabled
  pub narrow : IsTrue t.narrow ↔ IsNarrow hd parts k part t.tabled
  pub last : IsTrue t.last ↔ (k + 1 ≡ length parts)

abbrev pub AreTermsAt : ImageSpec → List ℕ → ℕ → PartitionSection → Terms → Type 0
AreTermsAt spec lens k part t =
    let own = slice_index_or spec.keys.parts k part in
    AreTermsOf spec.keys.hd spec.keys.parts k own (slice_index lens k) (slice_index_or (terms spec lens) k t)

-- one for each partition, by the length of its file
pub record TermsByNumber (spec : ImageSpec) (lens : List ℕ) : Type 0 where
  pub count : length (terms spec lens) ≡ length spec.keys.parts
  pub each : (k : ℕ) (part : PartitionSection) (t : Terms) → k < length spec.keys.parts → AreTermsAt spec lens k part t

abbrev pub TermsExactly : Type 0
TermsExactly = (spec : ImageSpec) (lens : List ℕ) → IsPlaceable spec lens → spec.kind ≡ Hd → TermsByNumber spec lens
