-- What holds of the tables of an image whose keys keep within their limits.
use Rattle.std.specs.Prelude.{◌≡◌, ℕ, ◌+◌, ◌*◌, ◌≤◌, ◌⊎◌, true}
use Rattle.std.proofs.Common.{refl, arith, inl}
use Rattle.base_fields.specs.declared.spans.TableKind.{TableKind}
use Rattle.base_fields.specs.declared.spans.TableKind.TheVariants as table
use Rattle.conf_keys.specs.Within.{IsHdWithin, IsSectorSize}
use Rattle.conf_keys.specs.declared.conf.HdKeys.{HdKeys}
use Rattle.conf_keys.specs.declared.conf.Kind.{Kind}
use Rattle.conf_keys.specs.declared.conf.Kind.TheVariants as kind
use Rattle.image_specs.specs.declared.specs.ImageSpec.{ImageSpec}
use Rattle.placement_rules.specs.Frames.{front_as, has_guid, has_table, is_mbr, sector_as, table_as}

-- ---- by the table

two_sizes : (t : TableKind) (z : ℕ) → IsSectorSize t z → (z ≡ 512) ⊎ (z ≡ 4096)
two_sizes table.Bare z h = h
two_sizes table.Mbr z h = inl h
two_sizes table.Gpt z h = h
two_sizes table.Hybrid z h = inl h

mbr_size : (t : TableKind) (z : ℕ) → IsSectorSize t z → is_mbr t ≡ true → z ≡ 512
mbr_size table.Bare z h is = absurd (cc)
mbr_size table.Mbr z h is = h
mbr_size table.Gpt z h is = absurd (cc)
mbr_size table.Hybrid z h is = absurd (cc)

front_low : (t : TableKind) (hd : HdKeys) → has_table t ≡ true → 512 ≤ front_as t hd
front_low table.Bare hd is = absurd (cc)
front_low table.Mbr hd is = omega arith
front_low table.Gpt hd is = omega arith
front_low table.Hybrid hd is = omega arith

front_behind : (t : TableKind) (hd : HdKeys) → has_guid t ≡ true → hd.gpt_location + 16384 ≤ front_as t hd
front_behind table.Bare hd is = absurd (cc)
front_behind table.Mbr hd is = absurd (cc)
front_behind table.Gpt hd is = omega arith
front_behind table.Hybrid hd is = omega arith

-- ---- by the kind of the image

-- a frame with these numbers of tables
pub record IsFrame (t : TableKind) (z front entries_at : ℕ) : Type 0 where
  pub sector : (z ≡ 512) ⊎ (z ≡ 4096)
  pub narrow : is_mbr t ≡ true → z ≡ 512
  pub low : has_table t ≡ true → 512 ≤ front
  pub two : has_guid t ≡ true → 2 * z ≤ entries_at
  pub behind : has_guid t ≡ true → entries_at + 16384 ≤ front

hd_frame : (hd : HdKeys) → IsHdWithin hd → IsFrame hd.partition_table_type hd.sector_size (front_as hd.partition_table_type hd) hd.gpt_location
hd_frame hd within = record {
  sector = two_sizes hd.partition_table_type hd.sector_size within.sector_size;
  narrow = mbr_size hd.partition_table_type hd.sector_size within.sector_size;
  low = front_low hd.partition_table_type hd;
  two = λ is. within.gpt_location.0;
  behind = front_behind hd.partition_table_type hd;
}

no_tables : (hd : HdKeys) → IsFrame table.Bare 512 0 hd.gpt_location
no_tables hd = record {
  sector = inl refl;
  narrow = λ is. absurd (cc);
  low = λ is. absurd (cc);
  two = λ is. absurd (cc);
  behind = λ is. absurd (cc);
}

frame_facts : (k : Kind) (hd : HdKeys) → IsHdWithin hd → IsFrame (table_as k hd) (sector_as k hd) (front_as (table_as k hd) hd) hd.gpt_location
frame_facts kind.Hd hd within = hd_frame hd within
frame_facts kind.Plain hd within = no_tables hd
frame_facts kind.Flash hd within = no_tables hd
frame_facts kind.Sparse hd within = no_tables hd
frame_facts kind.Ready hd within = no_tables hd

-- the same of the frame that an image has
pub frame_is : (spec : ImageSpec) → IsHdWithin spec.keys.hd → IsFrame (table_as spec.kind spec.keys.hd) (sector_as spec.kind spec.keys.hd) (front_as (table_as spec.kind spec.keys.hd) spec.keys.hd) spec.keys.hd.gpt_location
frame_is spec within = frame_facts spec.kind spec.keys.hd within
