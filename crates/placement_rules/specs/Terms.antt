-- What the rules look at of each partition.
use Rattle.std.specs.Prelude.{ℕ, zero, suc, Bool, true, false, ◌&&◌, ◌||◌, nat_le, nat_lt, if◌then◌else◌, List, [], ◌∷◌, ◌++◌, None, filter, is_some, length, map, slice_index, unwrap_or}
use Rattle.base_fields.specs.declared.spans.TableKind.{TableKind}
use Rattle.base_fields.specs.declared.spans.TableKind.TheVariants as table
use Rattle.conf_keys.specs.declared.conf.HdKeys.{HdKeys}
use Rattle.conf_keys.specs.declared.conf.Kind.{Kind}
use Rattle.conf_keys.specs.declared.conf.Kind.TheVariants as kind
use Rattle.conf_keys.specs.declared.conf.PartitionSection.{PartitionSection}
use Rattle.conf_values.specs.declared.values.Hole.{Hole}
use Rattle.image_specs.specs.declared.specs.ImageSpec.{ImageSpec}
use Rattle.placement_rules.specs.Frames.{has_table, is_hybrid, is_mbr}
use Rattle.placement_rules.specs.declared.terms.Terms.{Terms}

-- ---- aligns

abbrev pub default_align : TableKind → ℕ
default_align table.Bare = 1
default_align table.Mbr = 512
default_align _ = 1048576

-- the table has it
abbrev pub in_table : TableKind → PartitionSection → Bool
in_table table part = has_table table && part.in_partition_table

-- its own align, else the image's where the table has it, else 1
abbrev pub align_of : TableKind → HdKeys → PartitionSection → ℕ
align_of table hd part =
    unwrap_or part.align (if in_table table part then unwrap_or hd.align (default_align table) else 1)

-- ---- primary and logical

abbrev pub in_tables : TableKind → List PartitionSection → List PartitionSection
in_tables table parts = filter (in_table table) parts

-- how many of so many partitions of an mbr are primary where there are more: with the key `extended-partition` those in
-- front of that slot, else three, or all where four slots hold them
abbrev pub primaries : ℕ → ℕ → ℕ
primaries zero count = if nat_le count 4 then count else 3
primaries (suc before) count = before

-- a partition that is listed behind these is logical
abbrev pub is_logical : TableKind → HdKeys → List PartitionSection → List PartitionSection → PartitionSection → Bool
is_logical table hd parts before part =
    is_mbr table
    && in_table table part
    && nat_le (primaries hd.extended_partition (length (in_tables table parts))) (length (in_tables table before))

-- ---- hybrid

-- one that a hybrid's record may have
abbrev pub is_typed : TableKind → PartitionSection → Bool
is_typed table part = in_table table part && is_some part.partition_type

-- a partition that is listed behind these has its sectors in a master boot record or in a boot record: in an mbr each of the
-- table, in a hybrid the first three with a type
abbrev pub is_narrow : TableKind → List PartitionSection → PartitionSection → Bool
is_narrow table before part =
    (is_mbr table && in_table table part)
    || (is_hybrid table && is_typed table part && nat_lt (length (filter (is_typed table) before)) 3)

-- ---- terms

abbrev pub is_nil : List PartitionSection → Bool
is_nil [] = true
is_nil _ = false

-- those of a partition that is listed behind `before` and in front of `rest`
abbrev pub terms_of : ImageSpec → TableKind → List PartitionSection → PartitionSection → List PartitionSection → ℕ → Terms
terms_of spec table before part rest len = record {
  offset = part.offset;
  size = part.size;
  align = align_of table spec.keys.hd part;
  len = len;
  autoresize = part.autoresize;
  tabled = in_table table part;
  logical = is_logical table spec.keys.hd spec.keys.parts before part;
  narrow = is_narrow table before part;
  last = is_nil rest;
}

abbrev pub terms_from : ImageSpec → TableKind → List PartitionSection → List PartitionSection → List ℕ → List Terms
terms_from spec table before (part ∷ rest) (len ∷ lens) =
    terms_of spec table before part rest len ∷ terms_from spec table (before ++ part ∷ []) rest lens
terms_from spec table before _ _ = []

-- one file as it is
abbrev pub file_terms : ℕ → Terms
file_terms len = record {
  offset = None;
  size = None;
  align = 1;
  len = len;
  autoresize = false;
  tabled = false;
  logical = false;
  narrow = false;
  last = true;
}

abbrev pub terms_as : Kind → ImageSpec → List ℕ → List Terms
terms_as kind.Hd spec lens = terms_from spec spec.keys.hd.partition_table_type [] spec.keys.parts lens
terms_as kind.Plain spec lens = file_terms (slice_index lens 0) ∷ []
terms_as _ spec lens = []

-- those of each partition, in order, by the lengths of their files; an image of kind file has one part
abbrev pub terms : ImageSpec → List ℕ → List Terms
terms spec lens = terms_as spec.kind spec lens

-- ---- holes and names

abbrev pub holes_as : Kind → List PartitionSection → List (List Hole)
holes_as kind.Hd parts = map (λ part. part.holes) parts
holes_as _ parts = [] ∷ []

abbrev pub holes_of : ImageSpec → List (List Hole)
holes_of spec = holes_as spec.kind spec.keys.parts

abbrev pub names_as : Kind → ImageSpec → List (List ℕ)
names_as kind.Plain spec = spec.name ∷ []
names_as _ spec = map (λ part. part.name) spec.keys.parts

-- the name of each part
abbrev pub names_of : ImageSpec → List (List ℕ)
names_of spec = names_as spec.kind spec
