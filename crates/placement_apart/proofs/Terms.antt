-- What holds of what the rules look at of each partition of an image whose keys keep within their limits, and where
-- each stands.
use Rattle.std.specs.Prelude.{◌≡◌, ℕ, ◌≤◌, List, [], ◌∷◌, ◌++◌, All, IfSome, Bool, true, false, ◌&&◌, nat_le, Option, None, Some, length, slice_index, unwrap_or, if◌then◌else◌}
use Rattle.std.proofs.Common.{refl, arith}
use Rattle.std.proofs.lemmas.Bool.{and_parts}
use Rattle.std.proofs.lemmas.List.Elements.{All-cons, All-head, All-map, All-nil, All-tail, All-weaker}
use Rattle.base_fields.specs.declared.spans.TableKind.{TableKind}
use Rattle.base_fields.specs.declared.spans.TableKind.TheVariants as table
use Rattle.conf_keys.specs.Within.{IsHoleWithin, IsPartitionWithin, IsSizeFrom}
use Rattle.conf_keys.specs.declared.conf.HdKeys.{HdKeys}
use Rattle.conf_keys.specs.declared.conf.Kind.{Kind}
use Rattle.conf_keys.specs.declared.conf.Kind.TheVariants as kind
use Rattle.conf_keys.specs.declared.conf.PartitionSection.{PartitionSection}
use Rattle.conf_values.specs.declared.values.Hole.{Hole}
use Rattle.image_names.specs.Images.{counted_of}
use Rattle.image_specs.specs.declared.specs.ImageSpec.{ImageSpec}
use Rattle.image_specs.specs.declared.specs.Source.{Source}
use Rattle.placement_rules.specs.Frames.{is_mbr, table_as}
use Rattle.placement_rules.specs.Places.{Stood, at_from, highest, standing, stood_from, stood_of}
use Rattle.placement_rules.specs.Terms.{align_of, default_align, file_terms, holes_as, in_table, in_tables, is_logical, primaries, terms_as, terms_from, terms_of}
use Rattle.placement_rules.specs.declared.terms.Frame.{Frame}
use Rattle.placement_rules.specs.declared.terms.Terms.{Terms}
use Rattle.placement_apart.specs.Apart.{AreLengths}

-- ---- terms

pub record AreTerms (table : TableKind) (t : Terms) : Type 0 where
  pub aligned : 1 ≤ t.align
  pub tabled : t.logical ≡ true → t.tabled ≡ true
  pub narrow : t.logical ≡ true → is_mbr table ≡ true

at_least : (o : Option ℕ) (d : ℕ) → IfSome o (IsSizeFrom 1) → 1 ≤ d → 1 ≤ unwrap_or o d
at_least None d h low = low
at_least (Some n) d h low = h.0

default_least : (t : TableKind) → 1 ≤ default_align t
default_least table.Bare = omega arith
default_least table.Mbr = omega arith
default_least table.Gpt = omega arith
default_least table.Hybrid = omega arith

either_least : (c : Bool) (n : ℕ) → 1 ≤ n → 1 ≤ (if c then n else 1)
either_least true n h = h
either_least false n h = omega arith

align_least : (t : TableKind) (hd : HdKeys) (part : PartitionSection) → IfSome hd.align (IsSizeFrom 1) → IsPartitionWithin part → 1 ≤ align_of t hd part
align_least t hd part own within =
    at_least part.align (if in_table t part then unwrap_or hd.align (default_align t) else 1) within.align
    (either_least (in_table t part) (unwrap_or hd.align (default_align t))
    (at_least hd.align (default_align t) own (default_least t)))

-- a logical partition is one of the table of a master boot record
record IsLogical (t : TableKind) (part : PartitionSection) : Type 0 where
  narrow : is_mbr t ≡ true
  tabled : in_table t part ≡ true

logical_is : (t : TableKind) (hd : HdKeys) (parts before : List PartitionSection) (part : PartitionSection) → is_logical t hd parts before part ≡ true → IsLogical t part
logical_is t hd parts before part h =
    let all =
    and_parts (is_mbr t && in_table t part)
    (nat_le (primaries hd.extended_partition (length (in_tables t parts))) (length (in_tables t before))) h in
    let both = and_parts (is_mbr t) (in_table t part) all.0 in
    record { narrow = both.0; tabled = both.1 }

all_terms : (spec : ImageSpec) (t : TableKind) (before parts : List PartitionSection) (lens : List ℕ) → IfSome spec.keys.hd.align (IsSizeFrom 1) → All IsPartitionWithin parts → All (AreTerms t) (terms_from spec t before parts lens)
all_terms spec t before [] lens own within = All-nil (AreTerms t)
all_terms spec t before (part ∷ rest) [] own within = All-nil (AreTerms t)
all_terms spec t before (part ∷ rest) (len ∷ lens) own within =
    let is : is_logical t spec.keys.hd spec.keys.parts before part ≡ true → IsLogical t part =
    logical_is t spec.keys.hd spec.keys.parts before part in
    All-cons (AreTerms t) (terms_of spec t before part rest len) (terms_from spec t (before ++ part ∷ []) rest lens)
    (record {
      aligned = align_least t spec.keys.hd part own (All-head IsPartitionWithin part rest within);
      tabled = λ h. (is h).tabled;
      narrow = λ h. (is h).narrow;
    })
    (all_terms spec t (before ++ part ∷ []) rest lens own (All-tail IsPartitionWithin part rest within))

file_terms_are : (t : TableKind) (len : ℕ) → AreTerms t (file_terms len)
file_terms_are t len = record { aligned = omega arith; tabled = λ h. absurd (cc); narrow = λ h. absurd (cc) }

-- those of an image
terms_are : (k : Kind) (spec : ImageSpec) (lens : List ℕ) → IfSome spec.keys.hd.align (IsSizeFrom 1) → All IsPartitionWithin spec.keys.parts → All (AreTerms (table_as k spec.keys.hd)) (terms_as k spec lens)
terms_are kind.Hd spec lens own within =
    all_terms spec spec.keys.hd.partition_table_type [] spec.keys.parts lens own within
terms_are kind.Plain spec lens own within =
    All-cons (AreTerms table.Bare) (file_terms (slice_index lens 0)) []
    (file_terms_are table.Bare (slice_index lens 0)) (All-nil (AreTerms table.Bare))
terms_are kind.Flash spec lens own within = All-nil (AreTerms table.Bare)
terms_are kind.Sparse spec lens own within = All-nil (AreTerms table.Bare)
terms_are kind.Ready spec lens own within = All-nil (AreTerms table.Bare)

-- no more than the partitions that count
length_terms : (spec : ImageSpec) (t : TableKind) (before parts : List PartitionSection) (lens : List ℕ) → length (terms_from spec t before parts lens) ≤ length parts
length_terms spec t before [] lens = omega arith
length_terms spec t before (part ∷ rest) [] = omega arith
length_terms spec t before (part ∷ rest) (len ∷ lens) =
    let more : length (terms_from spec t (before ++ part ∷ []) rest lens) ≤ length rest =
    length_terms spec t (before ++ part ∷ []) rest lens in omega arith

few_terms : (k : Kind) (spec : ImageSpec) (lens : List ℕ) → length (counted_of (Some k) spec.keys.parts) ≤ 256 → length (terms_as k spec lens) ≤ 256
few_terms kind.Hd spec lens few =
    let most : length (terms_as kind.Hd spec lens) ≤ length spec.keys.parts =
    length_terms spec spec.keys.hd.partition_table_type [] spec.keys.parts lens in
    omega arith
few_terms kind.Plain spec lens few = omega arith
few_terms kind.Flash spec lens few = omega arith
few_terms kind.Sparse spec lens few = omega arith
few_terms kind.Ready spec lens few = omega arith

-- ---- holes

pub record AreFewHoles (holes : List Hole) : Type 0 where
  pub each : All IsHoleWithin holes
  pub few : length holes ≤ 64

part_holes : (part : PartitionSection) → IsPartitionWithin part → AreFewHoles part.holes
part_holes part within = record { each = within.holes; few = within.few_holes }

no_holes : AreFewHoles []
no_holes = record { each = All-nil IsHoleWithin; few = omega arith }

one_without : All AreFewHoles ([] ∷ [])
one_without = All-cons AreFewHoles [] [] no_holes (All-nil AreFewHoles)

holes_are : (k : Kind) (parts : List PartitionSection) → All IsPartitionWithin parts → All AreFewHoles (holes_as k parts)
holes_are kind.Hd parts within =
    All-map AreFewHoles (λ (part : PartitionSection). part.holes) parts
    (All-weaker IsPartitionWithin (λ part. AreFewHoles part.holes) part_holes parts within)
holes_are kind.Plain parts within = one_without
holes_are kind.Flash parts within = one_without
holes_are kind.Sparse parts within = one_without
holes_are kind.Ready parts within = one_without

-- ---- places

-- a partition that stands where the rules put it, behind one end or another
pub record IsStanding (frame : Frame) (s : Stood) : Type 0 where
  pub terms : AreTerms frame.table s.terms
  pub holes : AreFewHoles s.holes
  pub behind : ℕ
  pub place : s.place ≡ standing frame s.terms (at_from behind s.terms)

all_standing : (frame : Frame) (before : List Stood) (ts : List Terms) (holess : List (List Hole)) → All (AreTerms frame.table) ts → All AreFewHoles holess → All (IsStanding frame) (stood_from frame before ts holess)
all_standing frame before [] holess are few = All-nil (IsStanding frame)
all_standing frame before (t ∷ ts) [] are few = All-nil (IsStanding frame)
all_standing frame before (t ∷ ts) (holes ∷ more) are few =
    All-cons (IsStanding frame) (stood_of frame before t holes)
    (stood_from frame (before ++ stood_of frame before t holes ∷ []) ts more)
    (record {
      terms = All-head (AreTerms frame.table) t ts are;
      holes = All-head AreFewHoles holes more few;
      behind = highest frame before;
      place = refl;
    })
    (all_standing frame (before ++ stood_of frame before t holes ∷ []) ts more
    (All-tail (AreTerms frame.table) t ts are) (All-tail AreFewHoles holes more few))

-- the partitions of an image, with a frame of its table
pub stand_all : (k : Kind) (spec : ImageSpec) (frame : Frame) (lens : List ℕ) → frame.table ≡ table_as k spec.keys.hd → IfSome spec.keys.hd.align (IsSizeFrom 1) → All IsPartitionWithin spec.keys.parts → All (IsStanding frame) (stood_from frame [] (terms_as k spec lens) (holes_as k spec.keys.parts))
stand_all k spec frame lens same own within =
    let are : All (AreTerms frame.table) (terms_as k spec lens) = rw same (terms_are k spec lens own within) in
    all_standing frame [] (terms_as k spec lens) (holes_as k spec.keys.parts) are (holes_are k spec.keys.parts within)

length_stood : (frame : Frame) (before : List Stood) (ts : List Terms) (holess : List (List Hole)) → length (stood_from frame before ts holess) ≤ length ts
length_stood frame before [] holess = omega arith
length_stood frame before (t ∷ ts) [] = omega arith
length_stood frame before (t ∷ ts) (holes ∷ more) =
    let s : Stood = stood_of frame before t holes in
    let rest : length (stood_from frame (before ++ s ∷ []) ts more) ≤ length ts =
    length_stood frame (before ++ s ∷ []) ts more in
    omega arith

pub few_stood : (k : Kind) (spec : ImageSpec) (frame : Frame) (lens : List ℕ) → length (counted_of (Some k) spec.keys.parts) ≤ 256 → length (stood_from frame [] (terms_as k spec lens) (holes_as k spec.keys.parts)) ≤ 256
few_stood k spec frame lens few =
    let terms : length (terms_as k spec lens) ≤ 256 = few_terms k spec lens few in
    let most : length (stood_from frame [] (terms_as k spec lens) (holes_as k spec.keys.parts)) ≤ length (terms_as k spec lens) =
    length_stood frame [] (terms_as k spec lens) (holes_as k spec.keys.parts) in
    omega arith

-- ---- sources

-- a partition has no bytes of a file where its source has none
abbrev pub AreSourced : List Source → List Stood → Type 0
AreSourced [] ss = Unit {0}
AreSourced (source ∷ sources) [] = Unit {0}
AreSourced (source ∷ sources) (s ∷ ss) = (source.file ≡ None → s.terms.len ≡ 0) × AreSourced sources ss

all_sourced : (spec : ImageSpec) (t : TableKind) (frame : Frame) (before : List Stood) (listed parts : List PartitionSection) (sources : List Source) (lens : List ℕ) (holess : List (List Hole)) → AreLengths sources lens → AreSourced sources (stood_from frame before (terms_from spec t listed parts lens) holess)
all_sourced spec t frame before listed parts [] lens holess are = tt
all_sourced spec t frame before listed [] (source ∷ sources) lens holess are = tt
all_sourced spec t frame before listed (part ∷ parts) (source ∷ sources) [] holess are = tt
all_sourced spec t frame before listed (part ∷ parts) (source ∷ sources) (len ∷ lens) [] are = tt
all_sourced spec t frame before listed (part ∷ parts) (source ∷ sources) (len ∷ lens) (holes ∷ more) are =
    let s : Stood = stood_of frame before (terms_of spec t listed part parts len) holes in
    (are.0, all_sourced spec t frame (before ++ s ∷ []) (listed ++ part ∷ []) parts sources lens more are.1)

one_sourced : (frame : Frame) (sources : List Source) (lens : List ℕ) → AreLengths sources lens → AreSourced sources (stood_from frame [] (file_terms (slice_index lens 0) ∷ []) ([] ∷ []))
one_sourced frame [] lens are = tt
one_sourced frame (source ∷ []) (len ∷ lens) are = (are.0, tt)
one_sourced frame (source ∷ (other ∷ sources)) (len ∷ lens) are = (are.0, tt)
one_sourced frame (source ∷ sources) [] are = absurd are

none_sourced : (sources : List Source) → AreSourced sources []
none_sourced [] = tt
none_sourced (source ∷ sources) = tt

pub source_all : (k : Kind) (spec : ImageSpec) (frame : Frame) (sources : List Source) (lens : List ℕ) → AreLengths sources lens → AreSourced sources (stood_from frame [] (terms_as k spec lens) (holes_as k spec.keys.parts))
source_all kind.Hd spec frame sources lens are =
    all_sourced spec spec.keys.hd.partition_table_type frame [] [] spec.keys.parts sources lens
    (holes_as kind.Hd spec.keys.parts) are
source_all kind.Plain spec frame sources lens are = one_sourced frame sources lens are
source_all kind.Flash spec frame sources lens are = none_sourced sources
source_all kind.Sparse spec frame sources lens are = none_sourced sources
source_all kind.Ready spec frame sources lens are = none_sourced sources
