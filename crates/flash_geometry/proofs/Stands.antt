-- A flash image without a refusal has the layout of an image: its partitions lie apart and within it.
use Rattle.std.specs.Prelude.{◌≡◌, ℕ, ◌^◌, ◌≤◌, max, true, false, All, AllPairs, Contains, List, [], ◌∷◌, ◌++◌, Option, Some, None, length, nat_lt, unwrap_or}
use Rattle.std.proofs.Common.{refl, subst, ◌∙◌, inl, arith}
use Rattle.std.proofs.lemmas.Bool.{and_parts, ltb-false}
use Rattle.std.proofs.lemmas.List.Elements.{All-cons, All-contains, All-nil, Contains-append_left, Contains-push}
use Rattle.std.proofs.lemmas.List.Kept.{AllPairs-cons}
use Rattle.std.proofs.lemmas.Slice.Zip.{AllZip-long}
use Rattle.base_fields.specs.declared.spans.Span.{Span}
use Rattle.conf_keys.specs.declared.conf.Kind.{Kind}
use Rattle.conf_keys.specs.declared.conf.Kind.TheVariants as kind
use Rattle.conf_keys.specs.declared.conf.PartitionSection.{PartitionSection}
use Rattle.image_layout.specs.IsLayout.{AreHoles, ClaimApart, IsLayout, IsPart}
use Rattle.image_layout.specs.Layout.{is_claimed}
use Rattle.image_names.specs.Images.{counted_of}
use Rattle.image_specs.specs.IsSpec.{AreSources, IsFlashFor}
use Rattle.image_specs.specs.declared.specs.ImageSpec.{ImageSpec}
use Rattle.image_specs.specs.declared.specs.Source.{Source}
use Rattle.span_cover.specs.Cover.{has}
use Rattle.flash_geometry.specs.Faults.{first_fault, image_fault, not_on_block, number_fault, overlap, part_fault, partition_fault, past_flash, place_fault, too_large, too_small}
use Rattle.flash_geometry.specs.Layouts.{AreLens, IsFlash, layout_of, parts_from, placed_of, refusal}
use Rattle.flash_geometry.specs.Places.{IsGeometry, capacity, last_end, place_of, places, places_from, span_end}
use Rattle.flash_geometry.specs.Taken.{first_met, shares}
use Rattle.flash_geometry.specs.declared.geometry.Geometry.{Geometry}
use Rattle.flash_geometry.proofs.Blocks.{geometry_is}
use Rattle.flash_geometry.proofs.Refusals.{mapped_none, or_parts, provided_not}
use Rattle.flash_geometry.proofs.Spans.{all_fail, apart_from}

-- ---- one partition that isn't refused

record Fine (g : Geometry) (before : List Span) (len : ℕ) (s : Span) : Type 0 where
  file : len ≤ s.len
  apart : first_met before s ≡ None
  within : span_end s ≤ capacity g

fine_of : (g : Geometry) (all : List PartitionSection) (before : List Span) (name : List ℕ) (len : ℕ) (s : Span) → place_fault g all before name len s ≡ None → Fine g before len s
fine_of g all before name len s h =
    let split = or_parts (too_large name len s.len) _ h in
    let behind = or_parts (overlap all before name s) (past_flash g name (span_end s)) split.1 in
    record {
      file = ltb-false _ _ (provided_not (nat_lt s.len len) _ split.0);
      apart = mapped_none _ (first_met before s) behind.0;
      within = ltb-false _ _ (provided_not (nat_lt (capacity g) (span_end s)) _ behind.1);
    }

part_fine : (g : Geometry) (all : List PartitionSection) (before : List Span) (part : PartitionSection) (len : ℕ) → part_fault g all before part len ≡ None → Fine g before len (place_of g before part len)
part_fine g all before part len h =
    fine_of g all before part.name len (place_of g before part len) (or_parts (number_fault g part len) (place_fault g all before part.name len (place_of g before part len)) h).1

-- ---- ends

ends_below : (g : Geometry) (all : List PartitionSection) (before : List Span) (parts : List PartitionSection) (lens : List ℕ) → first_fault g all before parts lens ≡ None → last_end (places_from g before parts lens) ≤ capacity g
ends_below g all before [] lens h = omega arith
ends_below g all before (part ∷ parts) [] h = omega arith
ends_below g all before (part ∷ parts) (len ∷ lens) h =
    let s : Span = place_of g before part len in
    let split = or_parts (part_fault g all before part len) (first_fault g all (before ++ place_of g before part len ∷ []) parts lens) h in
    let fine = part_fine g all before part len split.0 in
    let rest = ends_below g all (before ++ place_of g before part len ∷ []) parts lens split.1 in
    larger (span_end s) (last_end (places_from g (before ++ place_of g before part len ∷ []) parts lens)) (capacity g) fine.within rest
  where
    larger : (a b c : ℕ) → a ≤ c → b ≤ c → max a b ≤ c
    larger a b c first second = omega arith

-- ---- each within the image

no_holes : AreHoles []
no_holes = record { few = omega arith; filled = All-nil _; ascend = λ i j d less below. absurd (omega arith); bounded = All-nil _ }

part_stands : (size : ℕ) (part : PartitionSection) (source : Source) (len : ℕ) (s : Span) → span_end s ≤ size → len ≤ s.len → (source.file ≡ None → len ≡ 0) → IsPart size (placed_of part source len s)
part_stands size part source len s inside file none = record { inside = inside; file = file; source = none; holes = no_holes }

parts_stand : (g : Geometry) (all : List PartitionSection) (before : List Span) (parts : List PartitionSection) (sources : List Source) (lens : List ℕ) (size : ℕ) → AreLens sources lens → first_fault g all before parts lens ≡ None → last_end (places_from g before parts lens) ≤ size → All (IsPart size) (parts_from parts sources lens (places_from g before parts lens))
parts_stand g all before [] sources lens size is h ends = All-nil _
parts_stand g all before (part ∷ parts) [] lens size is h ends = All-nil _
parts_stand g all before (part ∷ parts) (source ∷ sources) [] size is h ends = All-nil _
parts_stand g all before (part ∷ parts) (source ∷ sources) (len ∷ lens) size is h ends =
    let s : Span = place_of g before part len in
    let later : List Span = places_from g (before ++ place_of g before part len ∷ []) parts lens in
    let split = or_parts (part_fault g all before part len) (first_fault g all (before ++ place_of g before part len ∷ []) parts lens) h in
    let fine = part_fine g all before part len split.0 in
    let both = of_larger (span_end s) (last_end later) size ends in
    All-cons (IsPart size) (placed_of part source len s) (parts_from parts sources lens later)
    (part_stands size part source len s both.0 fine.file is.0)
    (parts_stand g all (before ++ place_of g before part len ∷ []) parts sources lens size is.1 split.1 both.1)
  where
    of_larger : (a b c : ℕ) → max a b ≤ c → (a ≤ c) × (b ≤ c)
    of_larger a b c h = (omega arith, omega arith)

-- ---- apart

claimed_has : (part : PartitionSection) (source : Source) (len : ℕ) (s : Span) (o : ℕ) → is_claimed (placed_of part source len s) o ≡ true → has s o ≡ true
claimed_has part source len s o h = (and_parts (has s o) _ h).0

-- no later partition has an offset of a span that is taken
later_apart : (g : Geometry) (all : List PartitionSection) (before : List Span) (parts : List PartitionSection) (sources : List Source) (lens : List ℕ) (t : Span) → Contains before t → first_fault g all before parts lens ≡ None → All (λ q. (o : ℕ) → has t o ≡ true → is_claimed q o ≡ true → ⊥) (parts_from parts sources lens (places_from g before parts lens))
later_apart g all before [] sources lens t there h = All-nil _
later_apart g all before (part ∷ parts) [] lens t there h = All-nil _
later_apart g all before (part ∷ parts) (source ∷ sources) [] t there h = All-nil _
later_apart g all before (part ∷ parts) (source ∷ sources) (len ∷ lens) t there h =
    let s : Span = place_of g before part len in
    let later : List Span = places_from g (before ++ place_of g before part len ∷ []) parts lens in
    let split = or_parts (part_fault g all before part len) (first_fault g all (before ++ place_of g before part len ∷ []) parts lens) h in
    let fine = part_fine g all before part len split.0 in
    let none : shares s t ≡ false = All-contains (λ x. shares s x ≡ false) before t (all_fail (shares s) before fine.apart) there in
    All-cons (λ q. (o : ℕ) → has t o ≡ true → is_claimed q o ≡ true → ⊥) (placed_of part source len s) (parts_from parts sources lens later)
    (λ o in_t claimed. apart_from s t o none (claimed_has part source len s o claimed) in_t)
    (later_apart g all (before ++ place_of g before part len ∷ []) parts sources lens t (Contains-append_left before (s ∷ []) t there) split.1)

pairs_apart : (g : Geometry) (all : List PartitionSection) (before : List Span) (parts : List PartitionSection) (sources : List Source) (lens : List ℕ) → first_fault g all before parts lens ≡ None → AllPairs ClaimApart (parts_from parts sources lens (places_from g before parts lens))
pairs_apart g all before [] sources lens h = λ i j d less below. absurd (omega arith)
pairs_apart g all before (part ∷ parts) [] lens h = λ i j d less below. absurd (omega arith)
pairs_apart g all before (part ∷ parts) (source ∷ sources) [] h = λ i j d less below. absurd (omega arith)
pairs_apart g all before (part ∷ parts) (source ∷ sources) (len ∷ lens) h =
    let s : Span = place_of g before part len in
    let later : List Span = places_from g (before ++ place_of g before part len ∷ []) parts lens in
    let split = or_parts (part_fault g all before part len) (first_fault g all (before ++ place_of g before part len ∷ []) parts lens) h in
    let apart = later_apart g all (before ++ place_of g before part len ∷ []) parts sources lens s (Contains-push before s) split.1 in
    AllPairs-cons ClaimApart (placed_of part source len s) (parts_from parts sources lens later)
    (λ k d below o first second. apart k d below o (claimed_has part source len s o first) second)
    (pairs_apart g all (before ++ place_of g before part len ∷ []) parts sources lens split.1)

-- ---- the whole

count_below : (parts : List PartitionSection) (sources : List Source) (lens : List ℕ) (ss : List Span) → length (parts_from parts sources lens ss) ≤ length parts
count_below [] sources lens ss = omega arith
count_below (part ∷ parts) [] lens ss = omega arith
count_below (part ∷ parts) (source ∷ sources) [] ss = omega arith
count_below (part ∷ parts) (source ∷ sources) (len ∷ lens) [] = omega arith
count_below (part ∷ parts) (source ∷ sources) (len ∷ lens) (s ∷ ss) = let more = count_below parts sources lens ss in omega arith

-- the size of an image that isn't refused
size_fits : (g : Geometry) (name : List ℕ) (size : Option ℕ) (needs : ℕ) → image_fault g name size needs ≡ None → needs ≤ capacity g → (needs ≤ unwrap_or size needs) × (unwrap_or size needs ≤ capacity g)
size_fits g name None needs h below = (omega arith, below)
size_fits g name (Some n) needs h below =
    let behind = (or_parts (not_on_block g name (Some n)) _ h).1 in
    let split = or_parts (past_flash g name n) (too_small (Some n) needs) behind in
    (ltb-false _ _ (provided_not (nat_lt n needs) _ split.1), ltb-false _ _ (provided_not (nat_lt (capacity g) n) _ split.0))

-- a source and a length for each partition
pub counts_are : (spec : ImageSpec) (g : Geometry) (lens : List ℕ) → IsFlash spec g → AreLens spec.sources lens → (length spec.sources ≡ length spec.keys.parts) × (length lens ≡ length spec.keys.parts)
counts_are spec g lens is lengths =
    let sources = subst (λ (k : Kind). AreSources k spec.keys.parts spec.sources) is.kind is.built.sources in
    let first : length spec.sources ≡ length spec.keys.parts = AllZip-long _ spec.keys.parts spec.sources sources in
    (first, AllZip-long _ spec.sources lens lengths ∙ first)

pub device_is : (spec : ImageSpec) (g : Geometry) → IsFlash spec g → IsGeometry g
device_is spec g is =
    geometry_is spec.keys.flashtype spec.flash g (subst (λ (k : Kind). IsFlashFor k spec.keys.flashtype spec.flash) is.kind is.built.flash) is.device

pub flash_layout : (spec : ImageSpec) (g : Geometry) (lens : List ℕ) → IsFlash spec g → AreLens spec.sources lens → refusal spec g lens ≡ None → IsLayout (layout_of spec g lens)
flash_layout spec g lens is lengths h =
    let device : IsGeometry g = device_is spec g is in
    let split = or_parts (partition_fault g spec.keys.parts lens) (image_fault g spec.name spec.keys.size (last_end (places g spec.keys.parts lens))) h in
    let ends : last_end (places g spec.keys.parts lens) ≤ capacity g = ends_below g spec.keys.parts [] spec.keys.parts lens split.0 in
    let size = size_fits g spec.name spec.keys.size (last_end (places g spec.keys.parts lens)) split.1 ends in
    let few : length (counted_of (Some kind.Flash) spec.keys.parts) ≤ 256 = subst (λ (k : Kind). length (counted_of (Some k) spec.keys.parts) ≤ 256) is.kind is.built.few in
    let count = count_below spec.keys.parts spec.sources lens (places g spec.keys.parts lens) in
    record {
      size = at_most (unwrap_or spec.keys.size (last_end (places g spec.keys.parts lens))) (capacity g) (2 ^ 43) size.1 device.product;
      sector = inl refl;
      few = at_most (length (parts_from spec.keys.parts spec.sources lens (places g spec.keys.parts lens))) (length spec.keys.parts) 256 count few;
      parts = parts_stand g spec.keys.parts [] spec.keys.parts spec.sources lens (unwrap_or spec.keys.size (last_end (places g spec.keys.parts lens))) lengths split.0 size.0;
      tabled = record { mbr = refl; gpt = refl; logical = refl; hybrid = refl };
      inside = All-nil _;
      apart = record {
        claims = pairs_apart g spec.keys.parts [] spec.keys.parts spec.sources lens split.0;
        tables = λ i j d less below. absurd (omega arith);
        across = λ k d below o claimed. refl;
      };
    }
  where
    at_most : (a b c : ℕ) → a ≤ b → b ≤ c → a ≤ c
    at_most a b c first second = omega arith
