-- Each partition of an image that nothing refuses, beside the keys of its section.
use Rattle.std.specs.Prelude.{◌≡◌, ℕ, ◌≤◌, Bool, true, false, ◌&&◌, if◌then◌else◌, List, [], ◌∷◌, ◌++◌, Option, Some, None, IfSome, length, map, unwrap_or, option_map}
use Rattle.std.specs.List.{AllByRecursion, AllZip}
use Rattle.std.proofs.Common.{refl, arith, lit≤}
use Rattle.base_fields.specs.declared.spans.TableKind.{TableKind}
use Rattle.base_fields.specs.declared.spans.TableKind.TheVariants as table
use Rattle.conf_keys.specs.Within.{IsPartitionWithin, IsSizeFrom}
use Rattle.conf_keys.specs.declared.conf.HdKeys.{HdKeys}
use Rattle.conf_keys.specs.declared.conf.PartitionSection.{PartitionSection}
use Rattle.image_specs.specs.Identifiers.{HasPartIdentifiers}
use Rattle.image_specs.specs.declared.specs.ImageSpec.{ImageSpec}
use Rattle.placement_rules.specs.Faults.{first_fault, met, overlap, own_fault, part_fault}
use Rattle.placement_rules.specs.Frames.{frame_as, is_mbr}
use Rattle.placement_rules.specs.Places.{Stood, highest, stood_from, stood_of}
use Rattle.placement_rules.specs.Terms.{align_of, default_align, in_table, is_logical, is_narrow, terms_from, terms_of}
use Rattle.placement_tables.proofs.Refusals.{mapped_none, or_none}
use Rattle.placement_tables.proofs.Standing.{IsStanding, standing_at}

-- ---- aligns

default_is : (t : TableKind) → 1 ≤ default_align t
default_is table.Bare = lit≤ tt
default_is table.Mbr = lit≤ tt
default_is table.Gpt = lit≤ tt
default_is table.Hybrid = lit≤ tt

own_or : (own : Option ℕ) (other : ℕ) → IfSome own (IsSizeFrom 1) → 1 ≤ other → 1 ≤ unwrap_or own other
own_or None other h g = g
own_or (Some n) other h g = h.0

where_tabled : (tabled : Bool) (align : ℕ) → 1 ≤ align → 1 ≤ (if tabled then align else 1)
where_tabled true align h = h
where_tabled false align h = lit≤ tt

align_is :
    (t : TableKind) (hd : HdKeys) (part : PartitionSection) → IfSome hd.align (IsSizeFrom 1)
    → IfSome part.align (IsSizeFrom 1) → 1 ≤ align_of t hd part
align_is t hd part image own =
    own_or part.align _ own (where_tabled (in_table t part) _ (own_or hd.align (default_align t) image (default_is t)))

-- a logical partition is in the table
tabled_first : (a b c : Bool) → (a && b && c) ≡ true → b ≡ true
tabled_first true true c h = refl
tabled_first true false c h = absurd (cc)
tabled_first false b c h = absurd (cc)

-- ---- a partition

-- one that stands behind `done`, whose section is listed behind `before`
pub record IsSound
    (spec : ImageSpec) (t : TableKind) (before : List PartitionSection) (done : List Stood) (part : PartitionSection)
    (s : Stood) : Type 0 where
  pub within : IsPartitionWithin part
  pub identifiers : HasPartIdentifiers part
  pub tabled : s.terms.tabled ≡ in_table t part
  pub logical : s.terms.logical ≡ is_logical t spec.keys.hd spec.keys.parts before part
  pub narrow : s.terms.narrow ≡ is_narrow t before part
  pub stands : IsStanding (frame_as spec t) s
  pub met : met (frame_as spec t) done s ≡ None

abbrev pub Stand :
    ImageSpec → TableKind → List PartitionSection → List Stood → List PartitionSection → List Stood → Type 0
Stand spec t before done [] [] = Unit {0}
Stand spec t before done [] (s ∷ ss) = ⊥
Stand spec t before done (part ∷ parts) [] = ⊥
Stand spec t before done (part ∷ parts) (s ∷ ss) =
    IsSound spec t before done part s × Stand spec t (before ++ part ∷ []) (done ++ s ∷ []) parts ss

sound :
    (spec : ImageSpec) (t : TableKind) (before : List PartitionSection) (done : List Stood) (part : PartitionSection)
    (rest : List PartitionSection) (len : ℕ) → IfSome spec.keys.hd.align (IsSizeFrom 1) → IsPartitionWithin part
    → HasPartIdentifiers part → part_fault (frame_as spec t) done
    (stood_of (frame_as spec t) done (terms_of spec t before part rest len) part.holes) ≡ None
    → IsSound spec t before done part
    (stood_of (frame_as spec t) done (terms_of spec t before part rest len) part.holes)
sound spec t before done part rest len image within identifiers h =
    let s = stood_of (frame_as spec t) done (terms_of spec t before part rest len) part.holes in
    let both = or_none (own_fault (frame_as spec t) s) (overlap (frame_as spec t) done s) h in
    record {
      within = within;
      identifiers = identifiers;
      tabled = refl;
      logical = refl;
      narrow = refl;
      stands =
          standing_at (frame_as spec t) (highest (frame_as spec t) done) (terms_of spec t before part rest len)
          part.holes
          (align_is t spec.keys.hd part image within.align)
          (λ is. tabled_first (is_mbr t) (in_table t part) _ is) both.0;
      met = mapped_none _ _ both.1;
    }

pub stand :
    (spec : ImageSpec) (t : TableKind) (before : List PartitionSection) (done : List Stood)
    (parts : List PartitionSection) (lens : List ℕ) → length lens ≡ length parts
    → IfSome spec.keys.hd.align (IsSizeFrom 1) → AllByRecursion IsPartitionWithin parts
    → AllByRecursion HasPartIdentifiers parts → first_fault (frame_as spec t) done
    (stood_from (frame_as spec t) done (terms_from spec t before parts lens) (map (λ part. part.holes) parts)) ≡ None
    → Stand spec t before done parts
    (stood_from (frame_as spec t) done (terms_from spec t before parts lens) (map (λ part. part.holes) parts))
stand spec t before done [] lens even image within identifiers h = tt
stand spec t before done (part ∷ parts) [] even image within identifiers h = absurd (omega arith)
stand spec t before done (part ∷ parts) (len ∷ lens) even image within identifiers h =
    let s = stood_of (frame_as spec t) done (terms_of spec t before part parts len) part.holes in
    let both = or_none (option_map _ (part_fault (frame_as spec t) done s)) _ h in (
      sound spec t before done part parts len image within.0 identifiers.0 (mapped_none _ _ both.0),
      stand spec t (before ++ part ∷ []) (done ++ s ∷ []) parts lens (omega arith) image within.1 identifiers.1 both.1,
    )

-- ---- pairs

-- what is known of a partition wherever it is listed
pub record IsFitting (spec : ImageSpec) (t : TableKind) (part : PartitionSection) (s : Stood) : Type 0 where
  pub within : IsPartitionWithin part
  pub identifiers : HasPartIdentifiers part
  pub stands : IsStanding (frame_as spec t) s
  pub tabled : s.terms.tabled ≡ in_table t part

pub fitting :
    (spec : ImageSpec) (t : TableKind) (before : List PartitionSection) (done : List Stood)
    (parts : List PartitionSection) (ss : List Stood) → Stand spec t before done parts ss
    → AllZip (IsFitting spec t) parts ss
fitting spec t before done [] [] h = tt
fitting spec t before done [] (s ∷ ss) h = absurd h
fitting spec t before done (part ∷ parts) [] h = absurd h
fitting spec t before done (part ∷ parts) (s ∷ ss) h = (
  record { within = h.0.within; identifiers = h.0.identifiers; stands = h.0.stands; tabled = h.0.tabled },
  fitting spec t (before ++ part ∷ []) (done ++ s ∷ []) parts ss h.1,
)
