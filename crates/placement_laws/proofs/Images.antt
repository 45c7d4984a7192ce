-- The numbers of an image's partitions: no align is 0, and each partition has its holes.
use Rattle.std.specs.Prelude.{◌≡◌, ℕ, ◌≤◌, Bool, true, false, cond, All, IfSome, List, [], ◌∷◌, ◌++◌, Option, Some, None, length, unwrap_or}
use Rattle.std.proofs.Common.{refl, sym, subst, ◌∙◌, inl, inr, arith}
use Rattle.std.proofs.lemmas.List.{length-map}
use Rattle.std.proofs.lemmas.List.Elements.{All-cons, All-head, All-nil, All-tail}
use Rattle.std.proofs.lemmas.Slice.Zip.{AllZip-long}
use Rattle.base_fields.specs.declared.spans.TableKind.{TableKind}
use Rattle.base_fields.specs.declared.spans.TableKind.TheVariants as table
use Rattle.conf_keys.specs.Within.{IsHdWithin, IsPartitionWithin, IsSizeFrom}
use Rattle.conf_keys.specs.declared.conf.HdKeys.{HdKeys}
use Rattle.conf_keys.specs.declared.conf.Kind.{Kind}
use Rattle.conf_keys.specs.declared.conf.Kind.TheVariants as kind
use Rattle.conf_keys.specs.declared.conf.PartitionSection.{PartitionSection}
use Rattle.image_specs.specs.IsSpec.{AreSources}
use Rattle.image_specs.specs.declared.specs.ImageSpec.{ImageSpec}
use Rattle.placement_rules.specs.Terms.{align_of, default_align, holes_as, holes_of, in_table, terms, terms_as, terms_from, terms_of}
use Rattle.placement_rules.specs.declared.terms.Terms.{Terms}
use Rattle.placement_laws.specs.Placed.{IsPlaceable}

-- ---- aligns

given_some : (given : Option ℕ) (n : ℕ) → IfSome given (IsSizeFrom 1) → 1 ≤ n → 1 ≤ unwrap_or given n
given_some None n h other = other
given_some (Some m) n h other = h.0

default_some : (t : TableKind) → 1 ≤ default_align t
default_some table.Bare = omega arith
default_some table.Mbr = omega arith
default_some table.Gpt = omega arith
default_some table.Hybrid = omega arith

either_some : (b : Bool) (n : ℕ) → 1 ≤ n → 1 ≤ cond b n 1
either_some true n h = h
either_some false n h = omega arith

align_some : (t : TableKind) (hd : HdKeys) (part : PartitionSection) → IsHdWithin hd → IsPartitionWithin part → 1 ≤ align_of t hd part
align_some t hd part image own =
    let whole : 1 ≤ unwrap_or hd.align (default_align t) = given_some hd.align (default_align t) image.align (default_some t) in
    given_some part.align (cond (in_table t part) (unwrap_or hd.align (default_align t)) 1) own.align (either_some (in_table t part) (unwrap_or hd.align (default_align t)) whole)

from_some : (spec : ImageSpec) (t : TableKind) (before parts : List PartitionSection) (lens : List ℕ) → IsHdWithin spec.keys.hd → All IsPartitionWithin parts → All (λ x. 1 ≤ x.align) (terms_from spec t before parts lens)
from_some spec t before [] lens image within = All-nil _
from_some spec t before (part ∷ parts) [] image within = All-nil _
from_some spec t before (part ∷ parts) (len ∷ lens) image within =
    All-cons (λ (x : Terms). 1 ≤ x.align) (terms_of spec t before part parts len) (terms_from spec t (before ++ part ∷ []) parts lens)
    (align_some t spec.keys.hd part image (All-head IsPartitionWithin part parts within))
    (from_some spec t (before ++ part ∷ []) parts lens image (All-tail IsPartitionWithin part parts within))

-- one file has the align 1
file_some : (spec : ImageSpec) (lens : List ℕ) → All (λ x. 1 ≤ x.align) (terms_as kind.Plain spec lens)
file_some spec lens = All-cons (λ (x : Terms). 1 ≤ x.align) _ [] (omega arith) (All-nil _)

pub aligns_are : (spec : ImageSpec) (lens : List ℕ) → IsPlaceable spec lens → All (λ x. 1 ≤ x.align) (terms spec lens)
aligns_are spec lens is = elim is.kind [
  | inl disk ↦ subst (λ (k : Kind). All (λ (x : Terms). 1 ≤ x.align) (terms_as k spec lens)) (sym disk) (from_some spec spec.keys.hd.partition_table_type [] spec.keys.parts lens is.built.within.hd is.built.within.parts)
  | inr file ↦ subst (λ (k : Kind). All (λ (x : Terms). 1 ≤ x.align) (terms_as k spec lens)) (sym file) (file_some spec lens)
]

-- ---- holes

pub from_count : (spec : ImageSpec) (t : TableKind) (before parts : List PartitionSection) (lens : List ℕ) → length lens ≡ length parts → length (terms_from spec t before parts lens) ≡ length parts
from_count spec t before [] lens h = refl
from_count spec t before (part ∷ parts) [] h = absurd (omega arith)
from_count spec t before (part ∷ parts) (len ∷ lens) h =
    let rest = from_count spec t (before ++ part ∷ []) parts lens (omega arith) in
    omega arith

disk_count : (spec : ImageSpec) (lens : List ℕ) → length lens ≡ length spec.sources → AreSources kind.Hd spec.keys.parts spec.sources → length (holes_as kind.Hd spec.keys.parts) ≡ length (terms_as kind.Hd spec lens)
disk_count spec lens count sources =
    let long : length lens ≡ length spec.keys.parts = count ∙ AllZip-long _ spec.keys.parts spec.sources sources in
    length-map spec.keys.parts (λ part. part.holes) ∙ sym (from_count spec spec.keys.hd.partition_table_type [] spec.keys.parts lens long)

pub counts_are : (spec : ImageSpec) (lens : List ℕ) → IsPlaceable spec lens → length (holes_of spec) ≡ length (terms spec lens)
counts_are spec lens is = elim is.kind [
  | inl disk ↦
      subst (λ (k : Kind). length (holes_as k spec.keys.parts) ≡ length (terms_as k spec lens)) (sym disk)
      (disk_count spec lens is.count (subst (λ (k : Kind). AreSources k spec.keys.parts spec.sources) disk is.built.sources))
  | inr file ↦ subst (λ (k : Kind). length (holes_as k spec.keys.parts) ≡ length (terms_as k spec lens)) (sym file) refl
]
