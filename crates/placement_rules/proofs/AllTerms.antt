-- What the rules look at of all partitions: how many there are, their bounds, and one more of them.
use Rattle.std.specs.Prelude.{◌≡◌, ℕ, ◌≤◌, Bool, true, false, List, [], ◌∷◌, ◌++◌, Option, Some, None, IfSome, if◌then◌else◌, length, take, drop, unwrap_or}
use Rattle.std.proofs.Common.{refl, ap, sym, ◌∙◌, append-nil, arith}
use Rattle.std.specs.List.{AllByRecursion}
use Rattle.std.proofs.lemmas.List.{at_drop_all}
use Rattle.std.proofs.lemmas.List.Elements.{All-from_recursion, recursion_from_All}
use Rattle.base_fields.specs.declared.spans.TableKind.{TableKind}
use Rattle.base_fields.specs.declared.spans.TableKind.TheVariants as table
use Rattle.conf_keys.specs.Within.{IsHdWithin, IsImageWithin, IsPartitionWithin, IsSizeFrom}
use Rattle.conf_keys.specs.declared.conf.HdKeys.{HdKeys}
use Rattle.conf_keys.specs.declared.conf.PartitionSection.{PartitionSection}
use Rattle.image_specs.specs.declared.specs.ImageSpec.{ImageSpec}
use Rattle.placement_rules.specs.Bounds.{AreTerms, IsTerms}
use Rattle.placement_rules.specs.Terms.{align_of, default_align, in_table, terms_from}
use Rattle.placement_rules.specs.declared.terms.Terms.{Terms}

-- ---- how many

pub terms_length : (spec : ImageSpec) (table : TableKind) (before parts : List PartitionSection) (lens : List ℕ) → length lens ≡ length parts → length (terms_from spec table before parts lens) ≡ length parts
terms_length spec table before [] lens same = refl
terms_length spec table before (part ∷ rest) [] same = absurd (omega arith)
terms_length spec table before (part ∷ rest) (len ∷ lens) same =
    let more : length (terms_from spec table (before ++ part ∷ []) rest lens) ≡ length rest = terms_length spec table (before ++ part ∷ []) rest lens (omega arith) in
    omega arith

-- ---- bounds

unwrap_within : (o : Option ℕ) (n : ℕ) → IfSome o (IsSizeFrom 1) → IsSizeFrom 1 n → IsSizeFrom 1 (unwrap_or o n)
unwrap_within None n given is = is
unwrap_within (Some m) n given is = given

choice_within : (b : Bool) (m n : ℕ) → IsSizeFrom 1 m → IsSizeFrom 1 n → IsSizeFrom 1 (if b then m else n)
choice_within true m n first second = first
choice_within false m n first second = second

default_within : (table : TableKind) → IsSizeFrom 1 (default_align table)
default_within table.Bare = (omega arith, omega arith)
default_within table.Mbr = (omega arith, omega arith)
default_within table.Gpt = (omega arith, omega arith)
default_within table.Hybrid = (omega arith, omega arith)

align_within : (table : TableKind) (hd : HdKeys) (part : PartitionSection) → IsHdWithin hd → IsPartitionWithin part → IsSizeFrom 1 (align_of table hd part)
align_within table hd part within is =
    unwrap_within part.align _ is.align
    (choice_within (in_table table part) _ 1 (unwrap_within hd.align _ within.align (default_within table)) (omega arith, omega arith))

each_within : (spec : ImageSpec) (table : TableKind) (before parts : List PartitionSection) (lens : List ℕ) → IsHdWithin spec.keys.hd → AllByRecursion IsPartitionWithin parts → AllByRecursion IsTerms (terms_from spec table before parts lens)
each_within spec table before [] lens hd are = tt
each_within spec table before (part ∷ rest) [] hd are = tt
each_within spec table before (part ∷ rest) (len ∷ lens) hd are = (
  record {
    offset = are.0.offset;
    size = are.0.size;
    align = align_within table spec.keys.hd part hd are.0;
  },
  each_within spec table (before ++ part ∷ []) rest lens hd are.1,
)

pub terms_within : (spec : ImageSpec) (lens : List ℕ) → IsImageWithin spec.keys → AreTerms (terms_from spec spec.keys.hd.partition_table_type [] spec.keys.parts lens)
terms_within spec lens within =
    All-from_recursion IsTerms _ (each_within spec spec.keys.hd.partition_table_type [] spec.keys.parts lens within.hd
    (recursion_from_All IsPartitionWithin spec.keys.parts within.parts))

-- ---- one more

-- ---- the loop over all of them

none_left : (spec : ImageSpec) (table : TableKind) (before : List PartitionSection) (ts : List Terms) (lens : List ℕ) → ts ++ terms_from spec table before [] lens ≡ ts
none_left spec table before ts lens = append-nil ts

-- when no partition is left
pub listed : (spec : ImageSpec) (table : TableKind) (parts slice : List PartitionSection) (lens : List ℕ) (ts : List Terms) (k : ℕ) → slice ≡ parts → length slice ≤ k → ts ++ terms_from spec table (take k slice) (drop k slice) (drop k lens) ≡ terms_from spec table [] slice lens → ts ≡ terms_from spec table [] parts lens
listed spec table parts slice lens ts k same past so_far =
    sym (none_left spec table (take k slice) ts (drop k lens))
    ∙ sym (at_drop_all (λ (rest : List PartitionSection). ts ++ terms_from spec table (take k slice) rest (drop k lens)) slice k past)
    ∙ so_far ∙ ap (λ (all : List PartitionSection). terms_from spec table [] all lens) same
