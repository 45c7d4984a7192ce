-- How many entries there are that a master boot record has room for.
use Rattle.std.specs.Prelude.{◌≡◌, ℕ, zero, suc, ◌+◌, ◌-◌, ◌<◌, ◌≤◌, ◌⊎◌, Bool, true, false, not, ◌&&◌, nat_le, nat_lt, if◌then◌else◌, List, [], ◌∷◌, ◌++◌, filter, length}
use Rattle.std.proofs.Common.{refl, ap, subst, arith, inl, inr, length-append, ◌∙◌}
use Rattle.std.proofs.lemmas.Bool.{leb-false, leb-true, ltb-true, cases_Bool}
use Rattle.std.proofs.lemmas.List.Elements.{filter-append}
use Rattle.base_fields.specs.declared.spans.TableKind.TheVariants as table
use Rattle.conf_keys.specs.declared.conf.PartitionSection.{PartitionSection}
use Rattle.image_specs.specs.declared.specs.ImageSpec.{ImageSpec}
use Rattle.placement.specs.Layouts.{entries_for, is_primary}
use Rattle.placement_rules.specs.Places.{Stood}
use Rattle.placement_rules.specs.Terms.{in_table, in_tables, is_typed, primaries}
use Rattle.placement_tables.proofs.Sound.{Stand}

-- how many pass of so many and one more
count_one :
    (test : PartitionSection → Bool) (before : List PartitionSection) (part : PartitionSection)
    → length (filter test (before ++ part ∷ [])) ≡ length (filter test before) + length (filter test (part ∷ []))
count_one test before part =
    ap (λ (xs : List PartitionSection). length xs) (filter-append test before (part ∷ []))
    ∙ length-append (filter test before) (filter test (part ∷ []))

-- ---- hybrid

narrow_step :
    {A : Type 0} (narrow typed : Bool) (c : ℕ) (e : A) (es : List A) (part : PartitionSection)
    → narrow ≡ (typed && nat_lt c 3) → length es ≤ 3 - (c + length (if typed then part ∷ [] else []))
    → length (if narrow then e ∷ es else es) ≤ 3 - c
narrow_step true true c e es part is h = let small : c < 3 = ltb-true c 3 (cc) in omega arith
narrow_step true false c e es part is h = absurd (cc)
narrow_step false typed c e es part is h = omega arith

pub narrow_few :
    {A : Type 0}
    (entry : PartitionSection → Stood → A) (spec : ImageSpec) (before : List PartitionSection) (done : List Stood)
    (parts : List PartitionSection) (ss : List Stood) → Stand spec table.Hybrid before done parts ss
    → length (entries_for (λ s. s.terms.narrow) entry parts ss) ≤ 3 - length (filter (is_typed table.Hybrid) before)
narrow_few entry spec before done [] ss h = omega arith
narrow_few entry spec before done (part ∷ parts) [] h = absurd h
narrow_few entry spec before done (part ∷ parts) (s ∷ ss) h =
    narrow_step s.terms.narrow (is_typed table.Hybrid part) (length (filter (is_typed table.Hybrid) before))
    (entry part s)
    (entries_for (λ s. s.terms.narrow) entry parts ss) part h.0.narrow
    (subst (λ (n : ℕ). length (entries_for (λ s. s.terms.narrow) entry parts ss) ≤ 3 - n)
    (count_one (is_typed table.Hybrid) before part)
    (narrow_few entry spec (before ++ part ∷ []) (done ++ s ∷ []) parts ss h.1))

-- ---- mbr

primary_step :
    {A : Type 0} (tabled logical within : Bool) (c most : ℕ) (e : A) (es : List A) (part : PartitionSection)
    → tabled ≡ within → logical ≡ (within && nat_le most c)
    → length es ≤ most - (c + length (if within then part ∷ [] else []))
    → length (if tabled && not logical then e ∷ es else es) ≤ most - c
primary_step true true within c most e es part same is h = omega arith
primary_step true false true c most e es part same is h = let small : c < most = leb-false most c (cc) in omega arith
primary_step true false false c most e es part same is h = absurd (cc)
primary_step false logical within c most e es part same is h = omega arith

-- how many primary partitions the table of an image has at most
abbrev pub most_primary : ImageSpec → ℕ
most_primary spec = primaries spec.keys.hd.extended_partition (length (in_tables table.Mbr spec.keys.parts))

pub primary_few :
    {A : Type 0}
    (entry : PartitionSection → Stood → A) (spec : ImageSpec) (before : List PartitionSection) (done : List Stood)
    (parts : List PartitionSection) (ss : List Stood) → Stand spec table.Mbr before done parts ss
    → length (entries_for is_primary entry parts ss) ≤ most_primary spec - length (in_tables table.Mbr before)
primary_few entry spec before done [] ss h = omega arith
primary_few entry spec before done (part ∷ parts) [] h = absurd h
primary_few entry spec before done (part ∷ parts) (s ∷ ss) h =
    primary_step s.terms.tabled s.terms.logical (in_table table.Mbr part) (length (in_tables table.Mbr before))
    (most_primary spec) (entry part s)
    (entries_for is_primary entry parts ss) part h.0.tabled h.0.logical
    (subst (λ (n : ℕ). length (entries_for is_primary entry parts ss) ≤ most_primary spec - n)
    (count_one (in_table table.Mbr) before part)
    (primary_few entry spec (before ++ part ∷ []) (done ++ s ∷ []) parts ss h.1))

logical_step :
    {A : Type 0} (logical within : Bool) (c most : ℕ) (e : A) (es : List A) (part : PartitionSection)
    (rest : List PartitionSection) → logical ≡ (within && nat_le most c)
    → (es ≡ []) ⊎ (most < (c + length (if within then part ∷ [] else [])) + length rest)
    → ((if logical then e ∷ es else es) ≡ []) ⊎ (most < c + length (if within then part ∷ rest else rest))
logical_step true true c most e es part rest is h = let all : most ≤ c = leb-true most c (cc) in inr (omega arith)
logical_step true false c most e es part rest is h = absurd (cc)
logical_step false within c most e es part rest is (inl none) = inl none
logical_step false true c most e es part rest is (inr more) = inr (omega arith)
logical_step false false c most e es part rest is (inr more) = inr (omega arith)

-- none is logical, or the table has more than can be primary
pub logical_more :
    {A : Type 0}
    (entry : PartitionSection → Stood → A) (spec : ImageSpec) (before : List PartitionSection) (done : List Stood)
    (parts : List PartitionSection) (ss : List Stood) → Stand spec table.Mbr before done parts ss
    → (entries_for (λ s. s.terms.logical) entry parts ss ≡ [])
    ⊎ (most_primary spec < length (in_tables table.Mbr before) + length (in_tables table.Mbr parts))
logical_more entry spec before done [] ss h = inl refl
logical_more entry spec before done (part ∷ parts) [] h = absurd h
logical_more entry spec before done (part ∷ parts) (s ∷ ss) h =
    logical_step s.terms.logical (in_table table.Mbr part) (length (in_tables table.Mbr before)) (most_primary spec)
    (entry part s)
    (entries_for (λ s. s.terms.logical) entry parts ss) part (in_tables table.Mbr parts) h.0.logical
    (subst
    (λ (n : ℕ).
    (entries_for (λ s. s.terms.logical) entry parts ss ≡ [])
    ⊎ (most_primary spec < n + length (in_tables table.Mbr parts)))
    (count_one (in_table table.Mbr) before part)
    (logical_more entry spec (before ++ part ∷ []) (done ++ s ∷ []) parts ss h.1))

four_at_most : (key count : ℕ) → key ≤ 4 → primaries key count ≤ 4
four_at_most zero count h = elim (cases_Bool (nat_le count 4)) [
  | inl few ↦ let small = leb-true count 4 few in rw few small
  | inr more ↦ rw more (omega arith)
]
four_at_most (suc before) count h = omega arith

three_where_more : (key count : ℕ) → key ≤ 4 → primaries key count < count → primaries key count ≤ 3
three_where_more zero count h more = elim (cases_Bool (nat_le count 4)) [
  | inl few ↦ let same : count < count = rw few at more in absurd (omega arith)
  | inr many ↦ rw many (omega arith)
]
three_where_more (suc before) count h more = omega arith

pub primary_four : (spec : ImageSpec) → spec.keys.hd.extended_partition ≤ 4 → most_primary spec ≤ 4
primary_four spec h = four_at_most spec.keys.hd.extended_partition (length (in_tables table.Mbr spec.keys.parts)) h

pub primary_three :
    (spec : ImageSpec) → spec.keys.hd.extended_partition ≤ 4
    → most_primary spec < length (in_tables table.Mbr spec.keys.parts) → most_primary spec ≤ 3
primary_three spec h more =
    three_where_more spec.keys.hd.extended_partition (length (in_tables table.Mbr spec.keys.parts)) h more
