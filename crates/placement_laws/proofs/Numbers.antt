-- The terms of a partition by its number.
use Rattle.std.specs.Prelude.{◌≡◌, ◌≢◌, ℕ, zero, suc, ◌+◌, ◌-◌, ◌<◌, ◌≤◌, ◌↔◌, ◌&&◌, ◌||◌, Bool, true, false, cond, List, [], ◌∷◌, ◌++◌, drop, filter, is_some, length, nat_le, nat_lt, take, unwrap_or}
use Rattle.std.proofs.Common.{refl, ap, sym, subst, ◌∙◌, inl, inr, append_assoc, arith, get_or, length-drop}
use Rattle.std.proofs.lemmas.Bool.{and_from, and_parts, le-leb, leb-false, leb-true, lt-leb, lt-ltb, ltb-true, or_cases}
use Rattle.std.proofs.lemmas.List.{append-nil, drop_all}
use Rattle.std.proofs.lemmas.Slice.Zip.{AllZip-long}
use Rattle.base_fields.specs.declared.spans.TableKind.{TableKind}
use Rattle.base_fields.specs.declared.spans.TableKind.TheVariants as table
use Rattle.conf_keys.specs.declared.conf.HdKeys.{HdKeys}
use Rattle.conf_keys.specs.declared.conf.Kind.{Kind}
use Rattle.conf_keys.specs.declared.conf.Kind.TheVariants as kind
use Rattle.conf_keys.specs.declared.conf.PartitionSection.{PartitionSection}
use Rattle.image_specs.specs.IsSpec.{AreSources}
use Rattle.image_specs.specs.declared.specs.ImageSpec.{ImageSpec}
use Rattle.placement_rules.specs.Frames.{is_hybrid, is_mbr}
use Rattle.placement_rules.specs.Terms.{align_of, default_align, in_table, in_tables, is_logical, is_narrow, is_nil, is_typed, primaries, terms, terms_as, terms_from, terms_of}
use Rattle.placement_rules.specs.declared.terms.Terms.{Terms}
use Rattle.placement_laws.specs.Terms.{AreTermsOf, HasAlign, IsBehindPrimary, IsLogical, IsNarrow, IsTabled, TermsExactly, tabled, typed}
use Rattle.placement_laws.proofs.Images.{from_count}

-- ---- one word for what is in the table

same_tabled : (t : TableKind) (part : PartitionSection) → in_table t part ≡ tabled t part
same_tabled table.Bare part = refl
same_tabled table.Mbr part = refl
same_tabled table.Gpt part = refl
same_tabled table.Hybrid part = refl

same_filter : (p q : PartitionSection → Bool) → ((part : PartitionSection) → p part ≡ q part) → (parts : List PartitionSection) → filter p parts ≡ filter q parts
same_filter p q same [] = refl
same_filter p q same (part ∷ parts) =
    ap (λ b. cond b (part ∷ filter p parts) (filter p parts)) (same part) ∙ ap (λ ps. cond (q part) (part ∷ ps) ps) (same_filter p q same parts)

in_table_is : (t : TableKind) (part : PartitionSection) → in_table t part ≡ true ↔ IsTabled t part
in_table_is table.Bare part = (λ h. absurd_of h, λ h. absurd (h.0 refl))
  where
    absurd_of : false ≡ true → IsTabled table.Bare part
    absurd_of h = cc
in_table_is table.Mbr part = (λ h. (λ same. cc, h), λ h. h.1)
in_table_is table.Gpt part = (λ h. (λ same. cc, h), λ h. h.1)
in_table_is table.Hybrid part = (λ h. (λ same. cc, h), λ h. h.1)

mbr_is : (t : TableKind) → is_mbr t ≡ true → t ≡ table.Mbr
mbr_is table.Bare h = cc
mbr_is table.Mbr h = refl
mbr_is table.Gpt h = cc
mbr_is table.Hybrid h = cc

hybrid_is : (t : TableKind) → is_hybrid t ≡ true → t ≡ table.Hybrid
hybrid_is table.Bare h = cc
hybrid_is table.Mbr h = cc
hybrid_is table.Gpt h = cc
hybrid_is table.Hybrid h = refl

-- ---- aligns

default_guid : (t : TableKind) (part : PartitionSection) → in_table t part ≡ true → t ≢ table.Mbr → default_align t ≡ 1048576
default_guid table.Bare part inside other = cc
default_guid table.Mbr part inside other = absurd (other refl)
default_guid table.Gpt part inside other = refl
default_guid table.Hybrid part inside other = refl

align_has : (hd : HdKeys) (part : PartitionSection) → HasAlign hd part (in_table hd.partition_table_type part) (align_of hd.partition_table_type hd part)
align_has hd part =
    let rest : ℕ = cond (in_table hd.partition_table_type part) (unwrap_or hd.align (default_align hd.partition_table_type)) 1 in
    let whole : ℕ = unwrap_or hd.align (default_align hd.partition_table_type) in
    record {
      own = λ n is. ap (λ o. unwrap_or o rest) is;
      outside = λ none out. ap (λ o. unwrap_or o rest) none ∙ ap (λ b. cond b whole 1) out;
      image = λ none inside n is. ap (λ o. unwrap_or o rest) none ∙ ap (λ b. cond b whole 1) inside ∙ ap (λ o. unwrap_or o (default_align hd.partition_table_type)) is;
      sector = λ takes kind.
          ap (λ o. unwrap_or o rest) takes.0 ∙ ap (λ b. cond b whole 1) takes.1 ∙ ap (λ o. unwrap_or o (default_align hd.partition_table_type)) takes.2 ∙ ap default_align kind;
      mebibyte = λ takes other.
          ap (λ o. unwrap_or o rest) takes.0 ∙ ap (λ b. cond b whole 1) takes.1 ∙ ap (λ o. unwrap_or o (default_align hd.partition_table_type)) takes.2 ∙ default_guid hd.partition_table_type part takes.1 other;
    }

-- ---- logical ones

rank_below : (p : PartitionSection → Bool) (parts : List PartitionSection) (k : ℕ) (d : PartitionSection) → k < length parts → p (get_or parts k d) ≡ true → length (filter p (take k parts)) < length (filter p parts)
rank_below p [] k d below here = absurd (omega arith)
rank_below p (part ∷ parts) zero d below here = subst (λ (b : Bool). 0 < length (cond b (part ∷ filter p parts) (filter p parts))) (sym here) (omega arith)
rank_below p (part ∷ parts) (suc k) d below here = by_case (p part) (rank_below p parts k d (omega arith) here)
  where
    by_case : (b : Bool) → length (filter p (take k parts)) < length (filter p parts) → length (cond b (part ∷ filter p (take k parts)) (filter p (take k parts))) < length (cond b (part ∷ filter p parts) (filter p parts))
    by_case true rest = omega arith
    by_case false rest = rest

behind_told : (slot count before : ℕ) → before < count → nat_le (primaries slot count) before ≡ true → IsBehindPrimary slot count before
behind_told zero count before less h = by_case (nat_le count 4) refl h
  where
    by_case : (b : Bool) → nat_le count 4 ≡ b → nat_le (cond b count 3) before ≡ true → IsBehindPrimary 0 count before
    by_case true few told = let low : count ≤ before = leb-true _ _ told in absurd (omega arith)
    by_case false many told =
        let more : 4 < count = leb-false _ _ many in
        let third : 3 ≤ before = leb-true _ _ told in
        inr (refl, more, third)
behind_told (suc slot) count before less h = let low : slot ≤ before = leb-true _ _ h in inl (omega arith, omega arith)

told_behind : (slot count before : ℕ) → IsBehindPrimary slot count before → nat_le (primaries slot count) before ≡ true
told_behind zero count before (inl given) = absurd (omega (arith, given.0))
told_behind zero count before (inr none) =
    let many : nat_le count 4 ≡ false = lt-leb _ _ none.1 in
    let third : primaries 0 count ≡ 3 = ap (λ b. cond b count 3) many in
    ap (λ n. nat_le n before) third ∙ le-leb _ _ none.2
told_behind (suc slot) count before (inl given) = le-leb slot before (omega (arith, given.1))
told_behind (suc slot) count before (inr none) = absurd (omega (arith, none.0))

logical_is : (hd : HdKeys) (parts : List PartitionSection) (k : ℕ) (d : PartitionSection) → k < length parts → is_logical hd.partition_table_type hd parts (take k parts) (get_or parts k d) ≡ true ↔ IsLogical hd parts k (in_table hd.partition_table_type (get_or parts k d))
logical_is hd parts k d below =
    let t : TableKind = hd.partition_table_type in
    let part : PartitionSection = get_or parts k d in
    let count : length (in_tables hd.partition_table_type parts) ≡ length (filter (tabled hd.partition_table_type) parts) = ap length (same_filter (in_table hd.partition_table_type) (tabled hd.partition_table_type) (same_tabled hd.partition_table_type) parts) in
    let rank : length (in_tables hd.partition_table_type (take k parts)) ≡ length (filter (tabled hd.partition_table_type) (take k parts)) = ap length (same_filter (in_table hd.partition_table_type) (tabled hd.partition_table_type) (same_tabled hd.partition_table_type) (take k parts)) in (
      λ h.
          let outer = and_parts (is_mbr t && in_table t part) _ h in
          let inner = and_parts (is_mbr t) (in_table t part) outer.0 in
          let behind = behind_told hd.extended_partition (length (in_tables t parts)) (length (in_tables t (take k parts))) (rank_below (in_table t) parts k d below inner.1) outer.1 in
          (mbr_is t inner.0, inner.1, moved hd.extended_partition _ _ _ _ count rank behind),
      λ h.
          and_from (is_mbr t && in_table t part) _ (and_from (is_mbr t) (in_table t part) (ap is_mbr h.0) h.1)
          (told_behind hd.extended_partition (length (in_tables t parts)) (length (in_tables t (take k parts))) (moved hd.extended_partition _ _ _ _ (sym count) (sym rank) h.2)),
    )
  where
    moved : (slot a b m n : ℕ) → a ≡ b → m ≡ n → IsBehindPrimary slot a m → IsBehindPrimary slot b n
    moved slot a b m n first second h = subst (λ (x : ℕ). IsBehindPrimary slot x n) first (subst (λ (x : ℕ). IsBehindPrimary slot a x) second h)

-- ---- sectors of 32 bits

same_typed : (t : TableKind) (part : PartitionSection) → is_typed t part ≡ typed t part
same_typed t part = ap (λ b. b && is_some part.partition_type) (same_tabled t part)

narrow_is : (hd : HdKeys) (parts : List PartitionSection) (k : ℕ) (part : PartitionSection) → is_narrow hd.partition_table_type (take k parts) part ≡ true ↔ IsNarrow hd parts k part (in_table hd.partition_table_type part)
narrow_is hd parts k part =
    let t : TableKind = hd.partition_table_type in
    let few : Bool = nat_lt (length (filter (is_typed hd.partition_table_type) (take k parts))) 3 in
    let rank : length (filter (is_typed hd.partition_table_type) (take k parts)) ≡ length (filter (typed hd.partition_table_type) (take k parts)) = ap length (same_filter (is_typed hd.partition_table_type) (typed hd.partition_table_type) (same_typed hd.partition_table_type) (take k parts)) in (
      λ h. elim (or_cases (is_mbr t && in_table t part) (is_hybrid t && is_typed t part && few) h) [
        | inl mbr ↦ (let both = and_parts (is_mbr t) (in_table t part) mbr in inl (mbr_is t both.0, both.1))
        | inr hybrid ↦ (let outer = and_parts (is_hybrid t && is_typed t part) few hybrid in
            let inner = and_parts (is_hybrid t) (is_typed t part) outer.0 in
            let own = and_parts (in_table t part) (is_some part.partition_type) inner.1 in
            let less : length (filter (is_typed hd.partition_table_type) (take k parts)) < 3 = ltb-true _ _ outer.1 in
            inr (hybrid_is t inner.0, own.0, (own.1, omega arith)))
      ],
      λ h. elim h [
        | inl mbr ↦ left (is_mbr t && in_table t part) (is_hybrid t && is_typed t part && few) (and_from (is_mbr t) (in_table t part) (ap is_mbr mbr.0) mbr.1)
        | inr hybrid ↦
            right (is_mbr t && in_table t part) (is_hybrid t && is_typed t part && few)
            (and_from (is_hybrid t && is_typed t part) few
            (and_from (is_hybrid t) (is_typed t part) (ap is_hybrid hybrid.0) (and_from (in_table t part) (is_some part.partition_type) hybrid.1 hybrid.2.0))
            (lt-ltb _ _ (omega (arith, hybrid.2.1))))
      ],
    )
  where
    left : (a b : Bool) → a ≡ true → (a || b) ≡ true
    left true b h = refl
    left false b h = cc

    right : (a b : Bool) → b ≡ true → (a || b) ≡ true
    right true b h = refl
    right false b h = h

-- ---- the last

nil_length : (parts : List PartitionSection) → is_nil parts ≡ true → length parts ≡ 0
nil_length [] h = refl
nil_length (part ∷ parts) h = cc

last_is : (parts : List PartitionSection) (k : ℕ) → k < length parts → is_nil (drop (k + 1) parts) ≡ true ↔ (k + 1 ≡ length parts)
last_is parts k below = (
  λ h. (let none : length (drop (k + 1) parts) ≡ 0 = nil_length (drop (k + 1) parts) h in
      let left : length (drop (k + 1) parts) ≡ length parts - (k + 1) = length-drop (k + 1) parts in
      omega arith),
  λ h. ap is_nil (drop_all (k + 1) parts (omega arith)),
)

-- ---- by number

at_number : (spec : ImageSpec) (t : TableKind) (front parts : List PartitionSection) (lens : List ℕ) (k : ℕ) (part : PartitionSection) (d : Terms) → length lens ≡ length parts → k < length parts → get_or (terms_from spec t front parts lens) k d ≡ terms_of spec t (front ++ take k parts) (get_or parts k part) (drop (k + 1) parts) (get_or lens k 0)
at_number spec t front [] lens k part d count below = absurd (omega arith)
at_number spec t front (first ∷ parts) [] k part d count below = absurd (omega arith)
at_number spec t front (first ∷ parts) (len ∷ lens) zero part d count below = ap (λ b. terms_of spec t b first parts len) (sym (append-nil front))
at_number spec t front (first ∷ parts) (len ∷ lens) (suc k) part d count below =
    let next : suc (k + 1) ≡ suc k + 1 = omega arith in
    at_number spec t (front ++ first ∷ []) parts lens k part d (omega arith) (omega arith)
    ∙ ap (λ b. terms_of spec t b (get_or parts k part) (drop (k + 1) parts) (get_or lens k 0)) (append_assoc front (first ∷ []) (take k parts))
    ∙ ap (λ n. terms_of spec t (front ++ (first ∷ take k parts)) (get_or parts k part) (drop n (first ∷ parts)) (get_or lens k 0)) next

terms_hold : (spec : ImageSpec) (k : ℕ) (part : PartitionSection) (len : ℕ) → k < length spec.keys.parts → AreTermsOf spec.keys.hd spec.keys.parts k (get_or spec.keys.parts k part) len (terms_of spec spec.keys.hd.partition_table_type (take k spec.keys.parts) (get_or spec.keys.parts k part) (drop (k + 1) spec.keys.parts) len)
terms_hold spec k part len below = record {
  offset = refl;
  size = refl;
  len = refl;
  autoresize = refl;
  in_table = in_table_is spec.keys.hd.partition_table_type (get_or spec.keys.parts k part);
  align = align_has spec.keys.hd (get_or spec.keys.parts k part);
  logical = logical_is spec.keys.hd spec.keys.parts k part below;
  narrow = narrow_is spec.keys.hd spec.keys.parts k (get_or spec.keys.parts k part);
  last = last_is spec.keys.parts k below;
}

disk_terms : (spec : ImageSpec) (lens : List ℕ) → spec.kind ≡ kind.Hd → terms spec lens ≡ terms_from spec spec.keys.hd.partition_table_type [] spec.keys.parts lens
disk_terms spec lens disk = ap (λ (k : Kind). terms_as k spec lens) disk

pub terms_exactly : TermsExactly
terms_exactly spec lens is disk =
    let sources : AreSources kind.Hd spec.keys.parts spec.sources = subst (λ (k : Kind). AreSources k spec.keys.parts spec.sources) disk is.built.sources in
    let long : length lens ≡ length spec.keys.parts = is.count ∙ AllZip-long _ spec.keys.parts spec.sources sources in
    let same = disk_terms spec lens disk in
    record {
      count = ap length same ∙ from_count spec spec.keys.hd.partition_table_type [] spec.keys.parts lens long;
      each = λ k part t below.
          subst (λ (x : Terms). AreTermsOf spec.keys.hd spec.keys.parts k (get_or spec.keys.parts k part) (get_or lens k 0) x)
          (sym (ap (λ ts. get_or ts k t) same ∙ at_number spec spec.keys.hd.partition_table_type [] spec.keys.parts lens k part t long below))
          (terms_hold spec k part (get_or lens k 0) below);
    }
