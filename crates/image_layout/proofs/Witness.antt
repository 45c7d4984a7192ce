-- Two layouts that meet what is asked of one: a partition in the hole of another, and a logical partition in a chain.
use Rattle.std.specs.Prelude.{◌≡◌, ℕ, zero, suc, ◌+◌, ◌<◌, ◌≤◌, ◌≢◌, ◌^◌, slice_index_or, [], ◌∷◌, All, None, Some, false, IsTrue}
use Rattle.std.proofs.Common.{refl, arith, inl, lit<, lit≤}
use Rattle.std.proofs.lemmas.Bool.Decides.{nat_tests}
use Rattle.std.proofs.lemmas.List.Elements.{All-cons, All-nil}
use Rattle.base_fields.specs.declared.spans.Span.{Span}
use Rattle.base_fields.specs.declared.spans.TableKind.TheVariants as table
use Rattle.mbr_table.specs.Mbr.{HasLast, entry_of, no_entry}
use Rattle.mbr_table.specs.Reading.{EntryFits, MbrFits}
use Rattle.mbr_table.specs.declared.mbr.MbrEntry.{MbrEntry}
use Rattle.mbr_table.specs.declared.mbr.MbrSpec.{MbrSpec}
use Rattle.extended_chain.specs.Chain.{Ascends, logical_of}
use Rattle.extended_chain.specs.ChainReading.{LogicalFits}
use Rattle.extended_chain.specs.Extended.{extended_entry_of}
use Rattle.extended_chain.specs.declared.chain.LogicalSpec.{LogicalSpec}
use Rattle.extended_chain.proofs.Held.{tables_apart}
use Rattle.image_layout.specs.IsLayout.{AreHoles, ClaimApart, IsChain, IsLayout, IsPart, SectorsApart}
use Rattle.image_layout.specs.Layout.{is_claimed, table_byte, table_parts}
use Rattle.image_layout.specs.declared.layout.Layout.{Layout}
use Rattle.image_layout.specs.declared.layout.Placed.{Placed}
use Rattle.image_layout.proofs.Rows.{inner, nested, outer}

-- ---- a partition in the hole of another

pub no_holes : AreHoles []
no_holes = record {
  few = lit≤ tt;
  filled = λ k d below. absurd (omega arith);
  ascend = λ i j d before below. absurd (omega arith);
  bounded = λ k d below. absurd (omega arith);
}

one_hole : (s : Span) → 0 < s.len → s.at + s.len ≤ 2 ^ 43 → AreHoles (s ∷ [])
one_hole s some small = record {
  few = lit≤ tt;
  filled = All-cons (λ h. 0 < h.len) s [] some (All-nil (λ h. 0 < h.len));
  ascend = λ i j d before below. absurd (omega arith);
  bounded = All-cons (λ h. h.at + h.len ≤ 2 ^ 43) s [] small (All-nil (λ h. h.at + h.len ≤ 2 ^ 43));
}

outer_part : IsPart 12 outer
outer_part = record { inside = lit≤ tt; file = lit≤ tt; source = λ none. absurd (cc); holes = one_hole (record { at = 3; len = 4 }) (lit< tt) (lit≤ tt) }

inner_part : IsPart 12 inner
inner_part = record { inside = lit≤ tt; file = lit≤ tt; source = λ none. absurd (cc); holes = no_holes }

in_hole : ClaimApart outer inner
in_hole o first second = grind (arith, nat_tests)

two_apart : (p q : Placed) → ClaimApart p q → (i j : ℕ) (d : Placed) → i < j → j < 2 → ClaimApart (slice_index_or (p ∷ q ∷ []) i d) (slice_index_or (p ∷ q ∷ []) j d)
two_apart p q apart zero zero d before below = absurd (omega arith)
two_apart p q apart zero (suc zero) d before below = apart
two_apart p q apart zero (suc (suc j)) d before below = absurd (omega arith)
two_apart p q apart (suc i) j d before below = absurd (omega arith)

nested_is : IsLayout nested
nested_is = record {
  size = lit≤ tt;
  sector = inl refl;
  few = lit≤ tt;
  parts = All-cons (IsPart 12) outer (inner ∷ []) outer_part (All-cons (IsPart 12) inner [] inner_part (All-nil (IsPart 12)));
  tabled = record { mbr = refl; gpt = refl; logical = refl; hybrid = refl };
  inside = λ k d below. absurd (omega arith);
  apart = record {
    claims = two_apart outer inner in_hole;
    tables = λ i j d before below. absurd (omega arith);
    across = λ k d below o claimed. refl;
  };
}

-- ---- a logical partition of two sectors, behind its boot record in sector 1

abbrev logical : LogicalSpec
logical = record { active = false; kind = 0x83; head = 1; first = 2; count = 2 }

abbrev extended : MbrEntry
extended = record { active = false; kind = 0x0F; first = 1; count = 3 }

abbrev boot_record : MbrSpec
boot_record = record { signature = 1; entries = extended ∷ no_entry ∷ no_entry ∷ no_entry ∷ [] }

abbrev root : Placed
root = record { name = []; source = Some (97 ∷ []); at = 1024; size = 1024; len = 1000; whole = false; holes = [] }

abbrev chained : Layout
chained = record {
  file = 99 ∷ [];
  size = 2048;
  fill = 0;
  whole = false;
  table = table.Mbr;
  sector = 512;
  mbr = Some boot_record;
  hybrid = [];
  logical = logical ∷ [];
  gpt = None;
  parts = root ∷ [];
}

below_four : (P : ℕ → Type 0) → P 0 → P 1 → P 2 → P 3 → (k : ℕ) → k < 4 → P k
below_four P a b c d zero h = a
below_four P a b c d (suc zero) h = b
below_four P a b c d (suc (suc zero)) h = c
below_four P a b c d (suc (suc (suc zero))) h = d
below_four P a b c d (suc (suc (suc (suc k)))) h = absurd (omega arith)

none_fits : EntryFits no_entry
none_fits = record { kind = lit< tt; first = lit< tt; count = lit< tt; used = λ active. absurd (cc) }

record_fits : MbrFits boot_record
record_fits = record {
  signature = lit< tt;
  four = refl;
  entries = below_four (λ k. EntryFits (entry_of boot_record k)) (record { kind = lit< tt; first = lit< tt; count = lit< tt; used = λ active. refl }) none_fits none_fits none_fits;
}

only_first : (P : ℕ → Type 0) → P 0 → (k : ℕ) → k < 1 → P k
only_first P a zero h = a
only_first P a (suc k) h = absurd (omega arith)

ascends : Ascends (logical ∷ [])
ascends = record {
  ahead = only_first (λ k. (logical_of (logical ∷ []) k).head < (logical_of (logical ∷ []) k).first) (lit< tt);
  rises = λ k h. absurd (omega arith);
  fits = only_first (λ k. (logical_of (logical ∷ []) k).first + (logical_of (logical ∷ []) k).count < (logical_of (logical ∷ []) k).head + 2 ^ 32) (lit< tt);
}

is_chain : IsChain boot_record (logical ∷ []) 0
is_chain = record {
  slot = lit< tt;
  entry = refl;
  few = lit≤ tt;
  fits = only_first (λ k. LogicalFits (logical_of (logical ∷ []) k)) (record { kind = lit< tt; head = lit< tt; first = lit< tt; count = lit< tt });
  ascends = ascends;
  primaries = below_four (λ j. j ≢ 0 → SectorsApart (entry_of boot_record j) (extended_entry_of (logical ∷ []))) (λ other. absurd (other refl)) (λ other. inl (lit≤ tt)) (λ other. inl (lit≤ tt)) (λ other. inl (lit≤ tt));
}

has_last : All (HasLast 0) boot_record.entries
has_last =
    All-cons (HasLast 0) extended (no_entry ∷ no_entry ∷ no_entry ∷ []) (λ used. lit< tt)
    (All-cons (HasLast 0) no_entry (no_entry ∷ no_entry ∷ []) (λ used. absurd (cc))
    (All-cons (HasLast 0) no_entry (no_entry ∷ []) (λ used. absurd (cc))
    (All-cons (HasLast 0) no_entry [] (λ used. absurd (cc)) (All-nil (HasLast 0)))))

root_part : IsPart 2048 root
root_part = record { inside = lit≤ tt; file = lit≤ tt; source = λ none. absurd (cc); holes = no_holes }

root_claims : (o : ℕ) → IsTrue (is_claimed root o) → 1024 ≤ o
root_claims o claimed = grind (arith, nat_tests)

beside_tables : (o : ℕ) → IsTrue (is_claimed root o) → table_byte chained o ≡ None
beside_tables o claimed =
    let low : 1024 ≤ o = root_claims o claimed in
    grind (arith, nat_tests)

tables_inside : All (λ p. p.at + p.len ≤ 2048) (table_parts chained)
tables_inside zero d below = lit≤ tt
tables_inside (suc zero) d below = lit≤ tt
tables_inside (suc (suc k)) d below = absurd (omega arith)

chained_is : IsLayout chained
chained_is = record {
  size = lit≤ tt;
  sector = inl refl;
  few = lit≤ tt;
  parts = All-cons (IsPart 2048) root [] root_part (All-nil (IsPart 2048));
  tabled = record { fits = record_fits; last = has_last; sector = refl; gpt = refl; hybrid = refl; chain = λ some. is_chain };
  inside = tables_inside;
  apart = record {
    claims = λ i j d before below. absurd (omega arith);
    tables = tables_apart boot_record (logical ∷ []) ascends (λ some. lit< tt);
    across = All-cons (λ p. (o : ℕ) → IsTrue (is_claimed p o) → table_byte chained o ≡ None) root [] beside_tables (All-nil (λ p. (o : ℕ) → IsTrue (is_claimed p o) → table_byte chained o ≡ None));
  };
}
