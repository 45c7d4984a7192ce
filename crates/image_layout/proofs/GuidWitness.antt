-- Layouts with a GUID partition table that meet what is asked of one: a protective record beside it, and a hybrid's.
use Rattle.std.specs.Prelude.{◌≡◌, ℕ, zero, suc, ◌+◌, ◌<◌, ◌≤◌, [], ◌∷◌, All, None, Some, true, false, IsTrue, replicate}
use Rattle.std.proofs.Common.{refl, arith, inl, lit<, lit≤}
use Rattle.std.proofs.lemmas.Bool.Decides.{nat_tests}
use Rattle.std.proofs.lemmas.List.Elements.{All-cons, All-nil}
use Rattle.base_fields.specs.Parts.{AreInOrder, IsIn}
use Rattle.base_fields.specs.declared.spans.TableKind.{TableKind}
use Rattle.base_fields.specs.declared.spans.TableKind.TheVariants as table
use Rattle.base_fields.proofs.PartBytes.{in_order_apart, part_byte-none}
use Rattle.mbr_table.specs.Mbr.{no_entry, protective}
use Rattle.mbr_table.specs.declared.mbr.MbrSpec.{MbrSpec}
use Rattle.gpt_table.specs.Gpt.{GptFits}
use Rattle.gpt_table.specs.declared.table.GptSpec.{GptSpec}
use Rattle.hybrid_table.specs.Hybrid.{hybrid_spec}
use Rattle.image_layout.specs.IsLayout.{IsGuid, IsLayout, IsPart, IsTabled, LiesApart}
use Rattle.image_layout.specs.Layout.{is_claimed, table_byte, table_parts}
use Rattle.image_layout.specs.declared.layout.Layout.{Layout}
use Rattle.image_layout.specs.declared.layout.Placed.{Placed}
use Rattle.image_layout.proofs.Witness.{no_holes}

-- of 128 sectors of 512 bytes, with a backup: sectors 34 to 94 are free
abbrev guid : GptSpec
guid = record { disk = replicate 16 0; sectors = 128; entries_at = 2; backup = true; entries = []; sector = 512 }

-- sectors 40 to 59
abbrev root : Placed
root = record { name = []; source = Some (97 ∷ []); at = 20480; size = 10240; len = 10000; whole = true; holes = [] }

abbrev with_table : TableKind → MbrSpec → Layout
with_table kind spec = record {
  file = 99 ∷ [];
  size = 65536;
  fill = 0;
  whole = false;
  table = kind;
  sector = 512;
  mbr = Some spec;
  hybrid = [];
  logical = [];
  gpt = Some guid;
  parts = root ∷ [];
}

guid_fits : GptFits guid
guid_fits = record {
  sector = inl refl;
  disk = refl;
  least = lit≤ tt;
  last = lit< tt;
  entries_at = lit< tt;
  has_entries = λ none. absurd (cc);
  usable = lit< tt;
  few = lit≤ tt;
  entries = λ k h. absurd (omega arith);
}

is_guid : (kind : TableKind) (spec : MbrSpec) → IsGuid (with_table kind spec) guid
is_guid kind spec = record {
  fits = guid_fits;
  apart = record { front = lit≤ tt; back = λ is. lit≤ tt };
  room = lit≤ tt;
  sector = refl;
  size = refl;
  logical = refl;
}

root_part : IsPart 65536 root
root_part = record { inside = lit≤ tt; file = lit≤ tt; source = λ none. absurd (cc); holes = no_holes }

in_order : (kind : TableKind) (spec : MbrSpec) → AreInOrder 0 (table_parts (with_table kind spec))
in_order kind spec = (lit≤ tt, (lit≤ tt, (lit≤ tt, (lit≤ tt, (lit≤ tt, tt)))))

inside : (kind : TableKind) (spec : MbrSpec) → All (λ p. p.at + p.len ≤ 65536) (table_parts (with_table kind spec))
inside kind spec zero d below = lit≤ tt
inside kind spec (suc zero) d below = lit≤ tt
inside kind spec (suc (suc zero)) d below = lit≤ tt
inside kind spec (suc (suc (suc zero))) d below = lit≤ tt
inside kind spec (suc (suc (suc (suc zero)))) d below = lit≤ tt
inside kind spec (suc (suc (suc (suc (suc k))))) d below = absurd (omega arith)

record Claims (o : ℕ) : Type 0 where
  low : 20480 ≤ o
  high : o < 30720

claims : (o : ℕ) → IsTrue (is_claimed root o) → Claims o
claims o claimed = record { low = grind (arith, nat_tests); high = grind (arith, nat_tests) }

beside : (kind : TableKind) (spec : MbrSpec) (o : ℕ) → Claims o → All (λ p. ¬ IsIn p o) (table_parts (with_table kind spec))
beside kind spec o c zero d below within = omega (arith, within.1)
beside kind spec o c (suc zero) d below within = omega (arith, within.1)
beside kind spec o c (suc (suc zero)) d below within = omega (arith, within.1)
beside kind spec o c (suc (suc (suc zero))) d below within = omega (arith, within.0)
beside kind spec o c (suc (suc (suc (suc zero)))) d below within = omega (arith, within.0)
beside kind spec o c (suc (suc (suc (suc (suc k))))) d below within = absurd (omega arith)

lies_apart : (kind : TableKind) (spec : MbrSpec) → LiesApart (with_table kind spec)
lies_apart kind spec = record {
  claims = λ i j d before below. absurd (omega arith);
  tables = in_order_apart (table_parts (with_table kind spec)) 0 (in_order kind spec);
  across = All-cons (λ p. (o : ℕ) → IsTrue (is_claimed p o) → table_byte (with_table kind spec) o ≡ None) root []
      (λ o claimed. part_byte-none (table_parts (with_table kind spec)) o (beside kind spec o (claims o claimed)))
      (All-nil (λ p. (o : ℕ) → IsTrue (is_claimed p o) → table_byte (with_table kind spec) o ≡ None));
}

is_layout : (kind : TableKind) (spec : MbrSpec) → IsTabled kind (with_table kind spec) → IsLayout (with_table kind spec)
is_layout kind spec tabled = record {
  size = lit≤ tt;
  sector = inl refl;
  few = lit≤ tt;
  parts = All-cons (IsPart 65536) root [] root_part (All-nil (IsPart 65536));
  tabled = tabled;
  inside = inside kind spec;
  apart = lies_apart kind spec;
}

abbrev protecting : MbrSpec
protecting = record { signature = 1; entries = protective 128 ∷ no_entry ∷ no_entry ∷ no_entry ∷ [] }

gpt_is : IsLayout (with_table table.Gpt protecting)
gpt_is = is_layout table.Gpt protecting (record { guid = is_guid table.Gpt protecting; signature = lit< tt; entries = refl; hybrid = refl })

abbrev beside_guid : MbrSpec
beside_guid = hybrid_spec 1 34 []

hybrid_is : IsLayout (with_table table.Hybrid beside_guid)
hybrid_is = is_layout table.Hybrid beside_guid (record {
  guid = is_guid table.Hybrid beside_guid;
  sector = refl;
  fits = record { few = lit≤ tt; signature_fits = lit< tt; entries = λ k h. absurd (omega arith) };
  last = λ k d below. absurd (omega arith);
  entries = refl;
})
