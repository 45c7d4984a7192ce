-- What a layout that can be covered has: few things, each at a place that can be counted.
use Rattle.std.specs.Prelude.{◌≡◌, ℕ, ◌^◌, ◌≤◌, List, [], All, Option, Some, None, IfSome, length}
use Rattle.std.proofs.Common.{sym, subst, arith, inl, inr}
use Rattle.extended_chain.specs.declared.chain.LogicalSpec.{LogicalSpec}
use Rattle.gpt_table.specs.declared.table.GptSpec.{GptSpec}
use Rattle.image_layout.specs.Covering.{CanBeCovered, FitsDisk}
use Rattle.image_layout.specs.IsLayout.{IsEmpty, IsGuid, IsLayout, IsPart}
use Rattle.image_layout.specs.declared.layout.Layout.{Layout}
use Rattle.image_layout.specs.declared.layout.Placed.{Placed}
use Rattle.image_layout.proofs.Tables.{HasTables, has_tables}

pub record IsCoverable (l : Layout) : Type 0 where
  pub size : l.size ≤ 2 ^ 43
  pub guid : IfSome l.gpt FitsDisk
  pub logical : length l.logical ≤ 256
  pub few : length l.parts ≤ 256
  pub parts : All (IsPart (2 ^ 43)) l.parts

guid_fits : (l : Layout) (gpt : Option GptSpec) → l.size ≤ 2 ^ 43 → IfSome gpt (IsGuid l) → IfSome gpt FitsDisk
guid_fits l None small is = tt
guid_fits l (Some g) small is = let size = is.size in record { fits = is.fits; room = is.room; size = omega arith }

no_guid : (l : Layout) → l.gpt ≡ None → IfSome l.gpt FitsDisk
no_guid l none = subst (λ (g : Option GptSpec). IfSome g FitsDisk) (sym none) tt

no_logical : (l : Layout) → l.logical ≡ [] → length l.logical ≤ 256
no_logical l none = subst (λ (xs : List LogicalSpec). length xs ≤ 256) (sym none) (omega arith)

wider : (size : ℕ) (p : Placed) → size ≤ 2 ^ 43 → IsPart size p → IsPart (2 ^ 43) p
wider size p small is = let inside = is.inside in record { inside = omega arith; file = is.file; source = is.source; holes = is.holes }

of_layout : (l : Layout) → IsLayout l → IsCoverable l
of_layout l is =
    let tables : HasTables l = has_tables l.table l is.tabled in
    record {
      size = is.size;
      guid = guid_fits l l.gpt is.size tables.gpt;
      logical = tables.few;
      few = is.few;
      parts = λ k d below. wider l.size _ is.size (is.parts k d below);
    }

of_empty : (l : Layout) → IsEmpty l → IsCoverable l
of_empty l is = record {
  size = is.size;
  guid = no_guid l is.bare.gpt;
  logical = no_logical l is.bare.logical;
  few = subst (λ (ps : List Placed). length ps ≤ 256) (sym is.parts) (omega arith);
  parts = subst (All (IsPart (2 ^ 43))) (sym is.parts) (λ k d below. absurd (omega arith));
}

pub coverable : (l : Layout) → CanBeCovered l → IsCoverable l
coverable l (inl is) = of_layout l is
coverable l (inr is) = of_empty l is
