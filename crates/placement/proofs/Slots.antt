-- The four slots of a master boot record.
use Rattle.std.proofs.Common.{◌≡◌, List, [], ◌∷◌, ◌++◌, refl, take}
use Rattle.std.specs.Prelude.{replicate, slice_index_or}
use Rattle.mbr_table.specs.Mbr.{no_entry}
use Rattle.mbr_table.specs.declared.mbr.MbrEntry.{MbrEntry}

pub four_slots : (es : List MbrEntry) → slice_index_or es 0 no_entry ∷ slice_index_or es 1 no_entry ∷ slice_index_or es 2 no_entry ∷ slice_index_or es 3 no_entry ∷ [] ≡ take 4 (es ++ replicate 4 no_entry)
four_slots [] = refl
four_slots (a ∷ []) = refl
four_slots (a ∷ b ∷ []) = refl
four_slots (a ∷ b ∷ c ∷ []) = refl
four_slots (a ∷ b ∷ c ∷ d ∷ es) = refl
