-- A hybrid's master boot record reads as what it was made of.
use Rattle.std.specs.Prelude.{◌≡◌, ℕ, zero, suc, ◌+◌, ◌*◌, ◌<◌, List, length, slice_index_or}
use Rattle.std.proofs.Common.{arith, inl, inr, lit<, refl}
use Rattle.std.proofs.lemmas.Bool.{cases_lt}
use Rattle.std.proofs.lemmas.List.{get_or_past}
use Rattle.mbr_table.specs.Mbr.{no_entry, entry_of, protective}
use Rattle.base_fields.specs.Parts.{AreInOrder, HoldsParts}
use Rattle.mbr_table.proofs.Held.{mbr_held, mbr_in_order}
use Rattle.mbr_table.proofs.ReadsBack.{mbr_reads_back}
use Rattle.mbr_table.specs.Reading.{EntryFits, MbrFits, slot_at}
use Rattle.mbr_table.specs.declared.mbr.MbrEntry.{MbrEntry}
use Rattle.hybrid_table.specs.Hybrid.{HoldsHybrid, HybridFits, HybridReadsBack, hybrid_parts, hybrid_spec}

-- the numbers of the protective entry fit
protective_fits : (front : ℕ) → EntryFits (protective front)
protective_fits front = record { kind = lit< tt; first = lit< tt; count = omega arith; used = λ active. refl }

-- and those of an empty entry
none_fits : EntryFits no_entry
none_fits = record { kind = lit< tt; first = lit< tt; count = lit< tt; used = λ active. cc }

-- and those of an entry that is given, or an empty one
given_fits : (signature : ℕ) (given : List MbrEntry) → HybridFits signature given → (k : ℕ) → EntryFits (slice_index_or given k no_entry)
given_fits signature given fits k = elim (cases_lt k (length given)) [
  | inl inside ↦ fits.entries k inside
  | inr past ↦ rw (get_or_past given k no_entry past) none_fits
]

spec_fits : (signature front : ℕ) (given : List MbrEntry) → HybridFits signature given → (k : ℕ) → k < 4 → EntryFits (entry_of (hybrid_spec signature front given) k)
spec_fits signature front given fits zero h = protective_fits front
spec_fits signature front given fits (suc zero) h = given_fits signature given fits 0
spec_fits signature front given fits (suc (suc zero)) h = given_fits signature given fits 1
spec_fits signature front given fits (suc (suc (suc zero))) h = given_fits signature given fits 2
spec_fits signature front given fits (suc (suc (suc (suc k)))) h = absurd (omega arith)

below_three : (P : ℕ → Type 0) → P 0 → P 1 → P 2 → (k : ℕ) → k < 3 → P k
below_three P a b c zero h = a
below_three P a b c (suc zero) h = b
below_three P a b c (suc (suc zero)) h = c
below_three P a b c (suc (suc (suc k))) h = absurd (omega arith)

-- what a hybrid's record is made of is as that of any master boot record
pub hybrid_fits : (signature front : ℕ) (given : List MbrEntry) → HybridFits signature given → MbrFits (hybrid_spec signature front given)
hybrid_fits signature front given fits = record { signature = fits.signature_fits; four = refl; entries = spec_fits signature front given fits }

-- an image that has the part has the bytes of the record
pub hybrid_held : (signature front : ℕ) (given : List MbrEntry) (image : ℕ → ℕ) → HoldsParts image (hybrid_parts signature front given) → HoldsHybrid image signature front given
hybrid_held signature front given image holds = mbr_held (hybrid_spec signature front given) image holds

pub hybrid_in_order : (signature front : ℕ) (given : List MbrEntry) → AreInOrder 0 (hybrid_parts signature front given)
hybrid_in_order signature front given = mbr_in_order (hybrid_spec signature front given)

pub hybrid_reads_back : HybridReadsBack
hybrid_reads_back signature front given image fits holds =
    let spec = hybrid_spec signature front given in
    let reads = mbr_reads_back spec image (hybrid_fits signature front given fits) holds in
    record {
      marked = reads.marked;
      signature_read = reads.signature;
      protected = reads.slots 0 (lit< tt);
      slots = below_three (λ (k : ℕ). slot_at image (462 + 16 * k) ≡ slice_index_or given k no_entry)
          (reads.slots 1 (lit< tt)) (reads.slots 2 (lit< tt)) (reads.slots 3 (lit< tt));
    }
