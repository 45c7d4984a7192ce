-- The proof that a master boot record reads as what it was made of.
use Rattle.std.specs.Prelude.{◌≡◌, ℕ, zero, suc, ◌+◌, ◌*◌, ◌<◌, [], take, drop}
use Rattle.std.proofs.Common.{refl, ◌∙◌, arith, lit<}
use Rattle.byteorder.specs.Endian.{little_bytes}
use Rattle.mbr_table.specs.Mbr.{entry_of, mbr_fields}
use Rattle.mbr_table.specs.Reading.{HoldsMbr, MbrReadsBack, slot_at}
use Rattle.base_fields.proofs.FieldRuns.{byte_of-run, run_passes}
use Rattle.mbr_table.proofs.SlotReads.{slot_reads}
use Rattle.base_fields.proofs.Images.{Has, number_reads, part_of}
use Rattle.mbr_table.specs.declared.mbr.MbrSpec.{MbrSpec}
use Rattle.base_fields.specs.Fields.{joined}

-- such an image has the fields' bytes one after another
has_bytes : (spec : MbrSpec) (image : ℕ → ℕ) → HoldsMbr image spec → Has image 440 (joined (mbr_fields spec))
has_bytes spec image holds i h =
    holds (440 + i) (omega arith) (omega arith) ∙ byte_of-run (mbr_fields spec) 440 i (run_passes (mbr_fields spec) 440 refl)

below_four : (P : ℕ → Type 0) → P 0 → P 1 → P 2 → P 3 → (k : ℕ) → k < 4 → P k
below_four P a b c d zero h = a
below_four P a b c d (suc zero) h = b
below_four P a b c d (suc (suc zero)) h = c
below_four P a b c d (suc (suc (suc zero))) h = d
below_four P a b c d (suc (suc (suc (suc k)))) h = absurd (omega arith)

pub mbr_reads_back : MbrReadsBack
mbr_reads_back spec image fits holds =
    let bytes = joined (mbr_fields spec) in
    let has : Has image 440 bytes = has_bytes spec image holds in
    record {
      marked = (has 70 (lit< tt), has 71 (lit< tt));
      signature = number_reads image 440 4 spec.signature fits.signature (part_of image 440 [] (little_bytes 4 spec.signature) (drop 4 bytes) has);
      slots = below_four (λ (k : ℕ). slot_at image (446 + 16 * k) ≡ entry_of spec k)
          (slot_reads image 0 446 (entry_of spec 0) (fits.entries 0 (lit< tt)) (part_of image 440 (take 6 bytes) (take 16 (drop 6 bytes)) (drop 22 bytes) has))
          (slot_reads image 0 462 (entry_of spec 1) (fits.entries 1 (lit< tt)) (part_of image 440 (take 22 bytes) (take 16 (drop 22 bytes)) (drop 38 bytes) has))
          (slot_reads image 0 478 (entry_of spec 2) (fits.entries 2 (lit< tt)) (part_of image 440 (take 38 bytes) (take 16 (drop 38 bytes)) (drop 54 bytes) has))
          (slot_reads image 0 494 (entry_of spec 3) (fits.entries 3 (lit< tt)) (part_of image 440 (take 54 bytes) (take 16 (drop 54 bytes)) (drop 70 bytes) has));
    }
