-- The proof that a table reads as what it was made of.
use Rattle.std.specs.Prelude.{◌≡◌, ◌≢◌, ℕ, ◌+◌, ◌-◌, ◌*◌, ◌^◌, ◌<◌, ◌≤◌, ◌⊎◌, List, Bool, true, false, if◌then◌else◌}
use Rattle.std.proofs.Common.{refl, ◌∙◌, sym, ap, arith, inl, inr}
use Rattle.gpt_table.specs.Gpt.{GptFits, HasRoom, HasSectorSize, back_entries_at, back_header, entry_sectors, front_header, header_byte, header_fields, header_sum, last_sector, slot_of}
use Rattle.gpt_table.specs.Reading.{GptReadsBack, HoldsGpt, ReadsBackup, ReadsHeader}
use Rattle.gpt_table.specs.declared.table.GptSpec.{GptSpec}
use Rattle.base_fields.proofs.Images.{Has}
use Rattle.gpt_table.proofs.Inside.{back_entries_inside, back_inside, backup_sectors, entries_inside, front_inside}
use Rattle.gpt_table.proofs.HeaderReads.{HeaderFits, header_has, header_reads, sum-fits}
use Rattle.base_fields.specs.Fields.{joined}

either : (b : Bool) → (b ≡ true) ⊎ (b ≡ false)
either true = inl refl
either false = inr refl

both_fit : (b : Bool) (m n : ℕ) → m < 2 ^ 64 → n < 2 ^ 64 → (if b then m else n) < 2 ^ 64
both_fit true m n first second = first
both_fit false m n first second = second

room_for_header : (spec : GptSpec) → HasSectorSize spec → 92 ≤ spec.sector
room_for_header spec (inl e) = omega (arith, e)
room_for_header spec (inr e) = omega (arith, e)

front_fits : (spec : GptSpec) → GptFits spec → HeaderFits (front_header spec)
front_fits spec fits =
    let last = fits.last in
    record {
      own = omega arith;
      other = both_fit spec.backup (last_sector spec) 1 (omega arith) (omega arith);
      first_usable = fits.usable;
      last_usable = both_fit spec.backup (spec.sectors - 2 - entry_sectors spec) (last_sector spec) (omega arith) (omega arith);
      disk = fits.disk;
      entries_at = fits.entries_at;
      entries_sum = sum-fits spec.entries;
    }

back_fits : (spec : GptSpec) → GptFits spec → HeaderFits (back_header spec)
back_fits spec fits =
    let last = fits.last in
    record {
      own = omega arith;
      other = omega arith;
      first_usable = fits.usable;
      last_usable = both_fit spec.backup (spec.sectors - 2 - entry_sectors spec) (last_sector spec) (omega arith) (omega arith);
      disk = fits.disk;
      entries_at = omega arith;
      entries_sum = sum-fits spec.entries;
    }

-- LBA 1 is one sector from the start
one_sector : (image : ℕ → ℕ) (z : ℕ) (xs : List ℕ) → Has image z xs → Has image (1 * z) xs
one_sector image z xs has i h =
    let there : 1 * z + i ≡ z + i = omega arith in
    ap image there ∙ has i h

front_reads : (spec : GptSpec) (image : ℕ → ℕ) (len : ℕ) → GptFits spec → HasRoom spec → spec.sectors * spec.sector ≤ len → HoldsGpt image spec → ReadsHeader image len spec.sector (front_header spec) (slot_of spec.entries)
front_reads spec image len fits room long holds =
    let tall = room_for_header spec fits.sector in
    let header : spec.sector + spec.sector ≤ spec.sectors * spec.sector = front_inside spec room in
    let entries : spec.entries_at * spec.sector + 16384 ≤ spec.sectors * spec.sector = entries_inside spec room in
    let has = header_has image spec.sector spec.sector (front_header spec) fits.disk (room_for_header spec fits.sector) holds.front in
    header_reads image len spec.sector (front_header spec) spec.entries (omega arith) (omega arith) (front_fits spec fits) fits.has_entries refl fits.entries
    (one_sector image spec.sector (joined (header_fields (front_header spec) (header_sum (front_header spec)))) has) holds.entries

backup_reads : (spec : GptSpec) (image : ℕ → ℕ) (len : ℕ) → GptFits spec → spec.sectors * spec.sector ≤ len → HoldsGpt image spec → spec.backup ≡ true → ReadsBackup image len spec.sector (front_header spec) (back_header spec) (slot_of spec.entries)
backup_reads spec image len fits long holds is =
    let sectors : 2 + entry_sectors spec ≤ spec.sectors = backup_sectors spec fits is in
    let tall = room_for_header spec fits.sector in
    let entries : back_entries_at spec * spec.sector + 16384 ≤ last_sector spec * spec.sector = back_entries_inside spec fits is in
    let last : last_sector spec * spec.sector + spec.sector ≤ spec.sectors * spec.sector = back_inside spec fits is in
    let behind : back_entries_at spec ≢ 0 = omega arith in
    let has = header_has image (last_sector spec * spec.sector) spec.sector (back_header spec) fits.disk (room_for_header spec fits.sector)
    (λ i h. holds.back is i h ∙ ap (λ (b : Bool). if b then header_byte (back_header spec) i else 0) is) in
    record {
      header = header_reads image len spec.sector (back_header spec) spec.entries (omega arith) (omega arith) (back_fits spec fits) behind refl fits.entries has (holds.back_entries is);
      own = sym (ap (λ (b : Bool). if b then last_sector spec else 1) is);
      other = refl;
      first_usable = refl;
      last_usable = refl;
      disk = refl;
    }

pub gpt_reads_back : GptReadsBack
gpt_reads_back spec image len fits room long holds = record {
  header = front_reads spec image len fits room long holds;
  own = refl;
  backup = λ names. elim (either spec.backup) [
    | inl is ↦ backup_reads spec image len fits long holds is
    | inr isnt ↦ absurd (names (ap (λ (b : Bool). if b then last_sector spec else 1) isnt))
  ];
}
