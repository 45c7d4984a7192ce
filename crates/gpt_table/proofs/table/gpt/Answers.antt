use Rattle.std.proofs.Common.{◌≡◌, ℕ, List, length, ap, subst, Bool, true, false, if◌then◌else◌, ◌^◌, ◌-◌, ◌<◌, ◌∙◌, arith}
use Rattle.gpt_table.specs.Gpt.{EntryFits, entries_byte, header_byte, entry_sectors, last_sector, slot_of}
use Rattle.gpt_table.specs.declared.entry.GptEntry.{GptEntry}
use Rattle.gpt_table.specs.declared.header.GptHeader.{GptHeader}
use Rattle.gpt_table.proofs.Slots.{entries_sum_is}
use Rattle.gpt_table.proofs.table.gpt.Goals as goal

pub front_header-requires-clause-sum : goal.front_header-requires-clause-sum
front_header-requires-clause-sum c =
    c.crc32-sum.ensures ∙ entries_sum_is c.args.spec.now.entries c.put_entries.new.room (omega arith) (λ o h. c.put_entries.ensures.written o (omega arith) ∙ ap (λ (es : List GptEntry). entries_byte es o) c.as_slice.ensures)

pub back_head-requires-clause-sum : goal.back_head-requires-clause-sum
back_head-requires-clause-sum c =
    c.crc32-sum.ensures ∙ entries_sum_is c.args.spec.now.entries c.put_entries.new.room (omega arith) (λ o h. c.put_entries.ensures.written o (omega arith) ∙ ap (λ (es : List GptEntry). entries_byte es o) c.as_slice.ensures)

pub returns-clause-front : goal.returns-clause-front
returns-clause-front c o h =
    c.head.ensures o h ∙ ap (λ (header : GptHeader). header_byte header o) c.front_header.ensures

-- the last sector's number is in one of two fields
last_fits : (backup : Bool) (last usable : ℕ) → (if backup then last else 1) < 2 ^ 64 → (if backup then usable else last) < 2 ^ 64 → last < 2 ^ 64
last_fits true last usable other used = other
last_fits false last usable other used = used

pub returns-clause-readable : goal.returns-clause-readable
returns-clause-readable c nonzero =
    let spec = c.args.spec.now in
    let value : c.as_slice.result.now ≡ c.args.spec.now.entries = c.as_slice.ensures in
    record {
      sector = c.requires.sector;
      disk = omega arith;
      least = c.requires.sectors;
      last = last_fits spec.backup (last_sector spec) (spec.sectors - 2 - entry_sectors spec)
          (omega (arith, c.front_header.type_inv, ap (λ (h : GptHeader). h.other) c.front_header.ensures))
          (omega (arith, c.front_header.type_inv, ap (λ (h : GptHeader). h.last_usable) c.front_header.ensures));
      entries_at = omega (arith, c.front_header.type_inv, ap (λ (h : GptHeader). h.entries_at) c.front_header.ensures);
      has_entries = nonzero;
      usable = c.requires.fits;
      few = c.requires.few;
      entries = subst (λ (es : List GptEntry). (k : ℕ) → k < length es → EntryFits (slot_of es k)) value c.put_entries.ensures.fits;
    }
