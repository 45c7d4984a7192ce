-- A half of a GUID partition table that a reader finds is one that the image has, and the other way round.
use Rattle.std.specs.Prelude.{◌≡◌, ℕ, ◌+◌, ◌*◌, ◌≤◌, ◌==◌, List, length, Bool, true, Result, Ok}
use Rattle.std.proofs.Common.{refl, ap, sym, subst, ◌∙◌, arith}
use Rattle.std.proofs.lemmas.Bool.{eq-eqb, eqb-true}
use Rattle.base_fields.specs.Crc.{crc32_of}
use Rattle.base_fields.specs.Fields.{number_at}
use Rattle.base_fields.specs.Results.{◌>>=◌, when}
use Rattle.base_fields.proofs.Binds.{bind_ok, when_ok}
use Rattle.gpt_table.specs.Reading.{ReadsHeader, header_at, slot_at}
use Rattle.gpt_table.specs.Span.{bytes_at}
use Rattle.gpt_table.specs.declared.entry.GptEntry.{GptEntry}
use Rattle.gpt_table.specs.declared.header.GptHeader.{GptHeader}
use Rattle.gpt_reading.proofs.Bytes.{bytes_here}
use Rattle.table_reading.specs.Header.{said}
use Rattle.table_reading.specs.Recognised.{image_of}
use Rattle.table_reader.specs.Halves.{Half, entries_at, entries_of, half, half_of, header_of, summed}
use Rattle.table_reader.specs.Parts.{part_of}
use Rattle.table_reader.specs.declared.fault.TableFault.{TableFault}
use Rattle.table_reader.specs.declared.fault.TableFault.TheVariants.{BadSum}
use Rattle.table_laws.specs.ReadAs.{AreBytes}
use Rattle.table_laws.proofs.Headers.{IsRight, header_found, header_there, said_there}
use Rattle.table_laws.proofs.Parts.{part, part_found, part_there}

-- ---- the entries

-- where the entries of the header at an offset begin
abbrev pub entries_from : (ℕ → ℕ) → ℕ → ℕ → ℕ
entries_from image o z = number_at image (o + 72) 8 * z

-- the entries are there, with the sum that the header at an offset states
pub record HasEntries (bytes : List ℕ) (o place : ℕ) : Type 0 where
  pub inside : place + 16384 ≤ length bytes
  pub sum : number_at (image_of bytes) (o + 88) 4 ≡ crc32_of (bytes_at (image_of bytes) place 16384)

same_sum : (bytes : List ℕ) (place : ℕ) → place + 16384 ≤ length bytes →
    crc32_of (part bytes place 16384) ≡ crc32_of (bytes_at (image_of bytes) place 16384)
same_sum bytes place within = ap crc32_of (bytes_here bytes place 16384 within)

place_there : (bytes : List ℕ) (o z : ℕ) → entries_at (part bytes o 92) z ≡ entries_from (image_of bytes) o z
place_there bytes o z = ap (λ (n : ℕ). n * z) (said_there bytes o 72 8 (omega arith))

entries_of_part : (bytes entries : List ℕ) (o place : ℕ) → part_of bytes place 16384 ≡ Ok entries →
    said (part bytes o 92) 88 4 ≡ crc32_of entries →
    HasEntries bytes o place × (part bytes place 16384 ≡ entries)
entries_of_part bytes entries o place there sum =
    let found = part_found bytes entries place 16384 there in (
      record {
        inside = found.0;
        sum = sym (said_there bytes o 88 4 (omega arith)) ∙ sum ∙ ap crc32_of (sym found.1)
            ∙ same_sum bytes place found.0;
      },
      found.1,
    )

entries_found : (bytes entries : List ℕ) (o z : ℕ) → entries_of bytes z o (part bytes o 92) ≡ Ok entries →
    HasEntries bytes o (entries_from (image_of bytes) o z)
    × (part bytes (entries_from (image_of bytes) o z) 16384 ≡ entries)
entries_found bytes entries o z h =
    let head = part bytes o 92 in
    let step = bind_ok (part_of bytes (entries_at head z) 16384) (summed o head) entries h in
    let passed = when_ok (said head 88 4 == crc32_of step.0) step.0 entries
    (BadSum (o + 88) (said head 88 4) (crc32_of step.0)) step.2 in
    let there : part_of bytes (entries_from (image_of bytes) o z) 16384 ≡ Ok step.0 =
    subst (λ (p : ℕ). part_of bytes p 16384 ≡ Ok step.0) (place_there bytes o z) step.1 in
    let found = entries_of_part bytes step.0 o (entries_from (image_of bytes) o z) there (eqb-true _ _ passed.0) in
    (found.0, found.1 ∙ passed.1)

entries_there : (bytes : List ℕ) (o z : ℕ) → HasEntries bytes o (entries_from (image_of bytes) o z) →
    entries_of bytes z o (part bytes o 92) ≡ Ok (part bytes (entries_from (image_of bytes) o z) 16384)
entries_there bytes o z has =
    let place = entries_from (image_of bytes) o z in
    let head = part bytes o 92 in
    let here = place_there bytes o z in
    let there = part_there bytes place 16384 has.inside in
    let same : (said head 88 4 == crc32_of (part bytes place 16384)) ≡ true =
    eq-eqb _ _ (said_there bytes o 88 4 (omega arith) ∙ has.sum ∙ sym (same_sum bytes place has.inside)) in
    ap (λ (p : ℕ). part_of bytes p 16384 >>= summed o head) here
    ∙ ap (λ (found : Result (List ℕ) TableFault). found >>= summed o head) there
    ∙ ap (λ (b : Bool). when b (part bytes place 16384)
    (BadSum (o + 88) (said head 88 4) (crc32_of (part bytes place 16384)))) same

-- ---- a header with its entries

-- the header of an image at an offset, which stands at the LBA `own`
abbrev pub header_from : (ℕ → ℕ) → ℕ → ℕ → GptHeader
header_from image own o = record (header_at image o) { own = own }

abbrev pub slots_from : (ℕ → ℕ) → ℕ → ℕ → GptEntry
slots_from image place k = slot_at image (place + 128 * k)

pub reads_from : (bytes : List ℕ) (z own : ℕ) (is_backup : Bool) → IsRight bytes (own * z) own is_backup →
    HasEntries bytes (own * z) (entries_from (image_of bytes) (own * z) z) →
    ReadsHeader (image_of bytes) (length bytes) z (header_from (image_of bytes) own (own * z))
    (slots_from (image_of bytes) (entries_from (image_of bytes) (own * z) z))
reads_from bytes z own is_backup right has =
    let image = image_of bytes in record {
      inside = right.inside;
      signature = right.signature;
      revision = right.revision;
      size = right.size;
      sum = right.sum;
      reserved = right.reserved;
      says = ap (λ (n : ℕ). record (header_at image (own * z)) { own = n }) right.own_there;
      has_entries = right.has_entries;
      slot_count = right.slot_count;
      slot_size = right.slot_size;
      entries_inside = has.inside;
      entries_sum = has.sum;
      slots = λ k inside. refl;
    }

-- a half that a reader finds
pub record FoundHalf (bytes : List ℕ) (z own : ℕ) (is_backup : Bool) (found : Half) : Type 0 where
  pub right : IsRight bytes (own * z) own is_backup
  pub has : HasEntries bytes (own * z) (entries_from (image_of bytes) (own * z) z)
  pub head : part bytes (own * z) 92 ≡ found.head
  pub entries : part bytes (entries_from (image_of bytes) (own * z) z) 16384 ≡ found.entries

found_so : (bytes head entries : List ℕ) (z own : ℕ) (is_backup : Bool) (found : Half) → AreBytes bytes →
    header_of bytes z own is_backup ≡ Ok head →
    entries_of bytes z (own * z) head ≡ Ok entries → half head entries ≡ found → FoundHalf bytes z own is_backup found
found_so bytes head entries z own is_backup found small first second is =
    let at_head = header_found bytes head z own is_backup small first in
    let behind = entries_found bytes entries (own * z) z
    (subst (λ (xs : List ℕ). entries_of bytes z (own * z) xs ≡ Ok entries) (sym at_head.1) second) in
    let here : FoundHalf bytes z own is_backup (half head entries) =
    record { right = at_head.0; has = behind.0; head = at_head.1; entries = behind.1 } in
    subst (FoundHalf bytes z own is_backup) is here

pub half_found : (bytes : List ℕ) (z own : ℕ) (is_backup : Bool) (found : Half) → AreBytes bytes →
    half_of bytes z own is_backup ≡ Ok found → FoundHalf bytes z own is_backup found
half_found bytes z own is_backup found small h =
    let first = bind_ok (header_of bytes z own is_backup)
    (λ head. entries_of bytes z (own * z) head >>= λ entries. Ok (half head entries)) found h in
    let second = bind_ok (entries_of bytes z (own * z) first.0) (λ entries. Ok (half first.0 entries)) found first.2 in
    let is : half first.0 second.0 ≡ found = let same = second.2 in cc in
    found_so bytes first.0 second.0 z own is_backup found small first.1 second.1 is

-- ---- the other way round

-- the half of a header that an image has
abbrev pub half_at : List ℕ → ℕ → ℕ → Half
half_at bytes z own = half (part bytes (own * z) 92) (part bytes (entries_from (image_of bytes) (own * z) z) 16384)

pub half_there : (bytes : List ℕ) (z own : ℕ) (is_backup : Bool) → IsRight bytes (own * z) own is_backup →
    HasEntries bytes (own * z) (entries_from (image_of bytes) (own * z) z) →
    half_of bytes z own is_backup ≡ Ok (half_at bytes z own)
half_there bytes z own is_backup right has =
    let first = header_there bytes z own is_backup right in
    let second = entries_there bytes (own * z) z has in
    rw (first, second) refl

-- a header that an image has is right
pub right_of : (bytes : List ℕ) (z : ℕ) (header : GptHeader) (slot : ℕ → GptEntry) (is_backup : Bool) →
    ReadsHeader (image_of bytes) (length bytes) z header slot → (is_backup ≡ true → header.other ≡ 1) →
    IsRight bytes (header.own * z) header.own is_backup
right_of bytes z header slot is_backup reads backup =
    let says = reads.says in record {
      inside = reads.inside;
      signature = reads.signature;
      revision = reads.revision;
      size = reads.size;
      sum = reads.sum;
      reserved = reads.reserved;
      own_there = ap (λ (h : GptHeader). h.own) says;
      other_there = λ is. ap (λ (h : GptHeader). h.other) says ∙ backup is;
      has_entries = λ none. reads.has_entries (sym (ap (λ (h : GptHeader). h.entries_at) says) ∙ none);
      slot_count = reads.slot_count;
      slot_size = reads.slot_size;
    }

pub place_of : (bytes : List ℕ) (z : ℕ) (header : GptHeader) (slot : ℕ → GptEntry) →
    ReadsHeader (image_of bytes) (length bytes) z header slot →
    entries_from (image_of bytes) (header.own * z) z ≡ header.entries_at * z
place_of bytes z header slot reads = ap (λ (h : GptHeader). h.entries_at * z) reads.says

pub has_of : (bytes : List ℕ) (z : ℕ) (header : GptHeader) (slot : ℕ → GptEntry) →
    ReadsHeader (image_of bytes) (length bytes) z header slot →
    HasEntries bytes (header.own * z) (entries_from (image_of bytes) (header.own * z) z)
has_of bytes z header slot reads =
    let here : HasEntries bytes (header.own * z) (header.entries_at * z) = record {
      inside = reads.entries_inside;
      sum = ap (λ (h : GptHeader). h.entries_sum) reads.says ∙ reads.entries_sum;
    } in
    subst (HasEntries bytes (header.own * z)) (sym (place_of bytes z header slot reads)) here
