-- A GUID partition table that a reader finds is one that the image has, and the other way round.
use Rattle.std.specs.Prelude.{◌≡◌, ◌≢◌, ℕ, ◌+◌, ◌*◌, ◌<◌, ◌==◌, List, map, length, Bool, true, false, Option, None, Result, Ok, if◌then◌else◌}
use Rattle.std.proofs.Common.{refl, ap, sym, subst, ◌∙◌, arith, inl, inr}
use Rattle.std.proofs.lemmas.Bool.{cases_eq, eq-eqb, ne_eqb}
use Rattle.base_fields.specs.Results.{◌>>=◌}
use Rattle.base_fields.proofs.Binds.{bind_ok}
use Rattle.gpt_table.specs.Reading.{ReadsBackup, ReadsGpt, ReadsHeader, header_at, slot_at}
use Rattle.gpt_table.specs.declared.entry.GptEntry.{GptEntry}
use Rattle.gpt_table.specs.declared.header.GptHeader.{GptHeader}
use Rattle.gpt_reading.specs.Used.{slot_in, table_of}
use Rattle.gpt_reading.specs.declared.tables.GptTable.{GptTable}
use Rattle.table_reading.specs.Header.{said}
use Rattle.table_reading.specs.Recognised.{image_of}
use Rattle.table_reader.specs.Halves.{Half, backup_at, backup_of, gpt_of, half, half_of, unlike}
use Rattle.table_reader.specs.Parts.{unless}
use Rattle.table_reader.specs.declared.fault.TableFault.{TableFault}
use Rattle.table_laws.specs.ReadAs.{AreBytes, used_of}
use Rattle.table_laws.proofs.Backups.{AreAlike, alike_found, alike_there}
use Rattle.table_laws.proofs.Halves.{FoundHalf, HasEntries, entries_from, half_at, half_found, half_there, has_of, header_from, place_of, reads_from, right_of, slots_from}
use Rattle.table_laws.proofs.Headers.{IsRight, said_there, unless_ok}
use Rattle.table_laws.proofs.Images.{same_guid, same_slot}
use Rattle.table_laws.proofs.Parts.{part, same_within}
use Rattle.table_laws.proofs.Used.{entries_same, used_same}

-- ---- the table of the front half

abbrev table_with : List ℕ → ℕ → ℕ → List GptEntry → List ℕ → GptTable
table_with disk first last entries slots =
    record { disk = disk; first_usable = first; last_usable = last; entries = entries; slots = slots }

same_table : (a b : GptTable) → a.disk ≡ b.disk → a.first_usable ≡ b.first_usable → a.last_usable ≡ b.last_usable →
    a.entries ≡ b.entries → a.slots ≡ b.slots → a ≡ b
same_table a b disk first last entries slots =
    ap (λ (x : List ℕ). table_with x a.first_usable a.last_usable a.entries a.slots) disk
    ∙ ap (λ (x : ℕ). table_with b.disk x a.last_usable a.entries a.slots) first
    ∙ ap (λ (x : ℕ). table_with b.disk b.first_usable x a.entries a.slots) last
    ∙ ap (λ (x : List GptEntry). table_with b.disk b.first_usable b.last_usable x a.slots) entries
    ∙ ap (λ (x : List ℕ). table_with b.disk b.first_usable b.last_usable b.entries x) slots

-- the table of a half is that of its header and its slots
table_there : (bytes : List ℕ) (o place own : ℕ) →
    table_of (part bytes o 92) (part bytes place 16384)
    ≡ used_of (header_from (image_of bytes) own o) (slots_from (image_of bytes) place)
table_there bytes o place own =
    let image = image_of bytes in
    let entries = part bytes place 16384 in
    let slots : (k : ℕ) → k < 128 → slot_in entries k ≡ slots_from image place k =
    λ k few. same_slot (image_of entries) image (128 * k) (place + 128 * k)
    (same_within bytes place 16384 (128 * k) 128 (omega (arith, few))) in
    same_table (table_of (part bytes o 92) entries) (used_of (header_from image own o) (slots_from image place))
    (same_guid (image_of (part bytes o 92)) image 56 (o + 56) (same_within bytes o 92 56 16 (omega arith)))
    (said_there bytes o 40 8 (omega arith))
    (said_there bytes o 48 8 (omega arith))
    (entries_same (slot_in entries) (slots_from image place) 128 slots)
    (ap (map (λ (k : ℕ). k + 1)) (used_same (slot_in entries) (slots_from image place) 128 slots))

-- ---- the backup

-- the same header with slots that are the same
with_slots : (image : ℕ → ℕ) (len z : ℕ) (header : GptHeader) (slot other : ℕ → GptEntry) →
    ReadsHeader image len z header slot → ((k : ℕ) → k < 128 → slot k ≡ other k) → ReadsHeader image len z header other
with_slots image len z header slot other reads same = record {
  inside = reads.inside;
  signature = reads.signature;
  revision = reads.revision;
  size = reads.size;
  sum = reads.sum;
  reserved = reads.reserved;
  says = reads.says;
  has_entries = reads.has_entries;
  slot_count = reads.slot_count;
  slot_size = reads.slot_size;
  entries_inside = reads.entries_inside;
  entries_sum = reads.entries_sum;
  slots = λ k few. reads.slots k few ∙ same k few;
}

-- the header at the LBA `own`, and where its entries begin
abbrev front_of : List ℕ → ℕ → ℕ → GptHeader
front_of bytes z own = header_from (image_of bytes) own (own * z)

abbrev place : List ℕ → ℕ → ℕ → ℕ
place bytes z own = entries_from (image_of bytes) (own * z) z

backup_reads : (bytes : List ℕ) (z own : ℕ) → own ≡ (front_of bytes z 1).other → IsRight bytes (own * z) own true →
    HasEntries bytes (own * z) (place bytes z own) →
    AreAlike (image_of bytes) (1 * z) (own * z) (place bytes z 1) (place bytes z own) →
    ReadsBackup (image_of bytes) (length bytes) z (front_of bytes z 1) (front_of bytes z own)
    (slots_from (image_of bytes) (place bytes z 1))
backup_reads bytes z own named right has alike =
    let image = image_of bytes in record {
      header = with_slots image (length bytes) z (front_of bytes z own) (slots_from image (place bytes z own))
          (slots_from image (place bytes z 1)) (reads_from bytes z own true right has) alike.slots;
      own = named;
      other = right.other_there refl;
      first_usable = alike.agree.first_usable;
      last_usable = alike.agree.last_usable;
      disk = alike.agree.disk;
    }

-- a half that is found is the one that stands there
half_is : (bytes : List ℕ) (z own : ℕ) (is_backup : Bool) (found : Half) → FoundHalf bytes z own is_backup found →
    half_at bytes z own ≡ found
half_is bytes z own is_backup found is =
    ap (λ (xs : List ℕ). half xs (part bytes (place bytes z own) 16384)) is.head
    ∙ ap (λ (xs : List ℕ). half found.head xs) is.entries

backup_at_found : (bytes : List ℕ) (z own : ℕ) (done : Unit {0}) → AreBytes bytes → own ≡ (front_of bytes z 1).other →
    HasEntries bytes (1 * z) (place bytes z 1) →
    backup_at bytes z own (half_at bytes z 1) ≡ Ok done →
    ReadsBackup (image_of bytes) (length bytes) z (front_of bytes z 1) (front_of bytes z own)
    (slots_from (image_of bytes) (place bytes z 1))
backup_at_found bytes z own done small named has h =
    let front = half_at bytes z 1 in
    let step = bind_ok (half_of bytes z own true) (λ back. unless (unlike z own front back) tt) done h in
    let found = half_found bytes z own true step.0 small step.1 in
    let none : unlike z own front (half_at bytes z own) ≡ None =
    ap (unlike z own front) (half_is bytes z own true step.0 found)
    ∙ (unless_ok (unlike z own front step.0) tt done step.2).0 in
    backup_reads bytes z own named found.right found.has
    (alike_found bytes z own (1 * z) (own * z) (place bytes z 1)
    (place bytes z own) small has.inside found.has.inside none)

-- by whether the front header names itself
not_itself : (one : Bool) (bytes : List ℕ) (z own : ℕ) (front : Half) (done : Unit {0}) → one ≡ false →
    (if one then Ok tt else backup_at bytes z own front) ≡ Ok done → backup_at bytes z own front ≡ Ok done
not_itself true bytes z own front done other h = absurd cc
not_itself false bytes z own front done other h = h

backup_found : (bytes : List ℕ) (z : ℕ) (done : Unit {0}) → AreBytes bytes →
    HasEntries bytes (1 * z) (place bytes z 1) → backup_of bytes z (half_at bytes z 1) ≡ Ok done →
    (front_of bytes z 1).other ≢ 1 →
    ReadsBackup (image_of bytes) (length bytes) z (front_of bytes z 1) (front_of bytes z (front_of bytes z 1).other)
    (slots_from (image_of bytes) (place bytes z 1))
backup_found bytes z done small has h other =
    let own : ℕ = (front_of bytes z 1).other in
    let named : said (part bytes (1 * z) 92) 32 8 ≡ own = said_there bytes (1 * z) 32 8 (omega arith) in
    let there : (if own == 1 then Ok tt else backup_at bytes z own (half_at bytes z 1)) ≡ Ok done =
    subst (λ (n : ℕ). (if n == 1 then Ok tt else backup_at bytes z n (half_at bytes z 1)) ≡ Ok done) named h in
    backup_at_found bytes z own done small refl has
    (not_itself (own == 1) bytes z own (half_at bytes z 1) done (ne_eqb own 1 other) there)

-- ---- the whole table

-- what an image has of a GUID partition table
abbrev pub HasGuid : List ℕ → ℕ → GptTable → Type 0
HasGuid bytes z gpt =
    (front : GptHeader) × (back : GptHeader) × (slot : ℕ → GptEntry)
    × ReadsGpt (image_of bytes) (length bytes) z front back slot × (gpt ≡ used_of front slot)

guid_by : (bytes : List ℕ) (z : ℕ) (gpt : GptTable) (front : Half) (done : Unit {0}) → AreBytes bytes →
    FoundHalf bytes z 1 false front → backup_of bytes z front ≡ Ok done →
    table_of front.head front.entries ≡ gpt → HasGuid bytes z gpt
guid_by bytes z gpt front done small found backup is =
    let image = image_of bytes in
    let same = half_is bytes z 1 false front found in
    let there : backup_of bytes z (half_at bytes z 1) ≡ Ok done = ap (backup_of bytes z) same ∙ backup in
    let table : table_of (part bytes (1 * z) 92) (part bytes (place bytes z 1) 16384) ≡ gpt =
    ap (λ (x : Half). table_of x.head x.entries) same ∙ is in (
      front_of bytes z 1,
      front_of bytes z (front_of bytes z 1).other,
      slots_from image (place bytes z 1),
      record {
        header = reads_from bytes z 1 false found.right found.has;
        own = refl;
        backup = backup_found bytes z done small found.has there;
      },
      sym table ∙ table_there bytes (1 * z) (place bytes z 1) 1,
    )

pub guid_found : (bytes : List ℕ) (z : ℕ) (gpt : GptTable) → AreBytes bytes → gpt_of bytes z ≡ Ok gpt →
    HasGuid bytes z gpt
guid_found bytes z gpt small h =
    let first = bind_ok (half_of bytes z 1 false)
    (λ front. backup_of bytes z front >>= λ done. Ok (table_of front.head front.entries)) gpt h in
    let second = bind_ok (backup_of bytes z first.0) (λ done. Ok (table_of first.0.head first.0.entries)) gpt first.2 in
    let is : table_of first.0.head first.0.entries ≡ gpt = let same = second.2 in cc in
    guid_by bytes z gpt first.0 second.0 small (half_found bytes z 1 false first.0 small first.1) second.1 is

-- ---- the other way round

-- what the header at LBA 1 says
record Says (bytes : List ℕ) (z : ℕ) (front : GptHeader) (slot : ℕ → GptEntry) : Type 0 where
  right : IsRight bytes (1 * z) 1 false
  has : HasEntries bytes (1 * z) (place bytes z 1)
  header : front_of bytes z 1 ≡ front
  slots : (k : ℕ) → k < 128 → slots_from (image_of bytes) (place bytes z 1) k ≡ slot k

says_of : (bytes : List ℕ) (z : ℕ) (front : GptHeader) (slot : ℕ → GptEntry) →
    ReadsHeader (image_of bytes) (length bytes) z front slot → front.own ≡ 1 → Says bytes z front slot
says_of bytes z front slot reads own =
    let image = image_of bytes in
    let says : header_at image (1 * z) ≡ front = subst (λ (n : ℕ). header_at image (n * z) ≡ front) own reads.says in
    let one : (header_at image (1 * z)).own ≡ 1 = ap (λ (h : GptHeader). h.own) says ∙ own in
    let there : place bytes z 1 ≡ front.entries_at * z = ap (λ (h : GptHeader). h.entries_at * z) says in
    record {
      right = subst (λ (n : ℕ). IsRight bytes (n * z) n false) own
          (right_of bytes z front slot false reads (λ is. absurd cc));
      has = subst (λ (n : ℕ). HasEntries bytes (n * z) (place bytes z n)) own (has_of bytes z front slot reads);
      header = ap (λ (n : ℕ). record (header_at image (1 * z)) { own = n }) (sym one) ∙ says;
      slots = λ k few. ap (λ (p : ℕ). slot_at image (p + 128 * k)) there ∙ reads.slots k few;
    }

used_so : (a b : GptHeader) (slot other : ℕ → GptEntry) → a ≡ b → ((k : ℕ) → k < 128 → slot k ≡ other k) →
    used_of a slot ≡ used_of b other
used_so a b slot other header slots =
    ap (λ (h : GptHeader). used_of h slot) header
    ∙ same_table (used_of b slot) (used_of b other) refl refl refl (entries_same slot other 128 slots)
    (ap (map (λ (k : ℕ). k + 1)) (used_same slot other 128 slots))

backup_alike : (bytes : List ℕ) (z : ℕ) (front back : GptHeader) (slot : ℕ → GptEntry) → Says bytes z front slot →
    ReadsBackup (image_of bytes) (length bytes) z front back slot →
    AreAlike (image_of bytes) (1 * z) (back.own * z) (place bytes z 1) (place bytes z back.own)
backup_alike bytes z front back slot says reads =
    let image = image_of bytes in
    let there = place_of bytes z back slot reads.header in
    record {
      agree = record {
        first_usable = ap (λ (h : GptHeader). h.first_usable) reads.header.says ∙ reads.first_usable
            ∙ sym (ap (λ (h : GptHeader). h.first_usable) says.header);
        last_usable = ap (λ (h : GptHeader). h.last_usable) reads.header.says ∙ reads.last_usable
            ∙ sym (ap (λ (h : GptHeader). h.last_usable) says.header);
        disk = ap (λ (h : GptHeader). h.disk) reads.header.says ∙ reads.disk
            ∙ sym (ap (λ (h : GptHeader). h.disk) says.header);
      };
      slots = λ k few. ap (λ (p : ℕ). slot_at image (p + 128 * k)) there ∙ reads.header.slots k few
          ∙ sym (says.slots k few);
    }

backup_at_there : (bytes : List ℕ) (z : ℕ) (front back : GptHeader) (slot : ℕ → GptEntry) → AreBytes bytes →
    Says bytes z front slot → ReadsBackup (image_of bytes) (length bytes) z front back slot →
    backup_at bytes z back.own (half_at bytes z 1) ≡ Ok tt
backup_at_there bytes z front back slot small says reads =
    let right = right_of bytes z back slot true reads.header (λ is. reads.other) in
    let has = has_of bytes z back slot reads.header in
    let there = half_there bytes z back.own true right has in
    let none : unlike z back.own (half_at bytes z 1) (half_at bytes z back.own) ≡ None =
    alike_there bytes z back.own (1 * z) (back.own * z) (place bytes z 1)
    (place bytes z back.own) small says.has.inside has.inside (backup_alike bytes z front back slot says reads) in
    ap (λ (found : Result Half TableFault). found >>= λ other. unless
    (unlike z back.own (half_at bytes z 1) other) tt) there
    ∙ ap (λ (refusal : Option TableFault). unless refusal tt) none

backup_there : (bytes : List ℕ) (z : ℕ) (front back : GptHeader) (slot : ℕ → GptEntry) → AreBytes bytes →
    Says bytes z front slot → ReadsGpt (image_of bytes) (length bytes) z front back slot →
    backup_of bytes z (half_at bytes z 1) ≡ Ok tt
backup_there bytes z front back slot small says reads =
    let half_front = half_at bytes z 1 in
    let named : said (part bytes (1 * z) 92) 32 8 ≡ front.other = said_there bytes (1 * z) 32 8 (omega arith)
    ∙ ap (λ (h : GptHeader). h.other) says.header in
    let at_other : (n : ℕ) → Result (Unit {0}) TableFault =
    λ n. if n == 1 then Ok tt else backup_at bytes z n half_front in
    ap at_other named ∙ elim (cases_eq front.other 1) [
      | inl itself ↦
          let test : (front.other == 1) ≡ true = eq-eqb _ _ itself in
          ap (λ (b : Bool). if b then Ok tt else backup_at bytes z front.other half_front) test
      | inr other ↦
          let test : (front.other == 1) ≡ false = ne_eqb _ _ other in
          let backup = reads.backup other in
          ap (λ (b : Bool). if b then Ok tt else backup_at bytes z front.other half_front) test
          ∙ ap (λ (n : ℕ). backup_at bytes z n half_front) (sym backup.own)
          ∙ backup_at_there bytes z front back slot small says backup
    ]

pub guid_there : (bytes : List ℕ) (z : ℕ) (front back : GptHeader) (slot : ℕ → GptEntry) → AreBytes bytes →
    ReadsGpt (image_of bytes) (length bytes) z front back slot → gpt_of bytes z ≡ Ok (used_of front slot)
guid_there bytes z front back slot small reads =
    let says = says_of bytes z front slot reads.header reads.own in
    let first = half_there bytes z 1 false says.right says.has in
    let second = backup_there bytes z front back slot small says reads in
    let table = table_there bytes (1 * z) (place bytes z 1) 1
    ∙ used_so (front_of bytes z 1) front
    (slots_from (image_of bytes) (place bytes z 1)) slot says.header says.slots in
    ap (λ (found : Result Half TableFault). found >>= λ front. backup_of bytes z front >>= λ done. Ok
    (table_of front.head front.entries)) first
    ∙ ap (λ (done : Result (Unit {0}) TableFault). done >>= λ done. Ok
    (table_of (part bytes (1 * z) 92) (part bytes (place bytes z 1) 16384))) second
    ∙ ap Ok table
