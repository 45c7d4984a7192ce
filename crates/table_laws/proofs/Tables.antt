-- Tables that a reader answers are those of the bytes, and the other way round.
use Rattle.std.specs.Prelude.{◌≡◌, ◌≢◌, ℕ, zero, suc, ◌+◌, ◌-◌, ◌*◌, ◌<◌, ◌≤◌, ◌⊎◌, ◌==◌, ◌&&◌, List, [], ◌∷◌, Bool, true, false, Option, None, Some, Result, Ok, Err, if◌then◌else◌}
use Rattle.std.proofs.Common.{refl, ap, sym, subst, ◌∙◌, arith, inl, inr, lit<, lit≤}
use Rattle.std.proofs.lemmas.Bool.{ne_eqb}
use Rattle.base_fields.specs.Results.{◌>>=◌, or_else}
use Rattle.base_fields.specs.declared.spans.TableKind.{TableKind}
use Rattle.base_fields.specs.declared.spans.TableKind.TheVariants as table
use Rattle.base_fields.proofs.Binds.{bind_ok, or_else_ok}
use Rattle.base_fields.proofs.Images.{same_number}
use Rattle.mbr_table.specs.Mbr.{entry_of, is_empty}
use Rattle.mbr_table.specs.Reading.{IsMarked, ReadsMbr, slot_at, spec_at}
use Rattle.mbr_table.specs.declared.mbr.MbrEntry.{MbrEntry}
use Rattle.mbr_table.specs.declared.mbr.MbrSpec.{MbrSpec}
use Rattle.gpt_table.specs.declared.entry.GptEntry.{GptEntry}
use Rattle.gpt_table.specs.declared.header.GptHeader.{GptHeader}
use Rattle.gpt_reading.specs.declared.tables.GptTable.{GptTable}
use Rattle.table_reading.specs.Recognised.{extended_slot, image_of, is_extended, is_marked, kind_of, record_of}
use Rattle.table_reading.specs.Sector.{sector_of}
use Rattle.table_reader.specs.Chain.{chain_of, logical_of}
use Rattle.table_reader.specs.Halves.{gpt_of}
use Rattle.table_reader.specs.Parts.{part_of}
use Rattle.table_reader.specs.Tables.{gpt_tables, mbr_tables, tables_beside, tables_in}
use Rattle.table_reader.specs.declared.fault.TableFault.{TableFault}
use Rattle.table_reader.specs.declared.fault.TableFault.TheVariants.{NoTable}
use Rattle.table_reader.specs.declared.tables.Tables.{Tables}
use Rattle.table_laws.specs.Laws.{TablesAreOne, TablesAreReadAs, TablesOrRefusal}
use Rattle.table_laws.specs.ReadAs.{AreBytes, AreLogical, AreTablesOf, Guid, ReadAs, ReadsGuid, Slots, Whole, extended_in, four_slots, kind_in, listed, sector_in, used_of}
use Rattle.table_laws.proofs.Chains.{chain_found, chain_there}
use Rattle.table_laws.proofs.Guid.{guid_found, guid_there}
use Rattle.table_laws.proofs.Images.{Same, same_mbr_slot}
use Rattle.table_laws.proofs.Parts.{byte_in, marked_found, marked_inside, marked_there, part, part_found, part_there}

-- ---- the first sector

abbrev spec_with : ℕ → MbrEntry → MbrEntry → MbrEntry → MbrEntry → MbrSpec
spec_with signature a b c d = record { signature = signature; entries = a ∷ b ∷ c ∷ d ∷ [] }

same_spec : (image other : ℕ → ℕ) → ((o w : ℕ) → o + w ≤ 512 → Same image other o o w) → spec_at image ≡ spec_at other
same_spec image other same =
    let slot : (o : ℕ) → o + 16 ≤ 512 → slot_at image o ≡ slot_at other o =
    λ o h. same_mbr_slot image other o o (same o 16 h) in
    ap (λ (n : ℕ). spec_with n (slot_at image 446) (slot_at image 462) (slot_at image 478) (slot_at image 494))
    (same_number image other 440 440 4 (same 440 4 (lit≤ tt)))
    ∙ ap (λ (e : MbrEntry). spec_with (spec_at other).signature e (slot_at image 462) (slot_at image 478)
    (slot_at image 494)) (slot 446 (lit≤ tt))
    ∙ ap (λ (e : MbrEntry). spec_with (spec_at other).signature (slot_at other 446) e (slot_at image 478)
    (slot_at image 494)) (slot 462 (lit≤ tt))
    ∙ ap (λ (e : MbrEntry). spec_with (spec_at other).signature (slot_at other 446) (slot_at other 462) e
    (slot_at image 494)) (slot 478 (lit≤ tt))
    ∙ ap (λ (e : MbrEntry). spec_with (spec_at other).signature (slot_at other 446) (slot_at other 462)
    (slot_at other 478) e) (slot 494 (lit≤ tt))

-- what the first sector says is what the image says
first_says : (bytes : List ℕ) → spec_at (image_of (part bytes 0 512)) ≡ spec_at (image_of bytes)
first_says bytes =
    same_spec (image_of (part bytes 0 512)) (image_of bytes)
    (λ o w within j inside. let there : 0 + (o + j) ≡ o + j = omega arith in
    byte_in bytes 0 512 (o + j) (omega (arith, within, inside)) ∙ ap (image_of bytes) there)

record_by : (marked : Bool) (spec found : MbrSpec) → (if marked then Some spec else None) ≡ Some found →
    (marked ≡ true) × (spec ≡ found)
record_by true spec found h = (refl, cc)
record_by false spec found h = absurd cc

first_found : (bytes : List ℕ) (tables : Tables) → tables_in bytes ≡ Ok tables →
    IsMarked (image_of bytes) 0 × (tables_beside (kind_in bytes) bytes (spec_at (image_of bytes)) ≡ Ok tables)
first_found bytes tables h =
    let first = bind_ok (part_of bytes 0 512)
    (λ xs. or_else (record_of xs) NoTable >>= λ spec. tables_beside (kind_of spec) bytes spec) tables h in
    let second = bind_ok (or_else (record_of first.0) NoTable)
    (λ spec. tables_beside (kind_of spec) bytes spec) tables first.2 in
    let same = (part_found bytes first.0 0 512 first.1).1 in
    let is : record_of (part bytes 0 512) ≡ Some second.0 = ap record_of same
    ∙ or_else_ok (record_of first.0) second.0 NoTable second.1 in
    let by = record_by (is_marked (part bytes 0 512)) (spec_at (image_of (part bytes 0 512))) second.0 is in
    let spec : second.0 ≡ spec_at (image_of bytes) = sym by.1 ∙ first_says bytes in
    (marked_found bytes 0 by.0, ap (λ (s : MbrSpec). tables_beside (kind_of s) bytes s) (sym spec) ∙ second.2)

first_there : (bytes : List ℕ) → IsMarked (image_of bytes) 0 →
    tables_in bytes ≡ tables_beside (kind_in bytes) bytes (spec_at (image_of bytes))
first_there bytes marked =
    let there = part_there bytes 0 512 (marked_inside bytes 0 marked) in
    let is = marked_there bytes 0 marked in
    ap (λ (first : Result (List ℕ) TableFault). first >>= λ xs. or_else (record_of xs) NoTable >>= λ spec. tables_beside
    (kind_of spec) bytes spec) there
    ∙ ap (λ (b : Bool). or_else (if b then Some
    (spec_at (image_of (part bytes 0 512))) else None) NoTable >>= λ spec. tables_beside
    (kind_of spec) bytes spec) is
    ∙ ap (λ (s : MbrSpec). tables_beside (kind_of s) bytes s) (first_says bytes)

its_slots : (image : ℕ → ℕ) (k : ℕ) → k < 4 → slot_at image (446 + 16 * k) ≡ entry_of (spec_at image) k
its_slots image zero inside = refl
its_slots image (suc zero) inside = refl
its_slots image (suc (suc zero)) inside = refl
its_slots image (suc (suc (suc zero))) inside = refl
its_slots image (suc (suc (suc (suc k)))) inside = absurd (omega arith)

-- an image reads as what it says
says_itself : (bytes : List ℕ) → IsMarked (image_of bytes) 0 → ReadsMbr (image_of bytes) (spec_at (image_of bytes))
says_itself bytes marked = record { marked = marked; signature = refl; slots = its_slots (image_of bytes) }

-- ---- the logical partitions

slot_few : (a b c d : Bool) → (if a then 1 else if b then 2 else if c then 3 else if d then 4 else 0) ≤ 4
slot_few true b c d = lit≤ tt
slot_few false true c d = lit≤ tt
slot_few false false true d = lit≤ tt
slot_few false false false true = lit≤ tt
slot_few false false false false = lit≤ tt

extended_few : (spec : MbrSpec) → extended_slot spec ≤ 4
extended_few spec = slot_few (is_extended (entry_of spec 0)) (is_extended (entry_of spec 1))
    (is_extended (entry_of spec 2)) (is_extended (entry_of spec 3))

-- the list of a slot
abbrev logical_by : List ℕ → MbrSpec → ℕ → Result (List MbrEntry) TableFault
logical_by bytes spec slot = if slot == 0 then Ok [] else chain_of bytes (entry_of spec (slot - 1)).first

-- where there is a slot, it is that of the chain
by_slot : (bytes : List ℕ) (spec : MbrSpec) (k : ℕ) → ReadsMbr (image_of bytes) spec → suc k ≤ 4 →
    logical_by bytes spec (suc k) ≡ chain_of bytes (slot_at (image_of bytes) (446 + 16 * k)).first
by_slot bytes spec k reads few =
    let some : (suc k == 0) ≡ false = ne_eqb _ _ (λ none. absurd (omega (arith, none))) in
    let one : suc k - 1 ≡ k = omega arith in
    ap (λ (b : Bool). if b then Ok [] else chain_of bytes (entry_of spec (suc k - 1)).first) some
    ∙ ap (λ (n : ℕ). chain_of bytes (entry_of spec n).first) one
    ∙ ap (λ (e : MbrEntry). chain_of bytes e.first) (sym (reads.slots k (omega (arith, few))))

logical_found : (bytes : List ℕ) (spec : MbrSpec) (slot : ℕ) (logical : List MbrEntry) →
    ReadsMbr (image_of bytes) spec → slot ≤ 4 → logical_by bytes spec slot ≡ Ok logical →
    AreLogical (image_of bytes) slot logical
logical_found bytes spec zero logical reads few h = cc
logical_found bytes spec (suc k) logical reads few h =
    chain_found bytes (slot_at (image_of bytes) (446 + 16 * k)).first logical (sym (by_slot bytes spec k reads few) ∙ h)

logical_there : (bytes : List ℕ) (spec : MbrSpec) (slot : ℕ) (logical : List MbrEntry) →
    ReadsMbr (image_of bytes) spec → slot ≤ 4 → AreLogical (image_of bytes) slot logical →
    logical_by bytes spec slot ≡ Ok logical
logical_there bytes spec zero logical reads few are = ap Ok (sym are)
logical_there bytes spec (suc k) logical reads few are =
    by_slot bytes spec k reads few ∙ chain_there bytes (slot_at (image_of bytes) (446 + 16 * k)).first logical are

-- ---- what is found

-- what bytes have of a kind of table, and how it is listed
abbrev HasTables : TableKind → List ℕ → Tables → Type 0
HasTables kind bytes tables =
    (whole : Whole) × ReadAs kind bytes (extended_in bytes) (sector_of kind bytes) whole
    × (tables ≡ listed kind (sector_of kind bytes) whole)

same_answer : (answer : Result Tables TableFault) (a b : Tables) → answer ≡ Ok a → answer ≡ Ok b → a ≡ b
same_answer answer a b first second = cc

gpt_listed : (kind : TableKind) (spec : MbrSpec) (z : ℕ) (gpt found : GptTable) (tables : Tables)
    (answer : Result Tables TableFault) → gpt ≡ found → answer ≡ Ok (gpt_tables kind spec z gpt) → answer ≡ Ok tables →
    tables ≡ gpt_tables kind spec z found
gpt_listed kind spec z gpt found tables answer same is h = same_answer answer tables (gpt_tables kind spec z gpt) h is
    ∙ ap (gpt_tables kind spec z) same

beside_found : (kind : TableKind) (bytes : List ℕ) (tables : Tables) → AreBytes bytes → IsMarked (image_of bytes) 0 →
    kind ≢ table.Bare →
    tables_beside kind bytes (spec_at (image_of bytes)) ≡ Ok tables → HasTables kind bytes tables
beside_found table.Bare bytes tables small marked other h = absurd (other refl)
beside_found table.Mbr bytes tables small marked other h =
    let spec = spec_at (image_of bytes) in
    let mbr = says_itself bytes marked in
    let step = bind_ok (logical_of bytes spec) (λ logical. Ok (mbr_tables spec logical)) tables h in
    let is : mbr_tables spec step.0 ≡ tables = let same = step.2 in cc in (
      Slots spec step.0,
      (
        mbr,
        logical_found bytes spec (extended_slot spec) step.0 mbr
            (extended_few spec) step.1,
      ),
      sym is,
    )
beside_found table.Gpt bytes tables small marked other h =
    let spec = spec_at (image_of bytes) in
    let z = sector_of table.Gpt bytes in
    let step = bind_ok (gpt_of bytes z) (λ gpt. Ok (gpt_tables table.Gpt spec z gpt)) tables h in
    let has = guid_found bytes z step.0 small step.1 in (
      Guid spec has.0 has.1 has.2,
      (says_itself bytes marked, has.3),
      gpt_listed table.Gpt spec z step.0
          (used_of has.0 has.2) tables (Ok (gpt_tables table.Gpt spec z step.0)) has.4 refl step.2,
    )
beside_found table.Hybrid bytes tables small marked other h =
    let spec = spec_at (image_of bytes) in
    let z = sector_of table.Hybrid bytes in
    let step = bind_ok (gpt_of bytes z) (λ gpt. Ok (gpt_tables table.Hybrid spec z gpt)) tables h in
    let has = guid_found bytes z step.0 small step.1 in (
      Guid spec has.0 has.1 has.2,
      (says_itself bytes marked, has.3),
      gpt_listed table.Hybrid spec z step.0
          (used_of has.0 has.2) tables (Ok (gpt_tables table.Hybrid spec z step.0)) has.4 refl step.2,
    )

-- no record is of no table
kind_by : (a b : Bool) → (if a then (if b then table.Gpt else table.Hybrid) else table.Mbr) ≢ table.Bare
kind_by true true h = absurd cc
kind_by true false h = absurd cc
kind_by false b h = absurd cc

pub never_bare : (spec : MbrSpec) → kind_of spec ≢ table.Bare
never_bare spec = kind_by ((entry_of spec 0).kind == 0xEE)
    (is_empty (entry_of spec 1) && is_empty (entry_of spec 2) && is_empty (entry_of spec 3))

tables_found : (bytes : List ℕ) (tables : Tables) → AreBytes bytes → tables_in bytes ≡ Ok tables →
    AreTablesOf bytes tables
tables_found bytes tables small h =
    let first = first_found bytes tables h in
    beside_found (kind_in bytes) bytes tables small first.0 (never_bare (spec_at (image_of bytes))) first.1

-- ---- the other way round

abbrev pub tables_with : TableKind → ℕ → List MbrEntry → List MbrEntry → Option GptTable → ℕ → Tables
tables_with kind signature slots logical gpt sector =
    record { kind = kind; signature = signature; slots = slots; logical = logical; gpt = gpt; sector = sector }

-- the four slots that are read
slots_same : (image : ℕ → ℕ) (mbr : MbrSpec) → ReadsMbr image mbr → (spec_at image).entries ≡ four_slots mbr
slots_same image mbr reads =
    ap (λ (e : MbrEntry). e ∷ slot_at image 462 ∷ slot_at image 478 ∷ slot_at image 494 ∷ []) (reads.slots 0 (lit< tt))
    ∙ ap (λ (e : MbrEntry). entry_of mbr 0 ∷ e ∷ slot_at image 478 ∷ slot_at image 494 ∷ []) (reads.slots 1 (lit< tt))
    ∙ ap (λ (e : MbrEntry). entry_of mbr 0 ∷ entry_of mbr 1 ∷ e ∷ slot_at image 494 ∷ []) (reads.slots 2 (lit< tt))
    ∙ ap (λ (e : MbrEntry). entry_of mbr 0 ∷ entry_of mbr 1 ∷ entry_of mbr 2 ∷ e ∷ []) (reads.slots 3 (lit< tt))

listed_same : (image : ℕ → ℕ) (kind : TableKind) (mbr : MbrSpec) (logical : List MbrEntry) (gpt : Option GptTable)
    (z : ℕ) → ReadsMbr image mbr →
    tables_with kind (spec_at image).signature (spec_at image).entries logical gpt z
    ≡ tables_with kind mbr.signature (four_slots mbr) logical gpt z
listed_same image kind mbr logical gpt z reads =
    ap (λ (n : ℕ). tables_with kind n (spec_at image).entries logical gpt z) reads.signature
    ∙ ap (λ (es : List MbrEntry). tables_with kind mbr.signature es logical gpt z) (slots_same image mbr reads)

guid_beside : (kind : TableKind) (bytes : List ℕ) (z : ℕ) (mbr : MbrSpec) (front back : GptHeader)
    (slot : ℕ → GptEntry) → AreBytes bytes → ReadsGuid bytes z mbr front back slot →
    (gpt_of bytes z >>= λ gpt. Ok (gpt_tables kind (spec_at (image_of bytes)) z gpt))
    ≡ Ok (listed kind z (Guid mbr front back slot))
guid_beside kind bytes z mbr front back slot small reads =
    ap (λ (found : Result GptTable TableFault). found >>= λ gpt. Ok (gpt_tables kind (spec_at (image_of bytes)) z gpt))
    (guid_there bytes z front back slot small reads.1)
    ∙ ap Ok (listed_same (image_of bytes) kind mbr [] (Some (used_of front slot)) z reads.0)

beside_there : (kind : TableKind) (bytes : List ℕ) (whole : Whole) → AreBytes bytes →
    ReadAs kind bytes (extended_in bytes) (sector_of kind bytes) whole →
    IsMarked (image_of bytes) 0 × (tables_beside kind bytes (spec_at (image_of bytes))
    ≡ Ok (listed kind (sector_of kind bytes) whole))
beside_there table.Bare bytes (Slots mbr logical) small reads = absurd reads
beside_there table.Bare bytes (Guid mbr front back slot) small reads = absurd reads
beside_there table.Mbr bytes (Guid mbr front back slot) small reads = absurd reads
beside_there table.Gpt bytes (Slots mbr logical) small reads = absurd reads
beside_there table.Hybrid bytes (Slots mbr logical) small reads = absurd reads
beside_there table.Mbr bytes (Slots mbr logical) small reads =
    let spec = spec_at (image_of bytes) in
    let itself = says_itself bytes reads.0.marked in
    let there = logical_there bytes spec (extended_slot spec) logical itself (extended_few spec) reads.1 in (
      reads.0.marked,
      ap (λ (found : Result (List MbrEntry) TableFault). found >>= λ logical. Ok (mbr_tables spec logical)) there
          ∙ ap Ok (listed_same (image_of bytes) table.Mbr mbr logical None 512 reads.0),
    )
beside_there table.Gpt bytes (Guid mbr front back slot) small reads =
    (reads.0.marked, guid_beside table.Gpt bytes (sector_of table.Gpt bytes) mbr front back slot small reads)
beside_there table.Hybrid bytes (Guid mbr front back slot) small reads =
    (reads.0.marked, guid_beside table.Hybrid bytes (sector_of table.Hybrid bytes) mbr front back slot small reads)

whole_there : (bytes : List ℕ) (whole : Whole) → AreBytes bytes →
    ReadAs (kind_in bytes) bytes (extended_in bytes) (sector_in bytes) whole →
    tables_in bytes ≡ Ok (listed (kind_in bytes) (sector_in bytes) whole)
whole_there bytes whole small reads =
    let there = beside_there (kind_in bytes) bytes whole small reads in
    first_there bytes there.0 ∙ there.1

tables_there : (bytes : List ℕ) (tables : Tables) → AreBytes bytes → AreTablesOf bytes tables →
    tables_in bytes ≡ Ok tables
tables_there bytes tables small are = whole_there bytes are.0 small are.1 ∙ ap Ok (sym are.2)

-- with what is recognised by other names
pub read_so : (bytes : List ℕ) (kind : TableKind) (slot z : ℕ) (whole : Whole) → AreBytes bytes → kind_in bytes ≡ kind →
    extended_in bytes ≡ slot → sector_of kind bytes ≡ z → ReadAs kind bytes slot z whole →
    tables_in bytes ≡ Ok (listed kind z whole)
read_so bytes kind slot z whole small is_kind is_slot is_sector reads =
    let as_is : ReadAs (kind_in bytes) bytes (extended_in bytes) (sector_in bytes) whole →
    tables_in bytes ≡ Ok (listed (kind_in bytes) (sector_in bytes) whole) = whole_there bytes whole small in
    let of_kind : ReadAs kind bytes (extended_in bytes) (sector_of kind bytes) whole →
    tables_in bytes ≡ Ok (listed kind (sector_of kind bytes) whole) =
    subst (λ (k : TableKind). ReadAs k bytes (extended_in bytes) (sector_of k bytes) whole →
    tables_in bytes ≡ Ok (listed k (sector_of k bytes) whole)) is_kind as_is in
    let of_slot : ReadAs kind bytes slot (sector_of kind bytes) whole →
    tables_in bytes ≡ Ok (listed kind (sector_of kind bytes) whole) =
    subst (λ (s : ℕ). ReadAs kind bytes s (sector_of kind bytes) whole →
    tables_in bytes ≡ Ok (listed kind (sector_of kind bytes) whole)) is_slot of_kind in
    let of_sector : ReadAs kind bytes slot z whole → tables_in bytes ≡ Ok (listed kind z whole) =
    subst (λ (n : ℕ). ReadAs kind bytes slot n whole → tables_in bytes ≡ Ok (listed kind n whole)) is_sector of_slot in
    of_sector reads

-- ---- the laws

pub tables_are_read_as : TablesAreReadAs
tables_are_read_as bytes tables small = (tables_found bytes tables small, tables_there bytes tables small)

other_answers : (tables : Tables) (refusal : TableFault) → Ok tables ≡ Err refusal → ⊥
other_answers tables refusal h = absurd cc

either_by : (bytes : List ℕ) (answer : Result Tables TableFault) → AreBytes bytes → tables_in bytes ≡ answer →
    ((tables : Tables) × AreTablesOf bytes tables × ((refusal : TableFault) → tables_in bytes ≢ Err refusal))
    ⊎ ((refusal : TableFault) × (tables_in bytes ≡ Err refusal) × ((tables : Tables) → ¬ AreTablesOf bytes tables))
either_by bytes (Ok tables) small is =
    inl (tables, tables_found bytes tables small is, λ refusal h. other_answers tables refusal (sym is ∙ h))
either_by bytes (Err refusal) small is =
    inr (refusal, is, λ tables are. other_answers tables refusal (sym (tables_there bytes tables small are) ∙ is))

pub tables_or_refusal : TablesOrRefusal
tables_or_refusal bytes small = either_by bytes (tables_in bytes) small refl

pub tables_are_one : TablesAreOne
tables_are_one bytes tables others small are also =
    same_answer (tables_in bytes) tables others (tables_there bytes tables small are)
    (tables_there bytes others small also)
