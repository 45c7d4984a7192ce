-- The partitions that the links of an image give are those that a reader finds by them.
use Rattle.std.specs.Prelude.{◌≡◌, ℕ, zero, suc, ◌+◌, ◌*◌, ◌%◌, ◌^◌, ◌<◌, ◌≤◌, ◌⊎◌, ◌||◌, not, nat_lt, List, [], ◌∷◌, length, Bool, true, false, Option, None, Some, Ok, if◌then◌else◌}
use Rattle.std.proofs.Common.{refl, ap, sym, subst, ◌∙◌, arith, inl, inr}
use Rattle.std.proofs.lemmas.Bool.{lt-ltb, ltb-true}
use Rattle.base_fields.specs.Results.{◌>>=◌, or_else}
use Rattle.base_fields.proofs.Binds.{bind_ok, or_else_ok}
use Rattle.mbr_table.specs.Mbr.{is_empty}
use Rattle.mbr_table.specs.declared.mbr.MbrEntry.{MbrEntry}
use Rattle.extended_chain.specs.ChainReading.{ChainFrom, ChainReads, RecordReads, link_at, own_at}
use Rattle.table_reading.specs.Recognised.{image_of, is_marked}
use Rattle.table_reading.specs.Record.{boot_record, boot_record_in, link_in, logical_in, own_in}
use Rattle.table_reading.specs.declared.record.BootRecord.{BootRecord}
use Rattle.table_reader.specs.Chain.{boot_at, chain_of, followed, logicals_from}
use Rattle.table_reader.specs.Parts.{part_of}
use Rattle.table_reader.specs.declared.fault.TableFault.TheVariants.{BadChain}
use Rattle.table_laws.proofs.Images.{same_mbr_slot}
use Rattle.table_laws.proofs.Parts.{marked_found, marked_inside, marked_there, part, part_found, part_there, same_within}

-- ---- one record

own_same : (bytes : List ℕ) (sector : ℕ) → own_in (part bytes (512 * sector) 512) ≡ own_at (image_of bytes) sector
own_same bytes sector =
    same_mbr_slot (image_of (part bytes (512 * sector) 512)) (image_of bytes) 446 (512 * sector + 446)
    (same_within bytes (512 * sector) 512 446 16 (omega arith))

link_same : (bytes : List ℕ) (sector : ℕ) → link_in (part bytes (512 * sector) 512) ≡ link_at (image_of bytes) sector
link_same bytes sector =
    same_mbr_slot (image_of (part bytes (512 * sector) 512)) (image_of bytes) 462 (512 * sector + 462)
    (same_within bytes (512 * sector) 512 462 16 (omega arith))

-- where the second entry leads, if anywhere
abbrev Leads : (ℕ → ℕ) → ℕ → ℕ → Option ℕ → Type 0
Leads image start sector None = is_empty (link_at image sector) ≡ true
Leads image start sector (Some next) = (is_empty (link_at image sector) ≡ false) × (sector < next)
    × (start + (link_at image sector).first ≡ next)

-- how a record is judged
abbrev judged : Bool → Bool → Bool → Bool → BootRecord → BootRecord → Option BootRecord
judged marked empty last later final more =
    if not marked || empty then None else if last then Some final else if later then Some more else None

passes : (marked empty last later : Bool) (final more boot : BootRecord) →
    judged marked empty last later final more ≡ Some boot →
    (marked ≡ true) × (empty ≡ false) × (((last ≡ true) × (final ≡ boot)) ⊎
    ((last ≡ false) × (later ≡ true) × (more ≡ boot)))
passes false empty last later final more boot h = absurd cc
passes true true last later final more boot h = absurd cc
passes true false true later final more boot h = (refl, refl, inl (refl, cc))
passes true false false true final more boot h = (refl, refl, inr (refl, refl, cc))
passes true false false false final more boot h = absurd cc

-- a record in a sector, by its first entry and what follows it
abbrev record_at : (ℕ → ℕ) → ℕ → Option ℕ → BootRecord
record_at image sector next = boot_record
    (record (own_at image sector) { first = (sector + (own_at image sector).first) % 2 ^ 32 }) next

logical_same : (bytes : List ℕ) (sector : ℕ) (next : Option ℕ) →
    boot_record (logical_in sector (part bytes (512 * sector) 512)) next ≡ record_at (image_of bytes) sector next
logical_same bytes sector next =
    ap (λ (e : MbrEntry). boot_record (record e { first = (sector + e.first) % 2 ^ 32 }) next) (own_same bytes sector)

-- a record that is found reads as it is
record FoundRecord (image : ℕ → ℕ) (start sector : ℕ) (boot : BootRecord) : Type 0 where
  reads : RecordReads image sector boot.logical
  leads : Leads image start sector boot.next

found_at : (bytes : List ℕ) (start sector : ℕ) (next : Option ℕ) (boot : BootRecord) →
    is_marked (part bytes (512 * sector) 512) ≡ true →
    is_empty (own_in (part bytes (512 * sector) 512)) ≡ false →
    boot_record (logical_in sector (part bytes (512 * sector) 512)) next ≡ boot →
    Leads (image_of bytes) start sector next → FoundRecord (image_of bytes) start sector boot
found_at bytes start sector next boot marked used same leads =
    let image = image_of bytes in
    let is : record_at image sector next ≡ boot = sym (logical_same bytes sector next) ∙ same in
    let here : FoundRecord image start sector (record_at image sector next) = record {
      reads = record {
        marked = marked_found bytes (512 * sector) marked;
        used = subst (λ (e : MbrEntry). is_empty e ≡ false) (own_same bytes sector) used;
        entry = refl;
      };
      leads = leads;
    } in
    subst (FoundRecord image start sector) is here

record_found : (bytes : List ℕ) (start sector : ℕ) (boot : BootRecord) →
    boot_record_in start sector (part bytes (512 * sector) 512) ≡ Some boot →
    FoundRecord (image_of bytes) start sector boot
record_found bytes start sector boot h =
    let found = part bytes (512 * sector) 512 in
    let link = link_same bytes sector in
    let all = passes (is_marked found) (is_empty (own_in found)) (is_empty (link_in found))
    (nat_lt sector (start + (link_in found).first))
    (boot_record (logical_in sector found) None)
    (boot_record (logical_in sector found) (Some (start + (link_in found).first))) boot h in
    elim all.2 [
      | inl last ↦ found_at bytes start sector None boot all.0 all.1 last.1
          (subst (λ (e : MbrEntry). is_empty e ≡ true) link last.0)
      | inr more ↦
          let next : boot_record (logical_in sector found) (Some (start + (link_at (image_of bytes) sector).first))
          ≡ boot =
          subst (λ (e : MbrEntry). boot_record (logical_in sector found) (Some (start + e.first)) ≡ boot) link more.2 in
          let later : sector < start + (link_at (image_of bytes) sector).first =
          subst (λ (e : MbrEntry). sector < start + e.first) link (ltb-true _ _ more.1) in
          found_at bytes start sector (Some (start + (link_at (image_of bytes) sector).first)) boot all.0 all.1 next
          (subst (λ (e : MbrEntry). is_empty e ≡ false) link more.0, later, refl)
    ]

-- the record that a reader finds in a sector
boot_found : (bytes : List ℕ) (start sector : ℕ) (boot : BootRecord) → boot_at bytes start sector ≡ Ok boot →
    FoundRecord (image_of bytes) start sector boot
boot_found bytes start sector boot h =
    let step = bind_ok (part_of bytes (512 * sector) 512)
    (λ xs. or_else (boot_record_in start sector xs) (BadChain (512 * sector))) boot h in
    let same = (part_found bytes step.0 (512 * sector) 512 step.1).1 in
    record_found bytes start sector boot
    (subst (λ (xs : List ℕ). boot_record_in start sector xs ≡ Some boot) (sym same)
    (or_else_ok (boot_record_in start sector step.0) boot (BadChain (512 * sector)) step.2))

-- and the other way round
same_reading : (image : ℕ → ℕ) (sector : ℕ) (e : MbrEntry) (next : Option ℕ) → RecordReads image sector e →
    record_at image sector next ≡ boot_record e next
same_reading image sector e next reads = ap (λ (x : MbrEntry). boot_record x next) (sym reads.entry)

read_as : (bytes : List ℕ) (start sector : ℕ) (e : MbrEntry) (next : Option ℕ) → RecordReads (image_of bytes) sector e →
    boot_record_in start sector (part bytes (512 * sector) 512) ≡ Some (record_at (image_of bytes) sector next) →
    boot_at bytes start sector ≡ Ok (boot_record e next)
read_as bytes start sector e next reads h =
    let there = part_there bytes (512 * sector) 512 (marked_inside bytes (512 * sector) reads.marked) in
    rw (there, h) (ap Ok (same_reading (image_of bytes) sector e next reads))

last_there : (bytes : List ℕ) (start sector : ℕ) (e : MbrEntry) → RecordReads (image_of bytes) sector e →
    is_empty (link_at (image_of bytes) sector) ≡ true → boot_at bytes start sector ≡ Ok (boot_record e None)
last_there bytes start sector e reads last =
    let marked = marked_there bytes (512 * sector) reads.marked in
    let used : is_empty (own_in (part bytes (512 * sector) 512)) ≡ false =
    subst (λ (x : MbrEntry). is_empty x ≡ false) (sym (own_same bytes sector)) reads.used in
    let ended : is_empty (link_in (part bytes (512 * sector) 512)) ≡ true =
    subst (λ (x : MbrEntry). is_empty x ≡ true) (sym (link_same bytes sector)) last in
    read_as bytes start sector e None reads (rw (marked, used, ended) (ap Some (logical_same bytes sector None)))

more_there : (bytes : List ℕ) (start sector : ℕ) (e : MbrEntry) → RecordReads (image_of bytes) sector e →
    is_empty (link_at (image_of bytes) sector) ≡ false →
    sector < start + (link_at (image_of bytes) sector).first →
    boot_at bytes start sector ≡ Ok (boot_record e (Some (start + (link_at (image_of bytes) sector).first)))
more_there bytes start sector e reads more later =
    let found = part bytes (512 * sector) 512 in
    let marked = marked_there bytes (512 * sector) reads.marked in
    let used : is_empty (own_in found) ≡ false =
    subst (λ (x : MbrEntry). is_empty x ≡ false) (sym (own_same bytes sector)) reads.used in
    let going : is_empty (link_in found) ≡ false =
    subst (λ (x : MbrEntry). is_empty x ≡ false) (sym (link_same bytes sector)) more in
    let behind : nat_lt sector (start + (link_in found).first) ≡ true =
    subst (λ (x : MbrEntry). nat_lt sector (start + x.first) ≡ true) (sym (link_same bytes sector))
    (lt-ltb _ _ later) in
    let next : Some (start + (link_in found).first) ≡ Some (start + (link_at (image_of bytes) sector).first) =
    ap (λ (x : MbrEntry). Some (start + x.first)) (link_same bytes sector) in
    read_as bytes start sector e (Some (start + (link_at (image_of bytes) sector).first)) reads
    (rw (marked, used, going, behind)
    (ap (λ (o : Option ℕ). Some (boot_record (logical_in sector found) o)) next
    ∙ ap Some (logical_same bytes sector (Some (start + (link_at (image_of bytes) sector).first)))))

-- ---- all records

-- the records from one on, of which there may be so many
abbrev Chained : (ℕ → ℕ) → ℕ → ℕ → ℕ → List MbrEntry → Type 0
Chained image start n sector entries = ChainFrom image start sector entries × (length entries ≤ n)

chained_last : (image : ℕ → ℕ) (start n sector : ℕ) (e : MbrEntry) (entries : List MbrEntry) →
    RecordReads image sector e → is_empty (link_at image sector) ≡ true → e ∷ [] ≡ entries →
    Chained image start (suc n) sector entries
chained_last image start n sector e entries reads last is =
    subst (Chained image start (suc n) sector) is ((reads, last), omega arith)

chained_more : (image : ℕ → ℕ) (start n sector : ℕ) (e : MbrEntry) (rest entries : List MbrEntry) →
    RecordReads image sector e → is_empty (link_at image sector) ≡ false →
    sector < start + (link_at image sector).first → Chained image start n (start + (link_at image sector).first) rest →
    e ∷ rest ≡ entries → Chained image start (suc n) sector entries
chained_more image start n sector e [] entries reads more later chained is = absurd chained.0
chained_more image start n sector e (f ∷ rest) entries reads more later chained is =
    subst (Chained image start (suc n) sector) is
    ((reads, more, later, chained.0), let few = chained.1 in omega (arith, few))

-- what the links lead to, by what the reader finds from there on
chained_by : (bytes : List ℕ) (start n sector : ℕ) (e : MbrEntry) (next : Option ℕ) (entries : List MbrEntry) →
    ((sector : ℕ) (entries : List MbrEntry) → logicals_from bytes start n sector ≡ Ok entries →
    Chained (image_of bytes) start n sector entries) →
    RecordReads (image_of bytes) sector e → Leads (image_of bytes) start sector next →
    (followed (logicals_from bytes start n) next >>= λ rest. Ok (e ∷ rest)) ≡ Ok entries →
    Chained (image_of bytes) start (suc n) sector entries
chained_by bytes start n sector e None entries smaller reads leads h =
    let is : e ∷ [] ≡ entries = cc in
    chained_last (image_of bytes) start n sector e entries reads leads is
chained_by bytes start n sector e (Some next) entries smaller reads leads h =
    let image = image_of bytes in
    let step = bind_ok (logicals_from bytes start n next) (λ rest. Ok (e ∷ rest)) entries h in
    let is : e ∷ step.0 ≡ entries = let same = step.2 in cc in
    let later : sector < start + (link_at image sector).first = let there = leads.2 in omega (arith, leads.1, there) in
    let chained : Chained image start n (start + (link_at image sector).first) step.0 =
    subst (λ (s : ℕ). Chained image start n s step.0) (sym leads.2) (smaller next step.0 step.1) in
    chained_more image start n sector e step.0 entries reads leads.0 later chained is

chain_read : (bytes : List ℕ) (start n sector : ℕ) (entries : List MbrEntry) →
    logicals_from bytes start n sector ≡ Ok entries → Chained (image_of bytes) start n sector entries
unfolding logicals_from
chain_read bytes start zero sector entries h = absurd cc
chain_read bytes start (suc n) sector entries h =
    let step = bind_ok (boot_at bytes start sector)
    (λ boot. followed (logicals_from bytes start n) boot.next >>= λ rest. Ok (boot.logical ∷ rest)) entries h in
    let found = boot_found bytes start sector step.0 step.1 in
    chained_by bytes start n sector step.0.logical step.0.next entries
    (λ s es. chain_read bytes start n s es) found.reads found.leads step.2

chain_given : (bytes : List ℕ) (start n sector : ℕ) (e : MbrEntry) (rest : List MbrEntry) →
    ChainFrom (image_of bytes) start sector (e ∷ rest) → suc (length rest) ≤ n →
    logicals_from bytes start n sector ≡ Ok (e ∷ rest)
unfolding logicals_from
chain_given bytes start zero sector e rest chain few = absurd (omega arith)
chain_given bytes start (suc n) sector e [] chain few =
    let here = last_there bytes start sector e chain.0 chain.1 in
    rw here refl
chain_given bytes start (suc n) sector e (f ∷ rest) chain few =
    let here = more_there bytes start sector e chain.0 chain.1 chain.2 in
    let behind = chain_given bytes start n (start + (link_at (image_of bytes) sector).first) f rest chain.3
    (omega (arith, few)) in
    rw (here, behind) refl

-- ---- the chain

pub chain_found : (bytes : List ℕ) (start : ℕ) (entries : List MbrEntry) → chain_of bytes start ≡ Ok entries →
    ChainReads (image_of bytes) start entries
chain_found bytes start entries h =
    let chained = chain_read bytes start 256 start entries h in
    record { few = chained.1; records = chained.0 }

pub chain_there : (bytes : List ℕ) (start : ℕ) (entries : List MbrEntry) → ChainReads (image_of bytes) start entries →
    chain_of bytes start ≡ Ok entries
chain_there bytes start [] reads = absurd reads.records
chain_there bytes start (e ∷ rest) reads = chain_given bytes start 256 start e rest reads.records reads.few
