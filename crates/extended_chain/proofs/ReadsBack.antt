-- Boot records read as the partitions that they were made of.
use Rattle.std.specs.Prelude.{◌≡◌, ℕ, suc, ◌+◌, ◌-◌, ◌*◌, ◌^◌, ◌<◌, ◌≤◌, List, [], ◌∷◌, Bool, true, false, ◌&&◌, ◌==◌, Option, None, Some, length, map, slice_get, take, drop}
use Rattle.std.proofs.Common.{arith, refl, ◌∙◌, sym, ap, subst, lit<, add-zero}
use Rattle.std.proofs.lemmas.List.{length-map}
use Rattle.std.proofs.lemmas.Bool.Decides.{nat_tests}
use Rattle.base_fields.specs.Fields.{byte_of, joined}
use Rattle.mbr_table.specs.Mbr.{is_empty}
use Rattle.mbr_table.specs.Reading.{EntryFits}
use Rattle.base_fields.proofs.FieldRuns.{byte_of-run, run_passes}
use Rattle.mbr_table.proofs.SlotReads.{same_entry, slot_reads}
use Rattle.base_fields.proofs.Images.{Has, part_of}
use Rattle.mbr_table.specs.declared.mbr.MbrEntry.{MbrEntry}
use Rattle.extended_chain.proofs.Heads.{ascends_rest}
use Rattle.extended_chain.specs.Chain.{Ascends, boot_fields, link_to, logical_of, own_entry}
use Rattle.extended_chain.specs.ChainReading.{ChainFrom, ChainReadsBack, LogicalFits, RecordReads, link_at, logical_entry, own_at}
use Rattle.extended_chain.specs.declared.chain.LogicalSpec.{LogicalSpec}

-- an image that has the bytes of a record in its sector
abbrev HoldsRecord : (ℕ → ℕ) → ℕ → LogicalSpec → Option LogicalSpec → Type 0
HoldsRecord image start s next = (o : ℕ) → o < 512 → image (512 * s.head + o) ≡ byte_of (boot_fields start s next) o

-- it has the bytes of the entries one after another
has_entries : (image : ℕ → ℕ) (start : ℕ) (s : LogicalSpec) (next : Option LogicalSpec) → HoldsRecord image start s next → Has image (512 * s.head + 446) (joined (boot_fields start s next))
has_entries image start s next holds i h =
    let fields = boot_fields start s next in
    let moved : 512 * s.head + 446 + i ≡ 512 * s.head + (446 + i) = omega arith in
    rw moved (holds (446 + i) (omega arith) ∙ byte_of-run fields 446 i (run_passes fields 446 refl))

passes_not : (a b c : Bool) → b ≡ false → (a && b && c) ≡ false
passes_not true false c h = refl
passes_not false false c h = refl
passes_not a true c h = cc

-- an entry with a first sector isn't empty
in_use : (e : MbrEntry) → 0 < e.first → is_empty e ≡ false
in_use e h =
    let some : (e.first == 0) ≡ false = grind (arith, nat_tests) in
    passes_not (e.kind == 0) (e.first == 0) (e.count == 0) some

own_fits : (s : LogicalSpec) → LogicalFits s → s.head < s.first → EntryFits (own_entry s)
own_fits s fits ahead = record { kind = fits.kind; first = omega (arith, fits.first); count = fits.count; used = λ active. in_use (own_entry s) (omega arith) }

-- the first entry
own_reads : (image : ℕ → ℕ) (start : ℕ) (s : LogicalSpec) (next : Option LogicalSpec) → LogicalFits s → s.head < s.first → HoldsRecord image start s next → own_at image s.head ≡ own_entry s
own_reads image start s next fits ahead holds =
    let bytes = joined (boot_fields start s next) in
    slot_reads image s.head (512 * s.head + 446) (own_entry s) (own_fits s fits ahead)
    (rw (← add-zero (512 * s.head + 446)) (part_of image (512 * s.head + 446) [] (take 16 bytes) (drop 16 bytes) (has_entries image start s next holds)))

-- the second entry
link_reads : (image : ℕ → ℕ) (start : ℕ) (s : LogicalSpec) (next : Option LogicalSpec) → EntryFits (link_to start next) → HoldsRecord image start s next → link_at image s.head ≡ link_to start next
link_reads image start s next fits holds =
    let bytes = joined (boot_fields start s next) in
    let moved : 512 * s.head + 462 ≡ 512 * s.head + 446 + 16 = omega arith in
    slot_reads image start (512 * s.head + 462) (link_to start next) fits
    (rw moved (part_of image (512 * s.head + 446) (take 16 bytes) (take 16 (drop 16 bytes)) (drop 32 bytes) (has_entries image start s next holds)))

record_reads : (image : ℕ → ℕ) (start : ℕ) (s : LogicalSpec) (next : Option LogicalSpec) → LogicalFits s → s.head < s.first → HoldsRecord image start s next → RecordReads image s.head (logical_entry s)
record_reads image start s next fits ahead holds =
    let own : own_at image s.head ≡ own_entry s = own_reads image start s next fits ahead holds in
    let first : (own_at image s.head).first ≡ s.first - s.head = ap (λ (e : MbrEntry). e.first) own in
    record {
      marked = (holds 510 (lit< tt), holds 511 (lit< tt));
      used = ap is_empty own ∙ in_use (own_entry s) (omega arith);
      entry = same_entry _ _ (sym (ap (λ (e : MbrEntry). e.active) own)) (sym (ap (λ (e : MbrEntry). e.kind) own))
          (omega (arith, fits.first, first)) (sym (ap (λ (e : MbrEntry). e.count) own));
    }

-- the entries of a link fit their fields
last_fits : (start : ℕ) → EntryFits (link_to start None)
last_fits start = record { kind = lit< tt; first = lit< tt; count = lit< tt; used = λ active. cc }

next_fits : (start : ℕ) (t : LogicalSpec) → LogicalFits t → t.first + t.count < t.head + 2 ^ 32 → EntryFits (link_to start (Some t))
next_fits start t fits end = record { kind = lit< tt; first = omega (arith, fits.head); count = omega arith; used = λ active. refl }

-- what the records from one on have to be
record Records (image : ℕ → ℕ) (start : ℕ) (specs : List LogicalSpec) : Type 0 where
  each : (k : ℕ) → k < length specs → LogicalFits (logical_of specs k)
  ascends : Ascends specs
  holds : (k : ℕ) → k < length specs → HoldsRecord image start (logical_of specs k) (slice_get specs (k + 1))

records_rest : (image : ℕ → ℕ) (start : ℕ) (s : LogicalSpec) (specs : List LogicalSpec) → Records image start (s ∷ specs) → Records image start specs
records_rest image start s specs all =
    let next : (k : ℕ) → suc k + 1 ≡ suc (k + 1) = λ k. omega arith in
    record {
      each = λ k h. all.each (suc k) (omega arith);
      ascends = ascends_rest s specs all.ascends;
      holds = λ k h. subst (λ (n : ℕ). HoldsRecord image start (logical_of specs k) (slice_get (s ∷ specs) n)) (next k) (all.holds (suc k) (omega arith));
    }

chain_from : (image : ℕ → ℕ) (start : ℕ) (s : LogicalSpec) (specs : List LogicalSpec) → start ≤ s.head → Records image start (s ∷ specs) → ChainFrom image start s.head (map logical_entry (s ∷ specs))
chain_from image start s [] after all =
    let holds : HoldsRecord image start s None = all.holds 0 (lit< tt) in (
      record_reads image start s None (all.each 0 (lit< tt)) (all.ascends.ahead 0 (lit< tt)) holds,
      ap is_empty (link_reads image start s None (last_fits start) holds),
    )
chain_from image start s (t ∷ specs) after all =
    let holds : HoldsRecord image start s (Some t) = all.holds 0 (omega arith) in
    let rest : Records image start (t ∷ specs) = records_rest image start s (t ∷ specs) all in
    let rises : s.head < t.head = all.ascends.rises 0 (omega arith) in
    let link : link_at image s.head ≡ link_to start (Some t) =
    link_reads image start s (Some t) (next_fits start t (rest.each 0 (omega arith)) (rest.ascends.fits 0 (omega arith))) holds in
    let first : (link_at image s.head).first ≡ t.head - start = ap (λ (e : MbrEntry). e.first) link in
    let there : t.head ≡ start + (link_at image s.head).first = omega arith in (
      record_reads image start s (Some t) (all.each 0 (omega arith)) (all.ascends.ahead 0 (omega arith)) holds,
      ap is_empty link,
      omega arith,
      subst (λ (n : ℕ). ChainFrom image start n (map logical_entry (t ∷ specs))) there (chain_from image start t specs (omega arith) rest),
    )

pub chain_reads_back : ChainReadsBack
chain_reads_back [] image some few each ascends holds = absurd (omega arith)
chain_reads_back (s ∷ specs) image some few each ascends holds = record {
  few = omega (arith, length-map (s ∷ specs) logical_entry);
  records = chain_from image s.head s specs (omega arith) (record { each = each; ascends = ascends; holds = holds });
}
