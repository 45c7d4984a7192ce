-- The greatest end, and the chain from the slot of the extended partition.
use Rattle.std.specs.Prelude.{◌≡◌, ℕ, zero, suc, ◌+◌, ◌*◌, ◌^◌, ◌<◌, ◌≤◌, List, [], ◌∷◌, length, map}
use Rattle.std.proofs.Common.{refl, ◌∙◌, sym, ap, subst, arith, lit<}
use Rattle.mbr_table.specs.Mbr.{HasLast}
use Rattle.mbr_table.specs.Reading.{EntryFits, slot_at}
use Rattle.mbr_table.specs.declared.mbr.MbrEntry.{MbrEntry}
use Rattle.mbr_table.proofs.ReadsBack.{mbr_reads_back}
use Rattle.extended_chain.specs.Chain.{Ascends, logical_of, start_of}
use Rattle.extended_chain.specs.ChainReading.{ChainReads, LogicalFits, logical_entry}
use Rattle.extended_chain.specs.Extended.{ExtendedReadsBack, extended_entry_of, greatest_end}
use Rattle.extended_chain.specs.declared.chain.LogicalSpec.{LogicalSpec}
use Rattle.extended_chain.proofs.ReadsBack.{chain_reads_back}

-- no partition ends behind it
pub ends_within : (specs : List LogicalSpec) (k : ℕ) → k < length specs → (logical_of specs k).first + (logical_of specs k).count ≤ greatest_end specs
ends_within [] k h = absurd (omega arith)
ends_within (s ∷ specs) zero h = omega arith
ends_within (s ∷ specs) (suc k) h = let more = ends_within specs k (omega arith) in omega arith

-- the extended partition begins before it ends, where its records ascend
pub starts_before_end : (specs : List LogicalSpec) → 0 < length specs → Ascends specs → start_of specs < greatest_end specs
starts_before_end specs some ascends =
    let first = ends_within specs 0 some in
    let ahead = ascends.ahead 0 some in
    omega arith

-- its entry is as one of a master boot record has to be
pub extended_fits : (specs : List LogicalSpec) → LogicalFits (logical_of specs 0) → greatest_end specs < start_of specs + 2 ^ 32 → EntryFits (extended_entry_of specs)
extended_fits specs first end = record { kind = lit< tt; first = first.head; count = omega arith; used = λ active. refl }

pub extended_has_last : (specs : List LogicalSpec) → 0 < length specs → Ascends specs → HasLast 0 (extended_entry_of specs)
extended_has_last specs some ascends used = let behind = starts_before_end specs some ascends in omega arith

pub extended_reads_back : ExtendedReadsBack
extended_reads_back spec k specs image fits below slot some few each ascends holds records =
    let reads = mbr_reads_back spec image fits holds in
    let same : slot_at image (446 + 16 * k) ≡ extended_entry_of specs = reads.slots k below ∙ slot in
    let first : start_of specs ≡ (slot_at image (446 + 16 * k)).first = sym (ap (λ (e : MbrEntry). e.first) same) in
    record {
      mbr = reads;
      kind = ap (λ (e : MbrEntry). e.kind) same;
      chain = subst (λ (n : ℕ). ChainReads image n (map logical_entry specs)) first (chain_reads_back specs image some few each ascends records);
    }
