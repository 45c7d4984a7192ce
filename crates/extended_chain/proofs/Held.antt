-- An image that has the parts of a chain has its records, which lie apart.
use Rattle.std.specs.Prelude.{◌≡◌, ℕ, zero, suc, ◌+◌, ◌*◌, ◌<◌, ◌≤◌, List, [], ◌∷◌, ◌++◌, length, slice_get, slice_index_or}
use Rattle.std.proofs.Common.{refl, subst, arith}
use Rattle.base_fields.specs.Parts.{AreApart, AreInOrder, HoldsPart, HoldsParts, Part}
use Rattle.base_fields.proofs.PartBytes.{holds_back, holds_each, holds_front, in_order_apart}
use Rattle.mbr_table.proofs.Held.{mbr_held}
use Rattle.mbr_table.specs.Mbr.{mbr_parts}
use Rattle.mbr_table.specs.Reading.{HoldsMbr}
use Rattle.mbr_table.specs.declared.mbr.MbrSpec.{MbrSpec}
use Rattle.extended_chain.proofs.Heads.{ascends_rest}
use Rattle.extended_chain.specs.Chain.{Ascends, chain_parts, logical_of, record_part, record_parts, start_of}
use Rattle.extended_chain.specs.ChainReading.{HoldsChain}
use Rattle.extended_chain.specs.declared.chain.LogicalSpec.{LogicalSpec}

pub length-records : (start : ℕ) (specs : List LogicalSpec) → length (record_parts start specs) ≡ length specs
length-records start [] = refl
length-records start (s ∷ specs) = let more = length-records start specs in omega arith

-- the part number k is that of the record number k
pub record-at : (start : ℕ) (specs : List LogicalSpec) (k : ℕ) (d : Part) → k < length specs → slice_index_or (record_parts start specs) k d ≡ record_part start (logical_of specs k) (slice_get specs (k + 1))
record-at start [] k d h = absurd (omega arith)
record-at start (s ∷ specs) zero d h = refl
record-at start (s ∷ specs) (suc k) d h =
    let next : suc k + 1 ≡ suc (k + 1) = omega arith in
    rw next (record-at start specs k d (omega arith))

-- the records stand in order behind the first
pub records_in_order : (start from : ℕ) (specs : List LogicalSpec) → Ascends specs → (0 < length specs → from ≤ 512 * (logical_of specs 0).head) → AreInOrder from (record_parts start specs)
records_in_order start from [] ascends behind = tt
records_in_order start from (s ∷ specs) ascends behind = (
  behind (omega arith),
  records_in_order start (512 * s.head + 512) specs (ascends_rest s specs ascends)
      (λ some. let rises : s.head < (logical_of specs 0).head = ascends.rises 0 (omega arith) in omega arith),
)

pub chain_in_order : (specs : List LogicalSpec) → Ascends specs → AreInOrder (512 * start_of specs) (chain_parts specs)
chain_in_order specs ascends = records_in_order (start_of specs) (512 * start_of specs) specs ascends (λ some. omega arith)

pub chain_apart : (specs : List LogicalSpec) → Ascends specs → AreApart (chain_parts specs)
chain_apart specs ascends = in_order_apart (chain_parts specs) (512 * start_of specs) (chain_in_order specs ascends)

-- the master boot record, and the records behind it
pub tables_in_order : (spec : MbrSpec) (specs : List LogicalSpec) → Ascends specs → (0 < length specs → 0 < start_of specs) → AreInOrder 0 (mbr_parts spec ++ chain_parts specs)
tables_in_order spec specs ascends behind =
    (omega arith, records_in_order (start_of specs) 512 specs ascends (λ some. let after = behind some in omega arith))

pub tables_apart : (spec : MbrSpec) (specs : List LogicalSpec) → Ascends specs → (0 < length specs → 0 < start_of specs) → AreApart (mbr_parts spec ++ chain_parts specs)
tables_apart spec specs ascends behind = in_order_apart (mbr_parts spec ++ chain_parts specs) 0 (tables_in_order spec specs ascends behind)

-- an image that has the parts has the bytes of each record
pub chain_held : (specs : List LogicalSpec) (image : ℕ → ℕ) → Ascends specs → HoldsParts image (chain_parts specs) → HoldsChain image specs
chain_held specs image ascends holds k h =
    let d : Part = record_part 0 (logical_of specs 0) (slice_get specs 0) in
    let long = length-records (start_of specs) specs in
    let part : HoldsPart image (slice_index_or (chain_parts specs) k d) = holds_each image (chain_parts specs) (chain_apart specs ascends) holds k d (omega arith) in
    subst (HoldsPart image) (record-at (start_of specs) specs k d h) part

-- an image that has the master boot record and the records behind it has the bytes of both
pub tables_held : (spec : MbrSpec) (specs : List LogicalSpec) (image : ℕ → ℕ) → Ascends specs → (0 < length specs → 0 < start_of specs) → HoldsParts image (mbr_parts spec ++ chain_parts specs) → HoldsMbr image spec × HoldsChain image specs
tables_held spec specs image ascends behind holds = (
  mbr_held spec image (holds_front image (mbr_parts spec) (chain_parts specs) holds),
  chain_held specs image ascends (holds_back image (mbr_parts spec) (chain_parts specs) (tables_apart spec specs ascends behind) holds),
)
