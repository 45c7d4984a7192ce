-- The boot records of the logical partitions, which are put one after another.
use Rattle.std.specs.Prelude.{◌≡◌, ℕ, ◌+◌, ◌*◌, ◌<◌, ◌≤◌, List, [], ◌∷◌, ◌++◌, Some, length, slice_get, slice_index, take}
use Rattle.std.proofs.Common.{◌∙◌, sym, ap, subst}
use Rattle.std.proofs.lemmas.List.{take_all, take_more}
use Rattle.base_fields.specs.Fields.{byte_of}
use Rattle.base_fields.specs.Parts.{Part}
use Rattle.outside.specs.Files.{IsThere, Tree, bytes_of}
use Rattle.extended_chain.specs.Chain.{chain_parts, logical_of, record_fields, record_part, start_of}
use Rattle.extended_chain.specs.declared.chain.LogicalSpec.{LogicalSpec}
use Rattle.extended_chain.proofs.Held.{length-records, record-at}
use Rattle.image_writes.specs.Images.{PutsRun}
use Rattle.image_tables.specs.Tables.{Each, EndsWithin, PutsParts}
use Rattle.image_tables.proofs.Serving.{each_at, puts_both, puts_none, puts_part}

-- the part of the record number k
abbrev pub part_at : List LogicalSpec → ℕ → Part
part_at specs k = record_part (start_of specs) (logical_of specs k) (slice_get specs (k + 1))

no_part : Part
no_part = record { at = 0; len = 0; byte = λ o. 0 }

-- it ends within the file, as each of them does
pub record_inside : (specs : List LogicalSpec) (k : ℕ) (name : List ℕ) (old mid : Tree) → k < length specs → Each (EndsWithin (length (bytes_of old name))) (chain_parts specs) → PutsParts (take k (chain_parts specs)) name old mid → IsThere mid name (512 * (logical_of specs k).head + 512 ≤ length (bytes_of mid name))
record_inside specs k name old mid inside each so_far =
    let long : k < length (chain_parts specs) = rw (length-records (start_of specs) specs) inside in
    let ends : EndsWithin (length (bytes_of old name)) (part_at specs k) =
    subst (EndsWithin (length (bytes_of old name))) (record-at (start_of specs) specs k no_part inside)
    (each_at (EndsWithin (length (bytes_of old name))) (chain_parts specs) k no_part each long) in
    (so_far.there, rw so_far.size ends)

-- before the first record
pub records_none : (specs : List LogicalSpec) (name : List ℕ) (file : Tree) → file name ≡ Some (bytes_of file name) → PutsParts (take 0 (chain_parts specs)) name file file
records_none specs name file there = puts_none name file there

-- one more record
pub records_more : (specs : List LogicalSpec) (k : ℕ) (bytes name : List ℕ) (old mid new : Tree) → k < length specs → length bytes ≡ 512 → ((o : ℕ) → o < 512 → slice_index bytes o ≡ byte_of (record_fields specs k) o) → PutsParts (take k (chain_parts specs)) name old mid → PutsRun (512 * (logical_of specs k).head) bytes name mid new → PutsParts (take (k + 1) (chain_parts specs)) name old new
records_more specs k bytes name old mid new inside long same so_far puts =
    let more : k < length (chain_parts specs) = rw (length-records (start_of specs) specs) inside in
    let one : PutsParts (part_at specs k ∷ []) name mid new = puts_part (part_at specs k) bytes name mid new long same puts in
    let joined : take (k + 1) (chain_parts specs) ≡ take k (chain_parts specs) ++ part_at specs k ∷ [] =
    take_more (chain_parts specs) k no_part more ∙ ap (λ (p : Part). take k (chain_parts specs) ++ p ∷ []) (record-at (start_of specs) specs k no_part inside) in
    subst (λ (ps : List Part). PutsParts ps name old new) (sym joined) (puts_both (take k (chain_parts specs)) (part_at specs k ∷ []) name old mid new so_far one)

-- all records
pub records_all : (specs : List LogicalSpec) (k : ℕ) (name : List ℕ) (old new : Tree) → length specs ≤ k → PutsParts (take k (chain_parts specs)) name old new → PutsParts (chain_parts specs) name old new
records_all specs k name old new all puts =
    let long : length (chain_parts specs) ≤ k = rw (length-records (start_of specs) specs) all in
    subst (λ (ps : List Part). PutsParts ps name old new) (take_all k (chain_parts specs) long) puts
