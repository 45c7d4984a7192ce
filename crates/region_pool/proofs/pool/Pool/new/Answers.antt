use Rattle.std.proofs.Common.{◌≡◌, ◌∙◌, List, ℕ, Bool, arith, replicate, take, false}
use Rattle.std.proofs.lemmas.List.{take-replicate}
use Rattle.region_pool.specs.Blocks.{pieces}
use Rattle.region_pool.specs.Buffers.{Buffers}
use Rattle.region_pool.proofs.Pieces.{zero_pieces}
use Rattle.region_pool.proofs.pool.Pool.new.Goals as goal

pub returns : goal.returns
returns c =
    let count = c.args.count in let bytes = c.args.bytes in
    let slots : pieces bytes count c.in_ok-block.block ≡ replicate count (replicate bytes 0) =
    (λ i. pieces bytes count (c.in_ok-block.ensures i)) ∙ (λ i. pieces bytes count (replicate (c.block_len.ensures i) 0)) ∙ zero_pieces bytes count in
    let marks : take count c.none_out.result ≡ replicate count false =
    (λ i. take count (c.none_out.ensures i)) ∙ take-replicate count 64 false (omega arith) in
    let seen : List (List ℕ) → List Bool → Buffers = λ slots out. record { tag = c.args.tag; size = bytes; slots = slots; out = out } in
    record { ok = λ i. seen (slots i) (marks i) }
