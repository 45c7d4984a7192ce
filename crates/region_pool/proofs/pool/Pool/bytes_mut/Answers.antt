use Rattle.std.proofs.Common.{◌≡◌, ◌+◌, ◌≤◌, ◌<◌, ◌*◌, ℕ, List, [], length, take, drop, get_or, refl, sym, ap, ◌∙◌, arith, length-take, length-drop}
use Rattle.region_pool.specs.Blocks.{pieces, with_part}
use Rattle.region_pool.specs.Buffers.{Buffers, Held}
use Rattle.region_pool.proofs.Pieces.{length-pieces, length-part, piece_at, piece_within, piece_written}
use Rattle.region_pool.proofs.pool.Pool.bytes_mut.Goals as goal

pub slice_mut-requires : goal.slice_mut-requires
slice_mut-requires c =
    let p = c.self.inside in
    let there : c.lease.inside.slot < p.count = omega (arith, c.requires.there, ap (λ (b : Buffers). length b.slots) c.self.view_is, ap (λ (l : Held). l.slot) c.lease.view_is, length-pieces p.size p.count p.block) in
    omega (arith, c.place-at.ensures.0, c.place-at.ensures.1, c.self.invariant.1, piece_within p.size p.count c.lease.inside.slot there)

pub invariant_of-self-lent : goal.invariant_of-self-lent
invariant_of-self-lent c =
    let p = c.self.inside in let at = c.place-at.result.0 in let len = c.place-at.result.1 in
    let there : c.lease.inside.slot < p.count = omega (arith, c.requires.there, ap (λ (b : Buffers). length b.slots) c.self.view_is, ap (λ (l : Held). l.slot) c.lease.view_is, length-pieces p.size p.count p.block) in
    let within : at + len ≤ length p.block = omega (arith, c.place-at.ensures.0, c.place-at.ensures.1, c.self.invariant.1, piece_within p.size p.count c.lease.inside.slot there) in
    λ w. (c.self.invariant.0, length-part p.block at len w within ∙ c.self.invariant.1)

pub returns : goal.returns
returns c =
    let p = c.self.inside in let slot = c.lease.inside.slot in let at = c.place-at.result.0 in let len = c.place-at.result.1 in
    let there : slot < p.count = omega (arith, c.requires.there, ap (λ (b : Buffers). length b.slots) c.self.view_is, ap (λ (l : Held). l.slot) c.lease.view_is, length-pieces p.size p.count p.block) in
    let seen : List (List ℕ) → Buffers = λ slots. record { tag = p.tag; size = p.size; slots = slots; out = take p.count p.out } in
    let written : (w : List ℕ) → pieces p.size p.count (with_part p.block at len w) ≡ pieces p.size p.count (with_part p.block (slot * p.size) p.size w) = λ w i. pieces p.size p.count (with_part p.block (c.place-at.ensures.0 i) (c.place-at.ensures.1 i) w) in (
      (refl, λ w. rw (← c.self.view_is, ← c.lease.view_is) (ap seen (written w ∙ piece_written p.size p.count p.block slot w there c.self.invariant.1))),
      record {
        writes_back = tt;
        len = omega (arith, c.place-at.ensures.0, c.self.invariant.1, piece_within p.size p.count slot there, ap length c.slice_mut.ensures.value, length-take len (drop at p.block), length-drop at p.block, c.place-at.ensures.1, ap (λ (b : Buffers). b.size) c.self.view_is);
        value = c.slice_mut.ensures.value ∙ (λ i. take (c.place-at.ensures.1 i) (drop (c.place-at.ensures.0 i) p.block)) ∙ sym (piece_at p.size p.count p.block slot there) ∙ (λ i. get_or (c.self.view_is i).slots (c.lease.view_is i).slot []);
      },
    )
