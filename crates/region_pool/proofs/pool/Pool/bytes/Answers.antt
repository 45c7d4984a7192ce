use Rattle.std.proofs.Common.{◌<◌, [], length, take, drop, get_or, sym, ap, ◌∙◌, arith, length-take, length-drop}
use Rattle.region_pool.specs.Buffers.{Buffers, Held}
use Rattle.region_pool.proofs.Pieces.{length-pieces, piece_at, piece_within}
use Rattle.region_pool.proofs.pool.Pool.bytes.Goals as goal

pub slice-requires : goal.slice-requires
slice-requires c =
    let p = c.self.inside in
    let there : c.lease.inside.slot < p.count = omega (arith, c.requires.there, ap (λ (b : Buffers). length b.slots) c.self.view_is, ap (λ (l : Held). l.slot) c.lease.view_is, length-pieces p.size p.count p.block) in
    omega (arith, c.place-at.ensures.0, c.place-at.ensures.1, c.self.invariant.1, piece_within p.size p.count c.lease.inside.slot there)

pub returns-clause-len : goal.returns-clause-len
returns-clause-len c =
    let p = c.self.inside in let at = c.place-at.result.0 in let len = c.place-at.result.1 in
    let there : c.lease.inside.slot < p.count = omega (arith, c.requires.there, ap (λ (b : Buffers). length b.slots) c.self.view_is, ap (λ (l : Held). l.slot) c.lease.view_is, length-pieces p.size p.count p.block) in
    omega (arith, c.place-at.ensures.0, c.self.invariant.1, piece_within p.size p.count c.lease.inside.slot there, ap length c.slice.ensures, length-take len (drop at p.block), length-drop at p.block, c.place-at.ensures.1, ap (λ (b : Buffers). b.size) c.self.view_is)

pub returns-clause-value : goal.returns-clause-value
returns-clause-value c =
    let p = c.self.inside in
    let there : c.lease.inside.slot < p.count = omega (arith, c.requires.there, ap (λ (b : Buffers). length b.slots) c.self.view_is, ap (λ (l : Held). l.slot) c.lease.view_is, length-pieces p.size p.count p.block) in
    c.slice.ensures ∙ (λ i. take (c.place-at.ensures.1 i) (drop (c.place-at.ensures.0 i) p.block)) ∙ sym (piece_at p.size p.count p.block c.lease.inside.slot there)
    ∙ (λ i. get_or (c.self.view_is i).slots (c.lease.view_is i).slot [])
