-- What writing into the buffer of a lease leaves of its pool.
use Rattle.std.proofs.Common.{ℕ, List, [], refl}
use Rattle.std.proofs.lemmas.List.{get_or-set_other, length-set}
use Rattle.region_pool.specs.Buffers.{Buffers, with_bytes}
use Rattle.copier.specs.Pools.{UsesSlot}

pub uses_slot : (p : Buffers) (slot : ℕ) (bytes : List ℕ) → UsesSlot slot p (with_bytes p slot bytes)
uses_slot p slot bytes = record {
  same = refl;
  as_many = length-set p.slots slot _;
  others = λ other differs. get_or-set_other p.slots slot other _ [] differs;
}
