-- What a pool ends as, where the bytes of one buffer are lent to be written.
use Rattle.std.specs.Prelude.{ℕ, List}
use Rattle.std.specs.Borrow.{Lends, Fml, MutBor, Array, u8}
use Rattle.region_pool.specs.Buffers.{Buffers, with_bytes}
use Rattle.region_pool.specs.contracts.pool.Pool.{the_row}

-- once the borrow r ends, the slot's buffer holds what r shows last, and all else is as it was
abbrev pub LendsBuffer : MutBor Buffers → ℕ → MutBor (List ℕ) → Fml
LendsBuffer p slot r = Lends the_row (Array u8 0) p r (with_bytes p.now slot)
