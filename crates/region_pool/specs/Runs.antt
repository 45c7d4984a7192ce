-- What the bytes of a block end as, where some of them are lent to be written.
use Rattle.std.specs.Prelude.{ℕ, List}
use Rattle.std.specs.Borrow.{Lends, Fml, MutBor, Array, u8}
use Rattle.region_pool.specs.Blocks.{with_part}
use Rattle.region_pool.specs.declared.memory.Bytes.{Bytes}
use Rattle.region_pool.specs.contracts.memory.Bytes.{the_row}

-- once the borrow r ends, the len bytes from number from on are what r shows last, and all else is as it was
abbrev pub LendsRun : MutBor Bytes → ℕ → ℕ → MutBor (List ℕ) → Fml
LendsRun m from len r = Lends the_row (Array u8 0) m r (λ ws. record m.now { items = with_part m.now.items from len ws })
