-- What a block ends as, where some of its bytes are lent to be written.
use Rattle.std.specs.Prelude.{ℕ, List}
use Rattle.std.specs.Borrow.{Lends, Fml, MutBor, Array, u8}
use Rattle.region_pool.specs.Blocks.{with_part}
use Rattle.region_pool.specs.contracts.block.Block.{the_row}

-- once the borrow r ends, the len bytes from number at on are what r shows last, and all others are as they were
abbrev pub LendsPart : MutBor (List ℕ) → ℕ → ℕ → MutBor (List ℕ) → Fml
LendsPart b at len r = Lends the_row (Array u8 0) b r (with_part b.now at len)
