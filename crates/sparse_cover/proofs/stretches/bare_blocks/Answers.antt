use Rattle.std.proofs.Common.{rules}
use Rattle.sparse_cover.proofs.stretches.bare_blocks.Goals as goal

pub returns-clause-bare : goal.returns-clause-bare
returns-clause-bare c = c.any_met.ensures.no (search rules)
