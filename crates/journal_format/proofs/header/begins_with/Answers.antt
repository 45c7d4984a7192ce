use Rattle.std.proofs.Common.{arith}
use Rattle.journal_format.proofs.JournalLemmas.{begins}
use Rattle.journal_format.proofs.header.begins_with.Goals as goal

pub returns : goal.returns
returns c = begins _ c.args.head.now c.args.magic.now (omega arith) c.starts_with.ensures.value
