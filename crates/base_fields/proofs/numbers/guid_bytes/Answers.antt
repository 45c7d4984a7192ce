use Rattle.std.proofs.Common.{arith}
use Rattle.base_fields.proofs.Guid.{bytes_of, turned_bytes}
use Rattle.base_fields.proofs.numbers.guid_bytes.Goals as goal

pub returns-clause-order : goal.returns-clause-order
returns-clause-order c = turned_bytes c.args.id (omega arith)

pub returns-clause-inverse : goal.returns-clause-inverse
returns-clause-inverse c = bytes_of c.args.id (omega arith)
