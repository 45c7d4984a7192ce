use Rattle.std.proofs.Common.{arith, sym}
use Rattle.std.proofs.lemmas.List.{take_all}
use Rattle.line_parts.proofs.line.first_bytes.Goals as goal

pub returns-then-bytes-lt-NAME_ROOM-clause-shown :
    goal.returns-then-bytes-lt-NAME_ROOM-clause-shown
returns-then-bytes-lt-NAME_ROOM-clause-shown c = sym (take_all 200 c.args.bytes.now (omega arith))
