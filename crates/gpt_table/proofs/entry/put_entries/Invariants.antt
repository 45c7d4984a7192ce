use Rattle.std.proofs.Common.{take, length}
use Rattle.gpt_table.proofs.Slots.{IsFilled}
use Rattle.gpt_table.proofs.entry.put_entries.Given as goal

abbrev pub invariant-loop-k : goal.invariant-loop-k
invariant-loop-k l = IsFilled (take l.k l.entries) (length l.fn.room) l.room
