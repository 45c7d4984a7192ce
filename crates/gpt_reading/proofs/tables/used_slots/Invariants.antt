use Rattle.std.proofs.Common.{◌≡◌, map, ◌+◌}
use Rattle.gpt_reading.specs.Used.{slot_in, used_below}
use Rattle.gpt_reading.proofs.tables.used_slots.Given as goal

-- the slots before this one are taken
abbrev pub invariant-loop-k : goal.invariant-loop-k
invariant-loop-k l = record {
  entries : l.entries ≡ map (slot_in l.bytes) (used_below (slot_in l.bytes) l.k);
  slots : l.slots ≡ map (λ k. k + 1) (used_below (slot_in l.bytes) l.k);
}
