use Rattle.std.proofs.Common.{ℕ, ◌+◌, ◌^◌, ◌<◌, length}
use Rattle.extended_chain.specs.Chain.{logical_of}
use Rattle.scenario_tables.proofs.table_steps.ascends.Given as goal

-- those before stand as they are to
abbrev pub invariant-loop-k : goal.invariant-loop-k
invariant-loop-k l = record {
  ahead : (k : ℕ) → k < l.k → (logical_of l.specs k).head < (logical_of l.specs k).first;
  rises : (k : ℕ) → k < l.k → k + 1 < length l.specs → (logical_of l.specs k).head < (logical_of l.specs (k + 1)).head;
  fits : (k : ℕ) → k < l.k →
      (logical_of l.specs k).first + (logical_of l.specs k).count < (logical_of l.specs k).head + 2 ^ 32;
}
