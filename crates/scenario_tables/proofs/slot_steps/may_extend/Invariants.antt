use Rattle.std.proofs.Common.{◌+◌, ◌^◌, ◌<◌, drop}
use Rattle.extended_chain.specs.Extended.{greatest_end}
use Rattle.scenario_tables.proofs.slot_steps.may_extend.Given as goal

-- the ends of those that are left decide
abbrev pub invariant-loop-spec : goal.invariant-loop-spec
invariant-loop-spec l =
    greatest_end (drop l.spec-index l.specs) < l.head + 2 ^ 32 → greatest_end l.specs < l.head + 2 ^ 32
