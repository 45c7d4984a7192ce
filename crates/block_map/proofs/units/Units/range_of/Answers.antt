use Rattle.std.proofs.Common.{◌-◌, ◌<◌, List, leb, ap, sym, subst, rules, arith}
use Rattle.std.proofs.lemmas.List.Sorted.{IsPartitionPoint-from_clause, IsPartitionedBy-leb}
use Rattle.std.specs.List.Sorted.{IsNonDecreasingBy, IsPartitionPoint}
use Rattle.std.specs.Prelude.{◌≤◌}
use Rattle.block_map.specs.declared.units.Part.{Part}
use Rattle.block_map.specs.Units.{Cut, IsRangeOf}
use Rattle.block_map.proofs.Index.{first_point, firsts_rise, one_range, range_seen}
use Rattle.block_map.proofs.units.Units.range_of.Goals as goal

found : (c : goal.After-partition_point-behind) → (0 < c.partition_point-behind.result) × IsRangeOf c.args.self.now.rows c.args.k (c.partition_point-behind.result - 1)
found c =
    let rise : IsNonDecreasingBy (λ (p : Part). p.first) c.deref.result.now =
    subst (λ (ps : List Part). IsNonDecreasingBy (λ (p : Part). p.first) ps) (sym c.deref.ensures.value)
    (firsts_rise c.self.inside.unit c.self.inside.size c.self.inside.count c.self.inside.parts.items c.self.invariant.index) in
    let point : IsPartitionPoint (λ (p : Part). p.first ≤ c.args.k) (λ (p : Part). c.args.k < p.first) c.deref.result.now c.partition_point-behind.result =
    first_point c.deref.result.now c.args.k c.partition_point-behind.result
    (IsPartitionPoint-from_clause (λ (p : Part). leb p.first c.args.k) c.deref.result.now c.partition_point-behind.result c.partition_point-behind.ensures.partitioned
    (IsPartitionedBy-leb (λ (p : Part). p.first) c.deref.result.now c.args.k rise)
    (λ a r f' k. search rules)) in
    range_seen c.self.inside.unit c.self.inside.size c.self.inside.count c.self.inside.parts.items c.args.self.now.rows c.args.k c.partition_point-behind.result c.self.invariant.index (ap (λ (v : Cut). v.rows) c.self.view_is) c.requires
    (subst (λ (ps : List Part). IsPartitionPoint (λ (p : Part). p.first ≤ c.args.k) (λ (p : Part). c.args.k < p.first) ps c.partition_point-behind.result) c.deref.ensures.value point)
    (omega (arith, c.partition_point-behind.ensures.bound))

pub overflow_sub-result : goal.overflow_sub-result
overflow_sub-result c = (found c).0

pub returns-clause-found : goal.returns-clause-found
returns-clause-found c = (found c).1

pub returns-clause-only : goal.returns-clause-only
returns-clause-only c r is = one_range c.args.self.now.rows c.args.k r _ is (found c).1
