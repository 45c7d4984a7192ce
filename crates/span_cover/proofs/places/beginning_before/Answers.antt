use Rattle.std.proofs.Common.{ltb, rules}
use Rattle.std.proofs.lemmas.List.Sorted.{IsPartitionPoint-from_clause, IsPartitionedBy-ltb}
use Rattle.base_fields.specs.declared.spans.Span.{Span}
use Rattle.span_cover.proofs.Searching.{begins_rise, point_from_begins}
use Rattle.span_cover.proofs.places.beginning_before.Goals as goal

pub returns-clause-point : goal.returns-clause-point
returns-clause-point c =
    point_from_begins c.args.spans.now c.args.at c.partition_point.result
    (IsPartitionPoint-from_clause (λ (y : Span). ltb y.at c.args.at) c.args.spans.now c.partition_point.result c.partition_point.ensures.partitioned
    (IsPartitionedBy-ltb (λ (y : Span). y.at) c.args.spans.now c.args.at (begins_rise c.args.spans.now c.requires))
    (λ a r f' k. search rules))
