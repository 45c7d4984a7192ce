use Rattle.std.proofs.Common.{◌+◌, ◌-◌, ◌^◌, min, ltb, rules, arith}
use Rattle.std.proofs.lemmas.List.Sorted.{IsPartitionPoint-from_clause, IsPartitionedBy-ltb}
use Rattle.base_fields.specs.declared.spans.Span.{Span}
use Rattle.span_cover.proofs.Searching.{ends_rise, point_from_ends}
use Rattle.span_cover.proofs.places.ending_before.Goals as goal

pub returns-clause-point : goal.returns-clause-point
returns-clause-point c =
    point_from_ends c.args.spans.now c.args.at c.partition_point.result c.requires
    (IsPartitionPoint-from_clause (λ (y : Span). ltb (min (y.at + y.len) (2 ^ 64 - 1)) c.args.at) c.args.spans.now c.partition_point.result c.partition_point.ensures.partitioned
    (IsPartitionedBy-ltb (λ (y : Span). min (y.at + y.len) (2 ^ 64 - 1)) c.args.spans.now c.args.at (ends_rise c.args.spans.now c.requires))
    (λ a r f' k. search rules))
    c.partition_point.ensures.bound (omega arith)
