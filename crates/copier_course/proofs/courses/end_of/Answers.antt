use Rattle.std.proofs.Common.{◌+◌, ◌≤◌, arith}
use Rattle.copier_course.proofs.CourseLemmas.{end_within}
use Rattle.copier_course.proofs.courses.end_of.Goals as goal

pub overflow_add-result : goal.overflow_add-result
overflow_add-result c =
    let most : c.first_of.result + c.count_of.result ≤ c.args.job.now.id.units = end_within c.args.job.now c.args.range _ _ c.requires.job c.requires.there c.first_of.ensures c.count_of.ensures.next in
    let limit = c.requires.job.limits.units in
    omega (arith, most, limit)

pub returns-clause-most : goal.returns-clause-most
returns-clause-most c = end_within c.args.job.now c.args.range _ _ c.requires.job c.requires.there c.first_of.ensures c.count_of.ensures.next
