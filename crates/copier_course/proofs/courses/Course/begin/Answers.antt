use Rattle.std.proofs.Common.{◌≡◌, ℕ, List, subst, arith}
use Rattle.journal_format.specs.Journals.{IsMarked}
use Rattle.copy_states.specs.Along.{IsPresent}
use Rattle.copier_course.proofs.CourseLemmas.{course_at_first, present_from}
use Rattle.copier_course.proofs.courses.Course.begin.Goals as goal

pub returns-clause-course : goal.returns-clause-course
returns-clause-course c =
    let n : ℕ = c.args.job.now.id.ranges in
    let r : ℕ = c.first_unmarked-range.result in
    let marks : c.as_slice.result.now ≡ c.args.ranges = c.as_slice.ensures in
    let first = c.first_unmarked-range.ensures in
    let present : IsPresent (IsMarked c.args.ranges) n r =
    subst (λ (l : List ℕ). IsPresent (IsMarked l) n r) marks (present_from c.as_slice.result.now n r first.high (λ k less. first.all k (omega arith) less) first.found) in
    course_at_first c.args.job.now _ c.requires.job c.requires.units c.requires.ranges c.requires.window present c.first_unit-unit.ensures c.new.ensures
