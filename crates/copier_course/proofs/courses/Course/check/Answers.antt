use Rattle.std.proofs.Common.{◌≡◌, ℕ, List, length, ap, subst, ◌∙◌}
use Rattle.std.proofs.lemmas.List.{length-set}
use Rattle.journal_format.specs.Journals.{IsMarked}
use Rattle.copy_states.specs.Along.{IsPresent}
use Rattle.copier_course.proofs.CourseLemmas.{course_at_first, none_pending, present_after}
use Rattle.copier_course.proofs.courses.Course.check.Goals as goal

pub returns-clause-course : goal.returns-clause-course
returns-clause-course c =
    let was = c.args.self.now in
    let n : ℕ = c.args.job.now.id.ranges in
    let r : ℕ = c.first_unmarked-self.result in
    let marks : c.as_slice.result.now ≡ c.set.new.self = c.as_slice.ensures in
    let first = c.first_unmarked-self.ensures in
    let present : IsPresent (IsMarked c.set.new.self) n r =
    subst (λ (l : List ℕ). IsPresent (IsMarked l) n r) marks
    (present_after was.ranges c.as_slice.result.now n was.range r c.requires.course.ranges c.requires.behind.there c.requires.course.position.present.before
    first.low first.high first.all first.found (marks ∙ c.set.ensures)) in
    course_at_first c.args.job.now _ c.requires.job c.requires.course.units
    (ap (λ (l : List ℕ). length l) c.set.ensures ∙ length-set was.ranges was.range 0x44 ∙ c.requires.course.ranges)
    c.requires.course.window present c.first_unit-self.ensures (none_pending c.args.job.now was c.requires.course c.requires.behind)
