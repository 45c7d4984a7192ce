use Rattle.std.proofs.Common.{ℕ, ◌<◌, ◌≤◌}
use Rattle.journal_format.specs.Journals.{IsMarked}
use Rattle.copier_course.proofs.courses.first_unmarked.Given as goal

-- each mark that was looked at is recorded
abbrev pub invariant-loop-k : goal.invariant-loop-k
invariant-loop-k l = (k : ℕ) → l.from ≤ k → k < l.k → IsMarked l.marks k
