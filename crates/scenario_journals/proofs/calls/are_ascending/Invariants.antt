use Rattle.std.proofs.Common.{length, ◌-◌, ◌+◌, ◌<◌, ◌≤◌, ℕ, slice_index}
use Rattle.scenario_journals.proofs.calls.are_ascending.Given as goal

-- each number in front of this place is below the next
abbrev pub invariant-loop-at : goal.invariant-loop-at
invariant-loop-at l = record {
  least : 1 ≤ l.at;
  rises : (k : ℕ) → k + 1 < l.at → slice_index l.ks k < slice_index l.ks (k + 1);
}

-- proposed from the loop's first test
abbrev pub decreases-loop-at : goal.decreases-loop-at
decreases-loop-at l = length l.ks - l.at
