-- What a journal that is opened anew leaves, moment by moment.
use Rattle.std.proofs.Common.{◌≡◌, ◌⊎◌, ℕ, ◌≤◌, List, inl, inr, ⊎_elim, subst, sym, arith}
use Rattle.bench.specs.declared.Dev.TheVariants.{Journal}
use Rattle.bench.specs.Disk.{Disk, FromThenOn, IsPair, IsSettled, Looked, Moves, Runs}
use Rattle.bench.proofs.DiskLemmas.{journal_runs}
use Rattle.journal_format.specs.Journals.{IsHeld}
use Rattle.journal_format.specs.declared.jobs.JobId.{JobId}
use Rattle.copy_journal.specs.Events.{IsClosedOrNew}

-- From a look on, pairs that have P: up to the look those of the start, by the law of a bench that a moment has no pair
-- but those that a stop then may leave.
pub looked_then_runs : {a b c : Disk} {P : List ℕ → List ℕ → Type 0} → ((t j : List ℕ) → a.left a.moment t j → IsPair a t j)
    → ((t j : List ℕ) → b.left b.moment t j → IsPair b t j) → ((t j : List ℕ) → IsPair b t j → P t j)
    → Looked a b → Runs b c P → FromThenOn P a c
looked_then_runs {a} {b} {c} {P} only_first only each looked run = record {
  moment = b.moment;
  later = looked.time.later;
  passed = run.time.later;
  before = λ t j left.
      ⊎_elim (λ was. ⊎_elim (λ first. inl (only_first t j first)) (λ pair. inl pair.0)
      (looked.time.since a.moment t j (omega arith) was)) (λ now. inr (now.1 b.moment (omega arith)))
      (run.time.since a.moment t j looked.time.later left);
  after = λ t j left. ⊎_elim (λ was. each t j (only t j was)) (λ now. now.0) (run.time.since b.moment t j (omega arith) left);
}

-- so it is where the journal was found settled and not held
pub opened_in_time : {id : JobId} {a b c : Disk} → ((t j : List ℕ) → a.left a.moment t j → IsPair a t j)
    → ((t j : List ℕ) → b.left b.moment t j → IsPair b t j) → Looked a b → IsSettled b Journal → ¬ IsHeld (b.reads Journal)
    → Moves (IsClosedOrNew id) b c → FromThenOn (λ t j. IsClosedOrNew id j) a c
opened_in_time {id} {a} {b} {c} only_first only looked settled closed moves =
    looked_then_runs only_first only
    (λ t j pair. inl (λ held. closed (subst (λ (x : List ℕ). IsHeld x) (settled j pair.1) held)))
    looked (journal_runs moves (λ t j leaves is. is))
