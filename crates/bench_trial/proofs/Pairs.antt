-- A unit and its mark, one after the other.
use Rattle.std.proofs.Common.{◌≡◌, ℕ, List, length, inl, inr, ap, ◌∙◌}
use Rattle.base_fields.specs.Fields.{written}
use Rattle.bench.specs.declared.Dev.{Dev}
use Rattle.bench.specs.declared.Dev.TheVariants.{Target, Journal}
use Rattle.bench.specs.Disk.{Disk, IsSettled, Looked, Runs, Touches}
use Rattle.bench.proofs.DiskLemmas.{journal_steps, looked_runs, runs_then, target_steps}
use Rattle.bench_trial.specs.Pairs.{Put}

-- the pairs of a unit that is written and settled, and of a mark that is written behind it
pub put_runs : {a b c d : Disk} (at : ℕ) (bytes : List ℕ) (place : ℕ) → Touches Target at (length bytes) a b
    → b.reads Target ≡ written (a.reads Target) at bytes → Looked b c → IsSettled c Target → Touches Journal place 1 c d
    → Runs a d (Put a at bytes place)
put_runs {a} {b} {c} {d} at bytes place unit wrote looked settled mark =
    let first : Runs a b (Put a at bytes place) =
    target_steps unit (λ t new j pair torn. inl ((t, (pair.0, torn)), pair.1)) in
    let same : c.reads Target ≡ written (a.reads Target) at bytes =
    ap (λ (f : Dev → List ℕ). f Target) looked.reads ∙ wrote in
    runs_then first (runs_then (looked_runs looked first.now)
    (journal_steps mark (λ t j new pair torn.
    inr (settled t pair.0 ∙ same, (j, (unit.changes.other_images j (looked.images Journal j pair.1), torn))))))
