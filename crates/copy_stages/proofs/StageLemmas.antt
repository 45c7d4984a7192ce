-- Each stage, of what its calls did to the devices.
use Rattle.std.proofs.Common.{ℕ, ◌<◌, ◌≤◌, List, [], ◌∷◌, All, Contains, inl, inr, ap, refl, subst, sym, ◌∙◌, arith}
use Rattle.std.proofs.lemmas.List.Elements.{All-contains}
use Rattle.bench.specs.declared.Dev.{Dev}
use Rattle.bench.specs.declared.Dev.TheVariants.{Target, Journal}
use Rattle.bench.specs.Disk.{Disk, IsSettled, Looked, Steps, Touches}
use Rattle.bench.proofs.DiskLemmas.{journal_keeps, journal_steps, looked_runs, runs_so, runs_then, target_keeps, torn_at_none, torn_at_so, torn_within}
use Rattle.block_map.specs.Units.{first_of, units_by_range}
use Rattle.journal_format.specs.Journals.{IsOpenedFor, range_mark, unit_mark}
use Rattle.journal_format.specs.declared.jobs.JobId.{JobId}
use Rattle.copy_states.specs.Jobs.{IsOwn}
use Rattle.copy_states.specs.Standing.{Since}
use Rattle.copy_laws.specs.Marks.{MarksTorn}
use Rattle.copy_laws.specs.Writes.{UnitTorn}
use Rattle.copy_laws.proofs.Events.{checking_keeps_standing, clearing_keeps_standing, recording_keeps_standing}
use Rattle.copy_laws.proofs.Opening.{marks_keep_own}
use Rattle.copy_laws.proofs.Writes.{one_unit_torn, writes_keep_since}
use Rattle.copy_journal.proofs.KeptOpened.{mark_behind, opened_kept, torn_behind}
use Rattle.copy_stages.specs.Stages.{CheckingKeepsSince, ClearingKeepsSince, Closes, ClosingKeepsSince, IsClosingPair, KeepsOwn, WritingKeepsSince}

-- ---- one call
pub writing_keeps_since : {at n : ℕ} {a b : Disk} → Touches Target at n a b → WritingKeepsSince at n a b
writing_keeps_since {at} {n} {a} {b} touches id m source before k job bytes may =
    target_keeps touches (λ t new j pair since torn.
    let mine : Contains (k ∷ []) k = (0, omega arith, refl) in
    let unit : UnitTorn id m k t new = record { span = bytes.span; is = bytes.is; torn = torn_within bytes.span.at bytes.span.len torn bytes.from bytes.to } in
    writes_keep_since id m source before (k ∷ []) t new j job (one_unit_torn id m (k ∷ []) k t new mine unit)
    (may t j pair).unrecorded (may t j pair).unchecked since)

pub checking_keeps_since : {id : JobId} {r : ℕ} {a b : Disk} → r < id.ranges → Touches Journal (range_mark id r) 1 a b → CheckingKeepsSince id r a b
checking_keeps_since {id} {r} {a} {b} below touches m source before job may =
    journal_keeps touches (λ t j new pair since torn. record {
      standing = checking_keeps_standing id m source r t j new job torn below (may t j pair).digest (may t j pair).recorded since.standing;
      rest = since.rest;
    })

pub clearing_keeps_since : {id : JobId} {first count : ℕ} {a b : Disk} → Touches Journal (unit_mark first) count a b → ClearingKeepsSince id first count a b
clearing_keeps_since {id} {first} {count} {a} {b} touches m source before r job units may =
    journal_keeps touches (λ t j new pair since torn. record {
      standing = clearing_keeps_standing id m source r t j new job
          (torn_within (unit_mark (first_of (units_by_range m id.unit) r)) _ torn (omega (arith, units.from)) (omega (arith, units.to)))
          units.there (may t j pair).recorded (may t j pair).unchecked since.standing;
      rest = since.rest;
    })

-- ---- a sync of the target, and marks
-- the sync failed
pub looked_closes : (ks : List ℕ) {a b : Disk} → Looked a b → Closes ks a b
looked_closes ks {a} {b} looked = record {
  target = ap (λ (f : Dev → List ℕ). f Target) looked.reads;
  journal = subst (λ (f : Dev → List ℕ). MarksTorn ks (a.reads Journal) (f Journal)) (sym looked.reads) (torn_at_none _ (a.reads Journal));
  pairs = looked_runs looked (λ t j pair. inl pair);
}

-- it didn't
pub settled_closes : (ks : List ℕ) {a b c : Disk} → Looked a b → IsSettled b Target → Steps Journal (MarksTorn ks) b c → Closes ks a c
settled_closes ks {a} {b} {c} looked settled steps = record {
  target = steps.changes.other_reads ∙ ap (λ (f : Dev → List ℕ). f Target) looked.reads;
  journal = subst (λ (f : Dev → List ℕ). MarksTorn ks (f Journal) (c.reads Journal)) looked.reads steps.reads;
  pairs = runs_then (looked_runs looked (λ t j pair. inl pair)) (journal_steps steps (λ t j new pair torn.
      inr (settled t pair.0 ∙ ap (λ (f : Dev → List ℕ). f Target) looked.reads, (j, (looked.images Journal j pair.1, torn)))));
}

-- the target stays settled through the marks
pub target_settled : {step : List ℕ → List ℕ → Type 0} {b c : Disk} → IsSettled b Target → Steps Journal step b c → IsSettled c Target
target_settled {step} {b} {c} settled steps image leaves = settled image (steps.changes.other_images image leaves) ∙ sym steps.changes.other_reads

pub closing_keeps_since : {id : JobId} {ks : List ℕ} {a c : Disk} → All (λ k. k < id.units) ks → a.leaves Target (a.reads Target) → Closes ks a c → ClosingKeepsSince id ks a c
closing_keeps_since {id} {ks} {a} {c} units reads closes m source before job copied unchecked each =
    runs_so closes.pairs by_pair
  where
    by_pair : (t j : List ℕ) → IsClosingPair ks a t j → Since id m source before t j
    by_pair t j (inl pair) = each t j pair
    by_pair t j (inr (is, (was, (leaves, torn)))) =
        let since : Since id m source before (a.reads Target) was = each (a.reads Target) was (reads, leaves) in
        let now : Since id m source before (a.reads Target) j = record {
          standing = recording_keeps_standing id m source ks (a.reads Target) was j job torn (λ k among. All-contains (λ x. x < id.units) ks k units among) (unchecked was leaves) copied since.standing;
          rest = since.rest;
        } in
        subst (λ (x : List ℕ). Since id m source before x j) (sym is) now

-- ---- whose journal it is
pub writing_keeps_own : {at n : ℕ} {a b : Disk} → Touches Target at n a b → (id : JobId) → KeepsOwn id a b
writing_keeps_own {at} {n} {a} {b} touches id = target_keeps touches (λ t new j pair own torn. own)

pub touching_keeps_own : {id : JobId} {at n : ℕ} {a b : Disk} → 80 ≤ at → Touches Journal at n a b → KeepsOwn id a b
touching_keeps_own {id} {at} {n} {a} {b} behind touches =
    journal_keeps touches (λ t j new pair own torn. marks_keep_own id j new torn.size (λ k low. torn.below k (omega (arith, low, behind))) own)

pub closing_keeps_own : {id : JobId} {ks : List ℕ} {a c : Disk} → a.leaves Target (a.reads Target) → Closes ks a c → KeepsOwn id a c
closing_keeps_own {id} {ks} {a} {c} reads closes each = runs_so closes.pairs by_pair
  where
    by_pair : (t j : List ℕ) → IsClosingPair ks a t j → IsOwn id j
    by_pair t j (inl pair) = each t j pair
    by_pair t j (inr (is, (was, (leaves, torn)))) =
        marks_keep_own id was j torn.size (λ k low. torn.same k (λ mark. absurd (omega (arith, low, mark_behind ks k mark)))) (each (a.reads Target) was (reads, leaves))

-- it stays opened
pub touching_keeps_opened : {id : JobId} {at n : ℕ} {a b : Disk} → 80 ≤ at → Touches Journal at n a b → IsOpenedFor id (a.reads Journal) → IsOpenedFor id (b.reads Journal)
touching_keeps_opened {id} {at} {n} {a} {b} behind touches opened =
    opened_kept id (a.reads Journal) (b.reads Journal) (torn_behind at n (a.reads Journal) (b.reads Journal) behind touches.reads) opened

pub closing_keeps_opened : {id : JobId} {ks : List ℕ} {a c : Disk} → Closes ks a c → IsOpenedFor id (a.reads Journal) → IsOpenedFor id (c.reads Journal)
closing_keeps_opened {id} {ks} {a} {c} closes opened =
    opened_kept id (a.reads Journal) (c.reads Journal) (torn_at_so closes.journal (λ k mark. mark_behind ks k mark)) opened
