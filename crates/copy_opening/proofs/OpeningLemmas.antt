-- The opening of a copy, of what its calls did to the devices, and what that keeps.
use Rattle.std.proofs.Common.{◌≡◌, ℕ, ◌+◌, ◌<◌, ◌≤◌, List, length, take, drop, replicate, slice_index, inl, inr, ⊎_elim, ap, subst, sym, [], ◌∙◌, arith}
use Rattle.std.proofs.lemmas.List.{ext_get_or, get_or-drop, get_or-replicate, get_or-take, length-drop, length-replicate, length-take-le}
use Rattle.bench.specs.declared.Dev.{Dev}
use Rattle.bench.specs.declared.Dev.TheVariants.{Target, Journal}
use Rattle.bench.specs.Disk.{Disk, Looked, Moves}
use Rattle.bench.proofs.DiskLemmas.{journal_runs, looked_runs, looked_then, runs_so, runs_then}
use Rattle.block_map.specs.Maps.{part_of}
use Rattle.block_map.specs.declared.maps.BlockMap.{BlockMap}
use Rattle.journal_format.specs.Journals.{IsHeld}
use Rattle.journal_format.specs.declared.jobs.JobId.{JobId}
use Rattle.copy_states.specs.Jobs.{IsChecked, IsOwn, IsRecorded}
use Rattle.copy_states.specs.Narrow as narrow
use Rattle.copy_states.specs.Narrow.{IsInStep, Narrow, ReadsAsAtStart}
use Rattle.copy_states.specs.Standing.{Since}
use Rattle.copy_states.specs.Starts.{Pair}
use Rattle.copy_laws.specs.Opening.{SameMarks}
use Rattle.copy_laws.proofs.Opening.{new_has_same_marks}
use Rattle.copy_laws.proofs.Events.{new_stands, unheld_stands}
use Rattle.copy_journal.specs.Events.{AreMarks, IsNew, IsOpening}
use Rattle.copy_journal.specs.declared.marks.Marks.{Marks}
use Rattle.copy_opening.proofs.HeldOrNot.{held_or_not}
use Rattle.copy_opening.specs.Openings.{AreZeros, IsOpeningPair, KeepsOwn, OpeningIsNarrow, OpeningKeepsMarks, OpeningKeepsSince, Opens, start_of}

-- ---- the devices
pub looked_opens : (id : JobId) {a b : Disk} → Looked a b → Opens id a b
looked_opens id {a} {b} looked = record {
  target = ap (λ (f : Dev → List ℕ). f Target) looked.reads;
  pairs = looked_runs looked (λ t j pair. (pair.0, inl pair.1));
}

-- a look, and the journal is opened
pub opens_then : (id : JobId) {a b c : Disk} → Looked a b → Moves (IsOpening id b) b c → Opens id a c
opens_then id {a} {b} {c} looked moves = record {
  target = moves.other_reads ∙ ap (λ (f : Dev → List ℕ). f Target) looked.reads;
  pairs = runs_then (looked_runs looked (λ t j pair. (pair.0, inl pair.1))) (journal_runs moves (λ t j leaves is.
      (looked.images Target t leaves, ⊎_elim (λ was. inl (looked.images Journal j was)) (λ new. inr new) is)));
}

-- ---- the marks
zero_run : (at n : ℕ) (j : List ℕ) → at + n ≤ length j → ((k : ℕ) → k < n → slice_index j (at + k) ≡ 0) →
    replicate n 0 ≡ take n (drop at j)
zero_run at n j inside zero =
    let long : length {A = ℕ} (replicate n 0) ≡ n = length-replicate n 0 in
    let size : length (take n (drop at j)) ≡ n = length-take-le n (drop at j) (omega (arith, length-drop at j)) in
    ext_get_or 0 (replicate n 0) (take n (drop at j)) (long ∙ sym size) (λ i h.
    let below : i < n = omega (arith, h, long) in
    get_or-replicate n i 0 0 below ∙ sym (get_or-take n (drop at j) i 0 below ∙ (get_or-drop at j i 0 ∙ zero i below)))

pub zeros_are_marks : (id : JobId) (w : ℕ) (j : List ℕ) (marks : Marks) → IsNew id w j → AreZeros id w marks →
    AreMarks id j marks
zeros_are_marks id w j marks new zeros =
    let long = new.opened.long in
    record {
      units = zeros.units ∙ zero_run 80 id.units j (omega (arith, long)) (λ k h. new.marks k (omega (arith, h)));
      ranges = zeros.ranges ∙ zero_run (80 + id.units) id.ranges j (omega (arith, long)) (λ k h.
          let place : 80 + (id.units + k) ≡ 80 + id.units + k = omega arith in
          ap (slice_index j) (sym place) ∙ new.marks (id.units + k) (omega (arith, h)));
      window = zeros.window ∙ sym new.window;
    }

-- a journal that wasn't held, and one that was opened anew
pub new_same_marks : (id : JobId) (w : ℕ) (old new : List ℕ) → ¬ IsHeld old → IsNew id w new → SameMarks id old new
new_same_marks id w old new was now =
    new_has_same_marks id old new was (λ i h mark. let zero = now.marks i h in omega (arith, zero, mark))

-- ---- what is kept of each pair
-- where the target is as at the start a pair is narrow
as_at_start : (id : JobId) (m : BlockMap) (s : List ℕ) (start : Pair) (w : ℕ) (t j : List ℕ) → t ≡ start.target →
    Narrow id m s start w t j
as_at_start id m s start w t j same =
    let reads : (k : ℕ) → ReadsAsAtStart id m start t k = λ k u is. ap (part_of u) same in
    let step : IsInStep id m start w t j = record {
      from = 0;
      to = 0;
      window = [];
      few = omega arith;
      between = λ k idle low high. absurd (omega (arith, high));
      before = λ k idle low. absurd (omega (arith, low));
      behind = λ k idle past. reads k;
    } in
    record { others = λ k below busy. reads k; place = inl step }

pub opening_is_narrow : (id : JobId) {a b : Disk} → Opens id a b → OpeningIsNarrow id a b
opening_is_narrow id {a} {b} opens m s w settled =
    runs_so opens.pairs (λ t j pair. as_at_start id m s (start_of a) w t j (settled t pair.0))

-- where the journal is as at the start, or wasn't held there, a pair keeps what was recorded
as_recorded : (id : JobId) (m : BlockMap) (s : List ℕ) (start : Pair) (t j : List ℕ) → j ≡ start.journal →
    narrow.Keeps id m s start t j
as_recorded id m s start t j same = record {
  units = λ k below was. inl (subst (λ (x : List ℕ). IsRecorded id k x) (sym same) was);
  ranges = λ r below was. subst (λ (x : List ℕ). IsChecked id r x) (sym same) was;
}

none_recorded : (id : JobId) (m : BlockMap) (s : List ℕ) (start : Pair) (t j : List ℕ) → ¬ IsHeld start.journal →
    narrow.Keeps id m s start t j
none_recorded id m s start t j unheld = record {
  units = λ k below was. absurd (unheld was.opened.held);
  ranges = λ r below was. absurd (unheld was.opened.held);
}

-- a journal that is held is left as it is, behind a look
pub kept_then : {a b c : Disk} → Looked a b → (IsHeld (b.reads Journal) → Looked b c) → IsHeld (a.reads Journal) →
    Looked a c
kept_then {a} {b} {c} looked kept held =
    looked_then looked (kept (subst (λ (f : Dev → List ℕ). IsHeld (f Journal)) (sym looked.reads) held))

pub opening_keeps_marks : (id : JobId) {a b : Disk} → (IsHeld (a.reads Journal) → Looked a b) → Opens id a b →
    OpeningKeepsMarks id a b
opening_keeps_marks id {a} {b} kept opens m s settled = elim (held_or_not (a.reads Journal)) [
  | inl held ↦ looked_runs (kept held) (λ t j pair. as_recorded id m s (start_of a) t j (settled j pair.1))
  | inr unheld ↦ runs_so opens.pairs (λ t j pair. none_recorded id m s (start_of a) t j unheld)
]

pub opening_keeps_own : (id : JobId) {a b : Disk} → Opens id a b → KeepsOwn id a b
opening_keeps_own id {a} {b} opens each =
    runs_so opens.pairs by_pair
  where
    by_pair : (t j : List ℕ) → IsOpeningPair id a t j → IsOwn id j
    by_pair t j (leaves, inl was) = each j was
    by_pair t j (leaves, inr (inl none)) = inl none
    by_pair t j (leaves, inr (inr (opened, no_mark))) = inr opened

pub opening_keeps_since : (id : JobId) {a b : Disk} → a.leaves Journal (a.reads Journal) → Opens id a b →
    OpeningKeepsSince id a b
opening_keeps_since id {a} {b} reads opens m source before job each =
    runs_so opens.pairs by_pair
  where
    by_pair : (t j : List ℕ) → IsOpeningPair id a t j → Since id m source before t j
    by_pair t j (leaves, inl was) = each t j (leaves, was)
    by_pair t j (leaves, inr (inl none)) = record {
      standing = unheld_stands id m source t j none;
      rest = (each t (a.reads Journal) (leaves, reads)).rest;
    }
    by_pair t j (leaves, inr (inr (opened, no_mark))) = record {
      standing = new_stands id m source t j job no_mark;
      rest = (each t (a.reads Journal) (leaves, reads)).rest;
    }
