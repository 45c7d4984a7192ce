-- What marks leave of a journal: it stays opened, or not held, with its window and all other marks.
use Rattle.std.proofs.Common.{◌≡◌, ℕ, ◌+◌, ◌<◌, ◌≤◌, List, length, drop, get_or, ap, sym, ◌∙◌, arith}
use Rattle.std.proofs.lemmas.List.{get_or-map, length-drop, length-map, length-take-le}
use Rattle.bench.specs.Disk.{Torn, TornAt}
use Rattle.bench.proofs.DiskLemmas.{torn_at}
use Rattle.journal_format.specs.Journals.{IsHeld, IsOpenedFor, unit_mark, window_of}
use Rattle.journal_format.specs.declared.jobs.JobId.{JobId}
use Rattle.journal_format.proofs.JournalLemmas.{SameBelow, same_head, same_held, same_opened, same_window}
use Rattle.copy_journal.specs.Events.{AreMarks, IsMarkOf}
use Rattle.copy_journal.specs.declared.marks.Marks.{Marks}

-- the place is behind the bytes in front of the marks
abbrev pub IsBehind : ℕ → Type 0
IsBehind place = 80 ≤ place

-- the marks of units, and a run of marks, are behind them
pub mark_behind : (ks : List ℕ) (place : ℕ) → IsMarkOf ks place → IsBehind place
mark_behind ks place (i, inside, is) =
    let long : i < length ks = omega (arith, length-map ks unit_mark) in
    let there : 80 + get_or ks i 0 ≡ place = sym (get_or-map unit_mark ks i 0 place long) ∙ is in
    omega (arith, there)

pub torn_behind : (at n : ℕ) (old new : List ℕ) → IsBehind at → Torn at n old new → TornAt IsBehind old new
torn_behind at n old new behind torn = torn_at IsBehind torn (λ k low high. omega arith)

below_behind : {old new : List ℕ} → TornAt IsBehind old new → SameBelow 80 old new
below_behind {old} {new} torn k h = torn.same k (λ behind. omega (arith, behind, h))

-- an opened journal stays so
pub opened_kept : (id : JobId) (old new : List ℕ) → TornAt IsBehind old new → IsOpenedFor id old → IsOpenedFor id new
opened_kept id old new torn opened = same_opened id old new torn.size (below_behind torn) opened

-- one that isn't held does too
pub not_held_kept : (old new : List ℕ) → TornAt IsBehind old new → ¬ IsHeld old → ¬ IsHeld new
not_held_kept old new torn not_held held =
    let size = torn.size in
    let long = held.long in
    not_held (same_held new old (omega arith) (λ k h. sym (below_behind torn k h)) held)

-- and its window stays
pub window_kept : (old new : List ℕ) → TornAt IsBehind old new → IsHeld old → window_of new ≡ window_of old
window_kept old new torn held =
    let size = torn.size in
    let long = held.long in
    same_window old new (same_head old new held.long (omega arith) (λ k h other. below_behind torn k h)) held.version

-- there are as many marks as the job has units and ranges
pub marks_long : (id : JobId) (j : List ℕ) (marks : Marks) → IsOpenedFor id j → AreMarks id j marks → (length marks.units ≡ id.units) × (length marks.ranges ≡ id.ranges)
marks_long id j marks opened are =
    let long = opened.long in (
      ap length are.units ∙ length-take-le id.units (drop 80 j) (omega (arith, length-drop 80 j)),
      ap length are.ranges ∙ length-take-le id.ranges (drop (80 + id.units) j) (omega (arith, length-drop (80 + id.units) j)),
    )
