-- Why a copy isn't opened.
use Rattle.std.specs.Prelude.{◌≡◌, ℕ, ◌<◌, ◌≤◌, List, length}
use Rattle.bench.specs.declared.Dev.TheVariants.{Target, Journal}
use Rattle.bench.specs.Meter.{Meter}
use Rattle.journal_format.specs.Journals.{IsHeld}
use Rattle.journal_format.specs.declared.jobs.JobId.{JobId}
use Rattle.copy_journal.specs.Faults.{HasFailed, IsForeign, IsHeldBy}
use Rattle.copy_journal.specs.declared.faults.JournalFault.{JournalFault}
use Rattle.copy_journal.specs.declared.faults.JournalFault.TheVariants as journal
use Rattle.copy_opening.specs.declared.faults.OpenFault.{OpenFault}
use Rattle.copy_opening.specs.declared.faults.OpenFault.TheVariants.{TargetTooSmall, JournalHeld, NoJournal, JournalForeign, DeviceFault, NoMemory}
use Rattle.copy_opening.specs.declared.opening.Mode.{Mode}
use Rattle.copy_opening.specs.declared.opening.Mode.TheVariants.{Fresh, Again}

-- the journal's refusal, as the copy's
abbrev pub handed : JournalFault → OpenFault
handed (journal.JournalHeld kept finished) = JournalHeld kept finished
handed journal.NoJournal = NoJournal
handed (journal.JournalForeign kept given len) = JournalForeign kept given len
handed (journal.DeviceFault dev) = DeviceFault dev
handed journal.NoMemory = NoMemory

-- why the journal of a copy isn't opened; of its bytes something is said where they are told
abbrev pub IsJournalFault : Type 0 → Mode → JobId → List ℕ → Meter → Meter → JournalFault → Type 0
IsJournalFault told mode id j old new (journal.JournalHeld kept finished) =
    (mode ≡ Fresh) × (told → IsHeldBy id j kept finished)
IsJournalFault told mode id j old new journal.NoJournal = (mode ≡ Again) × (told → ¬ IsHeld j)
IsJournalFault told mode id j old new (journal.JournalForeign kept given len) =
    (mode ≡ Again) × (told → IsForeign id j kept given len)
IsJournalFault told mode id j old new (journal.DeviceFault dev) = (dev ≡ Journal) × HasFailed dev old new
IsJournalFault told mode id j old new journal.NoMemory = Unit {0}

-- why a target isn't settled for an image of so many bytes
abbrev pub IsTargetFault : Type 0 → ℕ → List ℕ → Meter → Meter → OpenFault → Type 0
IsTargetFault told size t old new (TargetTooSmall has needs) = (needs ≡ size) × (has < size) × (told → has ≡ length t)
IsTargetFault told size t old new (JournalHeld kept finished) = ⊥
IsTargetFault told size t old new NoJournal = ⊥
IsTargetFault told size t old new (JournalForeign kept given len) = ⊥
IsTargetFault told size t old new (DeviceFault dev) = (dev ≡ Target) × HasFailed dev old new
IsTargetFault told size t old new NoMemory = ⊥

-- Why a copy isn't opened: t and j are what target and journal read. Where the journal refuses, the target isn't too
-- small.
abbrev pub IsOpenFault : Type 0 → Mode → JobId → ℕ → List ℕ → List ℕ → Meter → Meter → OpenFault → Type 0
IsOpenFault told mode id size t j old new (TargetTooSmall has needs) =
    (needs ≡ size) × (has < size) × (told → has ≡ length t)
IsOpenFault told mode id size t j old new (JournalHeld kept finished) =
    (mode ≡ Fresh) × (told → IsHeldBy id j kept finished × (size ≤ length t))
IsOpenFault told mode id size t j old new NoJournal = (mode ≡ Again) × (told → (¬ IsHeld j) × (size ≤ length t))
IsOpenFault told mode id size t j old new (JournalForeign kept given len) =
    (mode ≡ Again) × (told → IsForeign id j kept given len × (size ≤ length t))
IsOpenFault told mode id size t j old new (DeviceFault dev) =
    HasFailed dev old new × (dev ≡ Journal → told → size ≤ length t)
IsOpenFault told mode id size t j old new NoMemory = told → size ≤ length t

-- a refusal before which nothing was written: any but that of a device
abbrev pub IsUnwritten : OpenFault → Type 0
IsUnwritten (TargetTooSmall has needs) = Unit {0}
IsUnwritten (JournalHeld kept finished) = Unit {0}
IsUnwritten NoJournal = Unit {0}
IsUnwritten (JournalForeign kept given len) = Unit {0}
IsUnwritten (DeviceFault dev) = ⊥
IsUnwritten NoMemory = Unit {0}

-- the same of the journal's
abbrev pub IsUntouched : JournalFault → Type 0
IsUntouched fault = IsUnwritten (handed fault)
