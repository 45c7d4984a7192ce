-- Why the calls on a copy's journal refuse.
use Rattle.std.specs.Prelude.{◌≡◌, ◌↔◌, ℕ, List, length, Bool, IsTrue}
use Rattle.bench.specs.declared.Dev.{Dev}
use Rattle.bench.specs.declared.Dev.TheVariants.{Journal}
use Rattle.bench.specs.Meter.{Meter, of_device}
use Rattle.outside.specs.Counts.{Rose}
use Rattle.journal_format.specs.Journals.{HasAllMarks, IsHeld, IsOpenedFor, fields_in}
use Rattle.journal_format.specs.JobFields.{fields_of}
use Rattle.journal_format.specs.declared.jobs.JobId.{JobId}
use Rattle.copy_journal.specs.declared.faults.JournalFault.{JournalFault}
use Rattle.copy_journal.specs.declared.faults.JournalFault.TheVariants.{JournalHeld, NoJournal, JournalForeign, DeviceFault, NoMemory}

-- a call on the device has failed
abbrev pub HasFailed : Dev → Meter → Meter → Type 0
HasFailed dev old new = Rose (of_device dev old.faults) (of_device dev new.faults)

-- the journal is held for a job; it is finished where that is the given one and all its marks are recorded
pub record IsHeldBy (id : JobId) (j : List ℕ) (whose : JobId) (done : Bool) : Type 0 where
  pub held : IsHeld j
  pub kept : fields_of whose ≡ fields_in j
  pub finished : IsTrue done ↔ (IsOpenedFor id j × HasAllMarks id j)

-- the journal is held and not opened for the given job: its fields tell another, or it is too short
pub record IsForeign (id : JobId) (j : List ℕ) (whose wanted : JobId) (len : ℕ) : Type 0 where
  pub held : IsHeld j
  pub other : ¬ IsOpenedFor id j
  pub kept : fields_of whose ≡ fields_in j
  pub given : wanted ≡ id
  pub long : len ≡ length j

-- why a journal isn't opened anew; of its bytes something is said where they are told
abbrev pub IsNewFault : Type 0 → JobId → List ℕ → Meter → Meter → JournalFault → Type 0
IsNewFault told id j old new (JournalHeld kept finished) = told → IsHeldBy id j kept finished
IsNewFault told id j old new NoJournal = ⊥
IsNewFault told id j old new (JournalForeign kept given len) = ⊥
IsNewFault told id j old new (DeviceFault dev) = (dev ≡ Journal) × HasFailed dev old new
IsNewFault told id j old new NoMemory = ⊥

-- why a journal isn't opened again
abbrev pub IsOldFault : Type 0 → JobId → List ℕ → Meter → Meter → JournalFault → Type 0
IsOldFault told id j old new (JournalHeld kept finished) = ⊥
IsOldFault told id j old new NoJournal = told → ¬ IsHeld j
IsOldFault told id j old new (JournalForeign kept given len) = told → IsForeign id j kept given len
IsOldFault told id j old new (DeviceFault dev) = (dev ≡ Journal) × HasFailed dev old new
IsOldFault told id j old new NoMemory = Unit {0}

-- why the other calls refuse
abbrev pub IsDeviceFault : Meter → Meter → JournalFault → Type 0
IsDeviceFault old new fault = (fault ≡ DeviceFault Journal) × HasFailed Journal old new

-- why marks are not read
abbrev pub IsReadFault : Meter → Meter → JournalFault → Type 0
IsReadFault old new (JournalHeld kept finished) = ⊥
IsReadFault old new NoJournal = ⊥
IsReadFault old new (JournalForeign kept given len) = ⊥
IsReadFault old new (DeviceFault dev) = (dev ≡ Journal) × HasFailed dev old new
IsReadFault old new NoMemory = Unit {0}
