-- What a whole run of a copier does to its two devices, from opening to its answer: old is what they were, new what they
-- are. The source's bytes are None where they aren't told.
use Rattle.std.specs.Prelude.{◌≡◌, ◌≤◌, ℕ, List, length, Option, None, Some, IfSome, Result, Ok, Err}
use Rattle.bench.specs.declared.Dev.TheVariants.{Target, Journal}
use Rattle.bench.specs.Disk.{Disk, EachPair, IsSettled, Keeps, Runs}
use Rattle.journal_format.specs.Journals.{IsHeld, IsOpenedFor, window_of}
use Rattle.copy_journal.specs.Faults.{IsForeign, IsHeldBy}
use Rattle.copy_opening.specs.Openings.{start_of}
use Rattle.copy_opening.specs.declared.opening.Mode.TheVariants.{Fresh, Again}
use Rattle.copy_states.specs.Narrow as narrow
use Rattle.copy_states.specs.Narrow.{Narrow}
use Rattle.copy_states.specs.Outcomes.{EndsDiffering, EndsDone, EndsShort}
use Rattle.copy_states.specs.Standing.{Since}
use Rattle.copy_states.specs.Starts.{Pair}
use Rattle.copier.specs.Runs.{IsDone, IsTold}
use Rattle.copier.specs.declared.faults.CopyFault.{CopyFault}
use Rattle.copier.specs.declared.faults.CopyFault.TheVariants.{TargetTooSmall, JournalHeld, NoJournal, JournalForeign, SourceShort, Missing, FileFault, DeviceFault, RangeDiffers, NoMemory}
use Rattle.copier_course.specs.declared.jobs.CopyJob.{CopyJob}
use Rattle.copy_tally.specs.Tallies.{IsTallyOf}
use Rattle.copy_run.specs.declared.running.Tally.{Tally}

-- ---- however it ends
-- where each pair at the start has Since, so has each pair since, and at the end: for the file's bytes, or for none told
abbrev pub RunKeepsSince : Type 0 → Option (List ℕ) → CopyJob → Disk → Disk → Type 0
RunKeepsSince told file job old new = (source : Option (List ℕ)) (before : List ℕ) → IsTold told file source →
    Keeps (Since job.id job.map source before) old new

-- the window of a run on a journal: that of the job where it is opened anew, else that of the journal, or 1 where it
-- isn't held
pub record IsWindowFor (job : CopyJob) (j : List ℕ) (w : ℕ) : Type 0 where
  pub fresh : job.mode ≡ Fresh → w ≡ job.window
  pub held : job.mode ≡ Again → IsHeld j → w ≡ window_of j
  pub closed : job.mode ≡ Again → ¬ IsHeld j → w ≡ 1

-- where the target is settled at the start, each pair since is narrow for that start, with that window
abbrev pub RunIsNarrow : Type 0 → Option (List ℕ) → CopyJob → Disk → Disk → Type 0
RunIsNarrow told file job old new = (s : List ℕ) (w : ℕ) → IsTold told file (Some s) →
    IsWindowFor job (old.reads Journal) w → IsSettled old Target →
    Runs old new (Narrow job.id job.map s (start_of old) w)

-- where the journal is settled, too, each pair since keeps what is recorded and checked there
abbrev pub RunKeepsMarks : Type 0 → Option (List ℕ) → CopyJob → Disk → Disk → Type 0
RunKeepsMarks told file job old new = (s : List ℕ) → IsTold told file (Some s) → IsSettled old Target →
    IsSettled old Journal → Runs old new (narrow.Keeps job.id job.map s (start_of old))

-- ---- by its answer
-- the copy was opened: the target has room for the image, and the journal wasn't held, or was opened for the job
pub record WasOpened (job : CopyJob) (t j : List ℕ) : Type 0 where
  pub room : job.map.size ≤ length t
  pub fresh : job.mode ≡ Fresh → ¬ IsHeld j
  pub again : job.mode ≡ Again → IsOpenedFor job.id j

-- of what target and journal read at the start: each answer but a device's fault and want of memory tells whether the
-- copy could be opened, and why it couldn't
abbrev pub OpensFor : CopyJob → List ℕ → List ℕ → Result Tally CopyFault → Type 0
OpensFor job t j (Ok tally) = WasOpened job t j
OpensFor job t j (Err (TargetTooSmall has needs)) = (has ≡ length t) × (needs ≡ job.map.size) × (¬ (job.map.size ≤ length t))
OpensFor job t j (Err (JournalHeld kept finished)) =
    (job.map.size ≤ length t) × (job.mode ≡ Fresh) × IsHeldBy job.id j kept finished
OpensFor job t j (Err NoJournal) = (job.map.size ≤ length t) × (job.mode ≡ Again) × (¬ IsHeld j)
OpensFor job t j (Err (JournalForeign kept given len)) =
    (job.map.size ≤ length t) × (job.mode ≡ Again) × IsForeign job.id j kept given len
OpensFor job t j (Err (SourceShort at)) = WasOpened job t j
OpensFor job t j (Err Missing) = WasOpened job t j
OpensFor job t j (Err FileFault) = WasOpened job t j
OpensFor job t j (Err (DeviceFault dev)) = Unit {0}
OpensFor job t j (Err (RangeDiffers range want got)) = WasOpened job t j
OpensFor job t j (Err NoMemory) = Unit {0}

-- done: every range is checked in the journal's only image, and the target is settled
abbrev pub RunIsDone : CopyJob → Disk → Result Tally CopyFault → Type 0
RunIsDone job new (Ok tally) = IsDone job new
RunIsDone job new (Err fault) = Unit {0}

-- the numbers of a run that is done: all units, those that were idle at the start, and those that were recorded in
-- ranges that weren't checked
pub record HasTally (job : CopyJob) (start : Pair) (tally : Tally) : Type 0 where
  pub units : tally.units ≡ job.id.units
  pub run : IsTallyOf job.id job.map start tally.written tally.kept

abbrev pub RunIsTallied : CopyJob → Disk → Result Tally CopyFault → Type 0
RunIsTallied job old (Ok tally) = HasTally job (start_of old) tally
RunIsTallied job old (Err fault) = Unit {0}

-- over told files: the source is missed only where it isn't there, and is said to be short only where it is
abbrev pub TellsFile : Option (List ℕ) → Result Tally CopyFault → Type 0
TellsFile file (Ok tally) = Unit {0}
TellsFile file (Err (TargetTooSmall has needs)) = Unit {0}
TellsFile file (Err (JournalHeld kept finished)) = Unit {0}
TellsFile file (Err NoJournal) = Unit {0}
TellsFile file (Err (JournalForeign kept given len)) = Unit {0}
TellsFile file (Err (SourceShort at)) = IfSome file (λ s. length s ≤ at)
TellsFile file (Err Missing) = file ≡ None
TellsFile file (Err FileFault) = Unit {0}
TellsFile file (Err (DeviceFault dev)) = Unit {0}
TellsFile file (Err (RangeDiffers range want got)) = Unit {0}
TellsFile file (Err NoMemory) = Unit {0}

-- ---- its outcome
-- the one outcome of this start and source, where no call failed and the copy was opened
abbrev pub IsOutcome : CopyJob → List ℕ → Pair → Result Tally CopyFault → Type 0
IsOutcome job s start (Ok tally) = EndsDone job.id job.map s start
IsOutcome job s start (Err (TargetTooSmall has needs)) = Unit {0}
IsOutcome job s start (Err (JournalHeld kept finished)) = Unit {0}
IsOutcome job s start (Err NoJournal) = Unit {0}
IsOutcome job s start (Err (JournalForeign kept given len)) = Unit {0}
IsOutcome job s start (Err (SourceShort at)) = EndsShort job.id job.map s start at
IsOutcome job s start (Err Missing) = ⊥
IsOutcome job s start (Err FileFault) = Unit {0}
IsOutcome job s start (Err (DeviceFault dev)) = Unit {0}
IsOutcome job s start (Err (RangeDiffers range want got)) = EndsDiffering job.id job.map s start range want got
IsOutcome job s start (Err NoMemory) = Unit {0}

-- so a run ends that began where each pair had Since
abbrev pub RunHasOutcome : Type 0 → Option (List ℕ) → CopyJob → Disk → Result Tally CopyFault → Type 0
RunHasOutcome told file job old answer = (s before : List ℕ) → IsTold told file (Some s) →
    EachPair old (Since job.id job.map (Some s) before) → IsOutcome job s (start_of old) answer
