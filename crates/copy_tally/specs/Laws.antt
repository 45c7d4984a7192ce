-- What each step of a copier adds to the numbers of its run, over plain values: c is where it stood, d where it stands.
use Rattle.std.specs.Prelude.{◌≡◌, ◌⊎◌, ℕ, ◌+◌, List, Option}
use Rattle.base_fields.specs.Numbers.{IsPowerBetween}
use Rattle.block_map.specs.Maps.{IsMap}
use Rattle.block_map.specs.declared.maps.BlockMap.{BlockMap}
use Rattle.journal_format.specs.Journals.{IsHeld, IsOpenedFor}
use Rattle.copy_states.specs.Along.{Along}
use Rattle.copy_states.specs.Starts.{Pair}
use Rattle.copier.specs.Steps.{Passes, needed}
use Rattle.copier.specs.declared.steps.Step.{Step}
use Rattle.copier.specs.declared.steps.Step.TheVariants as did
use Rattle.copier_course.specs.Courses.{IsAtFirst, IsCopyJob, IsCourse, need_of, position_of}
use Rattle.copier_course.specs.declared.courses.Course.{Course}
use Rattle.copier_course.specs.declared.jobs.CopyJob.{CopyJob}
use Rattle.copier_moves.specs.Fitting.{KeepsMarks}
use Rattle.verifier.specs.Checks.{mapped_bytes}
use Rattle.copy_tally.specs.Tallies.{IsTallied, IsTallyOf, unit_bytes}

-- the copier stands at c on a journal j that is opened for its job and has the marks that it keeps, and has come along
-- from this start
pub record Stands (job : CopyJob) (source : Option (List ℕ)) (start : Pair) (c : Course) (t j : List ℕ) : Type 0 where
  pub sound : IsCopyJob job
  pub course : IsCourse job c
  pub opened : IsOpenedFor job.id j
  pub marks : KeepsMarks job.id j c
  pub along : Along job.id job.map source start c.window (position_of c) t j

-- a copier that was just opened, at a range's first unit, whatever the source is, on a journal that reads as at the start
-- or wasn't held then, has neither written nor kept a unit
abbrev pub OpenedHaveNone : Type 0
OpenedHaveNone = (job : CopyJob) (start : Pair) (c : Course) (t j : List ℕ) →
    ((source : Option (List ℕ)) → Stands job source start c t j) → IsAtFirst job c →
    (start.journal ≡ j) ⊎ (¬ IsHeld start.journal) →
    IsTallied job.id job.map start c.unit 0 0

-- what a step adds
abbrev pub written_by : Step → ℕ
written_by (did.Unit k) = 1
written_by (did.Kept k) = 0
written_by (did.Range r) = 0
written_by did.Done = 0

abbrev pub kept_by : Step → ℕ
kept_by (did.Unit k) = 0
kept_by (did.Kept k) = 1
kept_by (did.Range r) = 0
kept_by did.Done = 0

-- a step that was next, from c to d
abbrev pub StepsAddUp : Type 0
StepsAddUp = (job : CopyJob) (source : Option (List ℕ)) (start : Pair) (c d : Course) (t j u i : List ℕ) (step : Step)
    (written kept : ℕ) → Stands job source start c t j → Stands job source start d u i →
    need_of job c ≡ needed step → Passes job c d step → IsTallied job.id job.map start c.unit written kept →
    IsTallied job.id job.map start d.unit (written + written_by step) (kept + kept_by step)

-- where nothing is left, all are counted
abbrev pub DoneHaveAll : Type 0
DoneHaveAll = (job : CopyJob) (start : Pair) (c : Course) (written kept : ℕ) → IsCopyJob job → IsCourse job c →
    need_of job c ≡ needed did.Done → IsTallied job.id job.map start c.unit written kept →
    IsTallyOf job.id job.map start written kept

-- a run's numbers are determined
abbrev pub TalliesAreOne : Type 0
TalliesAreOne = (job : CopyJob) (start : Pair) (written kept other too : ℕ) →
    IsTallyOf job.id job.map start written kept → IsTallyOf job.id job.map start other too →
    (written ≡ other) × (kept ≡ too)

-- the units of a map have the bytes that are mapped, and the first of them no more
abbrev pub UnitsAreMapped : Type 0
UnitsAreMapped = (m : BlockMap) (unit : ℕ) → IsMap m → IsPowerBetween 65536 4194304 unit →
    unit_bytes m unit ≡ mapped_bytes m
