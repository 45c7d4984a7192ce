-- The blocks, pages, units and windows of a job: each is in the range of its option.
use Rattle.std.specs.Prelude.{◌≡◌, ℕ, ◌≤◌, List, Some}
use Rattle.base_fields.specs.Numbers.{IsBetween, IsPowerBetween}
use Rattle.clap.specs.Walk.{Text}
use Rattle.job_words.specs.Jobs.{job_of}
use Rattle.job_words.specs.declared.jobs.Job.{Job}
use Rattle.job_words.specs.declared.jobs.Job.TheVariants as job

-- a unit of a copy, in bytes
abbrev pub IsUnit : ℕ → Type 0
IsUnit unit = IsPowerBetween 65536 4194304 unit

-- how many units may be under way
abbrev pub IsWindow : ℕ → Type 0
IsWindow window = IsBetween 1 16 window

-- the unit and the window of a copy
pub record AreCopySizes (unit window : ℕ) : Type 0 where
  pub units : IsUnit unit
  pub windows : IsWindow window

-- an erase block and a page of a NAND device, in bytes
pub record AreNandSizes (block page : ℕ) : Type 0 where
  pub blocks : IsPowerBetween 1 4194304 block
  pub pages : IsPowerBetween 512 16384 page
  pub within : page ≤ block

abbrev pub IsInRange : Job → Type 0
IsInRange (job.Build conf input output) = Unit {0}
IsInRange (job.Map conf image out block input output) = IsPowerBetween 512 65536 block
IsInRange (job.Copy source map target journal unit window sparse) = AreCopySizes unit window
IsInRange (job.Resume source map target journal unit sparse) = IsUnit unit
IsInRange (job.Forget journal) = Unit {0}
IsInRange (job.Verify map target) = Unit {0}
IsInRange (job.List image) = Unit {0}
IsInRange (job.Demo seed) = Unit {0}
IsInRange (job.Gang source map pairs unit) = IsUnit unit
IsInRange (job.GangResume source map pairs unit) = IsUnit unit
IsInRange (job.Cut image prefix size) = Unit {0}
IsInRange (job.Expand out pieces) = Unit {0}
IsInRange (job.Nand image device bad_list block page) = AreNandSizes block page

-- the job of words has them in their ranges
abbrev pub JobsAreInRange : Type 0
JobsAreInRange = (words : List Text) (j : Job) → job_of words ≡ Some j → IsInRange j
