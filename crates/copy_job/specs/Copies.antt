-- What a copy says, by the job that is said of the files and by the devices: each word is that of a whole run of a copier
-- on that job, and nothing is said where there is no job.
use Rattle.std.specs.Prelude.{◌≡◌, Result, Ok, Err, IsOk}
use Rattle.copier.specs.Faults.{IsUnwritten as IsRunUnwritten}
use Rattle.copier.specs.declared.faults.CopyFault.{CopyFault}
use Rattle.copier_course.specs.declared.jobs.CopyJob.{CopyJob}
use Rattle.copy_run.specs.declared.running.Tally.{Tally}
use Rattle.job_stages.specs.Stages.{Refuses}
use Rattle.copy_job.specs.Faults.{is_counted}
use Rattle.copy_job.specs.declared.faults.CopyJobFault.{CopyJobFault}
use Rattle.copy_job.specs.declared.faults.CopyJobFault.TheVariants.{Compressed, Missing, FileFault, Map, TooManyUnits, DeviceFault, Copy, NoMemory}

-- ---- the answer
-- there is a job and its run is done or refuses, or the first reason why there is none is given; or a call failed or
-- memory was refused
abbrev pub Answers : Result CopyJob CopyJobFault → Result Tally CopyJobFault → Type 0
Answers said (Ok tally) = IsOk said
Answers said (Err (Copy fault)) = IsOk said
Answers said (Err (DeviceFault dev)) = IsOk said
Answers said (Err fault) = Refuses is_counted said fault

-- the answer of the run, where there was one
abbrev pub OfRun : (Result Tally CopyFault → Type 0) → Result Tally CopyJobFault → Type 0
OfRun P (Ok tally) = P (Ok tally)
OfRun P (Err Compressed) = Unit {0}
OfRun P (Err Missing) = Unit {0}
OfRun P (Err FileFault) = Unit {0}
OfRun P (Err (Map fault)) = Unit {0}
OfRun P (Err (TooManyUnits count limit)) = Unit {0}
OfRun P (Err (DeviceFault dev)) = Unit {0}
OfRun P (Err (Copy fault)) = P (Err fault)
OfRun P (Err NoMemory) = Unit {0}

-- ---- what it leaves
-- nothing is asked of the devices before there is a job, and all memory but that of the opening is taken
abbrev pub Untouched : {A : Type 0} → A → A → Result Tally CopyJobFault → Type 0
Untouched old new (Ok tally) = Unit {0}
Untouched old new (Err Compressed) = new ≡ old
Untouched old new (Err Missing) = new ≡ old
Untouched old new (Err FileFault) = new ≡ old
Untouched old new (Err (Map fault)) = new ≡ old
Untouched old new (Err (TooManyUnits count limit)) = new ≡ old
Untouched old new (Err (DeviceFault dev)) = Unit {0}
Untouched old new (Err (Copy fault)) = Unit {0}
Untouched old new (Err NoMemory) = new ≡ old

-- a refusal that comes before the copy is opened
abbrev pub IsBefore : CopyJobFault → Type 0
IsBefore (Copy fault) = ⊥
IsBefore fault = Unit {0}

-- a refusal before which nothing was written: any of a copy that isn't opened but a device's, and want of memory
abbrev pub IsUnwritten : CopyJobFault → Type 0
IsUnwritten (Copy fault) = IsRunUnwritten fault
IsUnwritten fault = Unit {0}
