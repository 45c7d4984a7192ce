-- What shows that no block map is written.
use Rattle.std.specs.Prelude.{◌≡◌, ◌≢◌, ℕ, ◌<◌, Bool, true, false, Result, Ok, Err, IsOk}
use Rattle.build_job.specs.Faults.{IsLengthShown}
use Rattle.image_plan.specs.Faults.{is_counted as is_plan_counted, IsShown as IsPlanShown}
use Rattle.outside.specs.Counts.{Counts, Rose}
use Rattle.outside.specs.Files.{Tree}
use Rattle.outside.specs.declared.files.FileErr.{FileErr}
use Rattle.outside.specs.declared.files.FileErr.TheVariants as measure
use Rattle.range_digest.specs.declared.digests.DigestFault.{DigestFault}
use Rattle.range_digest.specs.declared.digests.DigestFault.TheVariants as digest
use Rattle.map_job.specs.declared.faults.MappingFault.{MappingFault}
use Rattle.map_job.specs.declared.faults.MappingFault.TheVariants.{NoImage, NameClash, Plan, Measure, ImageStale, Digest}
use Rattle.map_job.specs.declared.faults.MappingFault.TheVariants.{FileFault, NoMemory}

-- a fault names one of so many images, where it names one
abbrev pub IsOfImages : ℕ → MappingFault → Type 0
IsOfImages n NoImage = Unit {0}
IsOfImages n NameClash = Unit {0}
IsOfImages n (Plan image fault) = image < n
IsOfImages n (Measure image fault) = image < n
IsOfImages n (ImageStale has needs) = Unit {0}
IsOfImages n (Digest image fault) = image < n
IsOfImages n FileFault = Unit {0}
IsOfImages n NoMemory = Unit {0}

-- a fault that comes once the image of that number is chosen
abbrev pub IsOf : ℕ → MappingFault → Type 0
IsOf number NoImage = ⊥
IsOf number NameClash = ⊥
IsOf number (Plan image fault) = image ≡ number
IsOf number (Measure image fault) = image ≡ number
IsOf number (ImageStale has needs) = Unit {0}
IsOf number (Digest image fault) = image ≡ number
IsOf number FileFault = Unit {0}
IsOf number NoMemory = Unit {0}

-- so it is, or it is the refusal of the choice
abbrev pub IsBehind : Result ℕ MappingFault → MappingFault → Type 0
IsBehind chosen NoImage = chosen ≡ Err NoImage
IsBehind chosen NameClash = chosen ≡ Err NameClash
IsBehind chosen (Plan image fault) = chosen ≡ Ok image
IsBehind chosen (Measure image fault) = chosen ≡ Ok image
IsBehind chosen (ImageStale has needs) = IsOk chosen
IsBehind chosen (Digest image fault) = chosen ≡ Ok image
IsBehind chosen FileFault = IsOk chosen
IsBehind chosen NoMemory = IsOk chosen

-- ---- a call failed or memory was refused

abbrev pub is_measure_counted : FileErr → Bool
is_measure_counted measure.Missing = false
is_measure_counted measure.Failed = true

abbrev pub is_digest_counted : DigestFault → Bool
is_digest_counted digest.Missing = false
is_digest_counted (digest.SourceShort at) = false
is_digest_counted digest.FileFault = true

abbrev pub is_counted : MappingFault → Bool
is_counted NoImage = false
is_counted NameClash = false
is_counted (Plan image fault) = is_plan_counted fault
is_counted (Measure image fault) = is_measure_counted fault
is_counted (ImageStale has needs) = false
is_counted (Digest image fault) = is_digest_counted fault
is_counted FileFault = true
is_counted NoMemory = true

-- ---- by the counts of the files

abbrev pub IsDigestShown : Counts → Counts → DigestFault → Type 0
IsDigestShown before now digest.Missing = Rose before.absences now.absences
IsDigestShown before now (digest.SourceShort at) = Rose before.ends now.ends
IsDigestShown before now digest.FileFault = Rose before.faults now.faults

abbrev pub IsShown : Counts → Counts → MappingFault → Type 0
IsShown before now NoImage = Unit {0}
IsShown before now NameClash = Unit {0}
IsShown before now (Plan image fault) = IsPlanShown before now fault
IsShown before now (Measure image fault) = IsLengthShown before now fault
IsShown before now (ImageStale has needs) = has ≢ needs
IsShown before now (Digest image fault) = IsDigestShown before now fault
IsShown before now FileFault = Rose before.faults now.faults
IsShown before now NoMemory = Unit {0}

-- ---- by the files

-- a fault of the writing
abbrev pub IsOfWriting : MappingFault → Type 0
IsOfWriting NoImage = ⊥
IsOfWriting NameClash = ⊥
IsOfWriting (Plan image fault) = ⊥
IsOfWriting (Measure image fault) = ⊥
IsOfWriting (ImageStale has needs) = ⊥
IsOfWriting (Digest image fault) = ⊥
IsOfWriting FileFault = Unit {0}
IsOfWriting NoMemory = Unit {0}

-- every file is as before, unless the fault may be one of the writing
abbrev pub IsKept : Tree → Tree → MappingFault → Type 0
IsKept before after NoImage = after ≡ before
IsKept before after NameClash = after ≡ before
IsKept before after (Plan image fault) = after ≡ before
IsKept before after (Measure image fault) = after ≡ before
IsKept before after (ImageStale has needs) = after ≡ before
IsKept before after (Digest image fault) = after ≡ before
IsKept before after FileFault = Unit {0}
IsKept before after NoMemory = Unit {0}
