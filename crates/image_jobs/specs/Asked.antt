-- What words ask for.
use Rattle.std.specs.Prelude.{ℕ, Bool, List, Option, Some, None, if◌then◌else◌}
use Rattle.base_fields.specs.Numbers.{IsPowerBetween}
use Rattle.copy_job.specs.declared.requests.CopyRequest.{CopyRequest}
use Rattle.copy_opening.specs.declared.opening.Mode.{Mode}
use Rattle.copy_opening.specs.declared.opening.Mode.TheVariants.{Fresh, Again}
use Rattle.job_words.specs.Jobs.{job_of}
use Rattle.job_words.specs.declared.jobs.Job.{Job}
use Rattle.job_words.specs.declared.jobs.Job.TheVariants as job
use Rattle.journal_format.specs.Journals.{IsWindow}
use Rattle.image_jobs.specs.declared.request.Command.{Command}
use Rattle.image_jobs.specs.declared.request.Command.TheVariants.{Build, Map, Copy, Forget, Verify, List as Listed}
use Rattle.device_commands.specs.Devices.{named}
use Rattle.device_commands.specs.declared.names.DeviceNames.{DeviceNames}
use Rattle.image_jobs.specs.declared.request.Request.{Request}

abbrev pub request_of : List ℕ → Option (List ℕ) → Option (List ℕ) → Request
request_of conf input output = record { conf = conf; input = input; output = output }

abbrev pub copy_of : List ℕ → List ℕ → List ℕ → List ℕ → ℕ → Mode → ℕ → CopyRequest
copy_of source map target journal unit mode window =
    record { source = source; map = map; target = target; journal = journal; unit = unit; mode = mode; window = window }

-- a source that is sparse isn't copied yet
abbrev pub copy_unless : Bool → CopyRequest → Option Command
copy_unless sparse request = if sparse then None else Some (Copy request)

-- the command that a job is; one that `run` has no arm for yet is as no job
abbrev pub command_of : Option Job → Option Command
command_of (Some (job.Build conf input output)) = Some (Build (request_of conf input output))
command_of (Some (job.Map conf image out block input output)) =
    Some (Map (record { request = request_of conf input output; image = image; out = out; block = block }))
command_of (Some (job.Copy source map target journal unit window sparse)) =
    copy_unless sparse (copy_of source map target journal unit Fresh window)
command_of (Some (job.Resume source map target journal unit sparse)) =
    copy_unless sparse (copy_of source map target journal unit Again 1)
command_of (Some (job.Forget journal)) = Some (Forget journal)
command_of (Some (job.Verify map target)) = Some (Verify map target)
command_of (Some (job.List image)) = Some (Listed image)
command_of other = None

-- the command that words ask for
abbrev pub asked : List (List ℕ) → Option Command
asked words = command_of (job_of words)

-- the units and the window of a copy
pub record AreCopySizes (request : CopyRequest) : Type 0 where
  pub units : IsPowerBetween 65536 4194304 request.unit
  pub windows : IsWindow request.window

-- the blocks of a map, the units and the window of a copy are those that these may have
abbrev pub IsSound : Command → Type 0
IsSound (Build request) = Unit {0}
IsSound (Map mapping) = IsPowerBetween 512 65536 mapping.block
IsSound (Copy request) = AreCopySizes request
IsSound (Forget journal) = Unit {0}
IsSound (Verify map target) = Unit {0}
IsSound (Listed image) = Unit {0}

-- the names under which a command attaches its devices
abbrev pub names_of : Option Command → DeviceNames
names_of (Some (Build request)) = named None None
names_of (Some (Map mapping)) = named None None
names_of (Some (Copy request)) = named (Some request.target) (Some request.journal)
names_of (Some (Forget journal)) = named None (Some journal)
names_of (Some (Verify map target)) = named (Some target) None
names_of (Some (Listed image)) = named None None
names_of None = named None None
