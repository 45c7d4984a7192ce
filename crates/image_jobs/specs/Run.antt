-- What an answer of `run` says, by cases on the command that its words ask for.
use Rattle.std.specs.Prelude.{◌≢◌, ◌≡◌, ℕ, List, [], ◌∷◌, Option, Some, None}
use Rattle.base_fields.specs.declared.names.Pair.{Pair}
use Rattle.outside.specs.Counts.{Counts}
use Rattle.outside.specs.Files.{OthersStay, Tree}
use Rattle.answer_lines.specs.Answer.{error_text}
use Rattle.answer_lines.specs.declared.answer.Answer.{Answer}
use Rattle.answer_lines.specs.declared.answer.Answer.TheVariants.{Usage, NoMemory}
use Rattle.bench.specs.Meter.{Meter}
use Rattle.device_commands.specs.CopyArm.{CopyAnswers, CopyCause, CopyCompletes}
use Rattle.device_commands.specs.ForgetArm.{ForgetCause}
use Rattle.image_jobs.specs.Build.{graph_said}
use Rattle.image_jobs.specs.BuildArm.{BuildAnswers, BuildCause, BuildChanges, HasBuilt, IsComplete, build_lines}
use Rattle.image_jobs.specs.ListArm.{ListAnswers, ListCause, ListCompletes, list_lines}
use Rattle.image_jobs.specs.MapArm.{HasMapped, MapAnswers, MapCause, MapCompletes, map_wanted}
use Rattle.job_answers.specs.Printed.{line_of}
use Rattle.device_commands.specs.VerifyArm.{Compares, VerifyAnswers, VerifyCause, VerifyCompletes, verify_lines}
use Rattle.image_jobs.specs.declared.request.Command.{Command}
use Rattle.image_jobs.specs.declared.request.Command.TheVariants.{Build, Map, Copy, Forget, Verify, List as Listed}

-- the words have no job, or memory was refused for them
abbrev pub IsUnread : Answer → Type 0
IsUnread Usage = Unit {0}
IsUnread NoMemory = Unit {0}
IsUnread other = ⊥

-- Usage exactly where the words have no job
abbrev pub IsUsage : Option Command → Answer → Type 0
IsUsage None answer = IsUnread answer
IsUsage (Some command) answer = answer ≢ Usage

-- ---- the answer

-- what the answer says of the files: all is done, or the wanted thing is refused, or a call failed or memory was refused
abbrev pub Answers : Option Command → List Pair → Tree → Tree → Answer → Type 0
Answers None vars before after answer = IsUnread answer
Answers (Some (Build request)) vars before after answer = BuildAnswers (graph_said vars before request) before after answer
Answers (Some (Map mapping)) vars before after answer = MapAnswers (map_wanted vars before mapping) answer
Answers (Some (Copy request)) vars before after answer = CopyAnswers before request answer
Answers (Some (Forget journal)) vars before after answer = Unit {0}
Answers (Some (Verify map target)) vars before after answer = VerifyAnswers before map answer
Answers (Some (Listed image)) vars before after answer = ListAnswers before image answer

-- what it says of the target, of these bytes: it has each digest of the map, or why it hasn't
abbrev pub HasCompared : Option Command → Tree → List ℕ → Answer → Type 0
HasCompared None before bytes answer = IsUnread answer
HasCompared (Some (Build request)) before bytes answer = Unit {0}
HasCompared (Some (Map mapping)) before bytes answer = Unit {0}
HasCompared (Some (Copy request)) before bytes answer = Unit {0}
HasCompared (Some (Forget journal)) before bytes answer = Unit {0}
HasCompared (Some (Verify map target)) before bytes answer = Compares before map bytes answer
HasCompared (Some (Listed image)) before bytes answer = Unit {0}

-- where no call on the files and on the devices and no line failed, the work is done, or the wanted thing is refused, or
-- memory was
abbrev pub Completes : Option Command → List Pair → Tree → Tree → Counts → Counts → ℕ → ℕ → Meter → Meter → Answer → Type 0
Completes None vars before after counts_before counts_now lines_before lines_now old new answer = IsUnread answer
Completes (Some (Build request)) vars before after counts_before counts_now lines_before lines_now old new answer =
    IsComplete (graph_said vars before request) before after counts_before counts_now lines_before lines_now answer
Completes (Some (Map mapping)) vars before after counts_before counts_now lines_before lines_now old new answer =
    MapCompletes (map_wanted vars before mapping) counts_before counts_now lines_before lines_now answer
Completes (Some (Copy request)) vars before after counts_before counts_now lines_before lines_now old new answer =
    CopyCompletes before request counts_before counts_now lines_before lines_now old new answer
Completes (Some (Forget journal)) vars before after counts_before counts_now lines_before lines_now old new answer =
    ForgetCause lines_before lines_now old new answer
Completes (Some (Verify map target)) vars before after counts_before counts_now lines_before lines_now old new answer =
    VerifyCompletes before map counts_before counts_now lines_before lines_now old new answer
Completes (Some (Listed image)) vars before after counts_before counts_now lines_before lines_now old new answer =
    ListCompletes before image counts_before counts_now lines_before lines_now answer

-- a failure is answered only where its count rose, by the counts of the files, of the devices and of the printer
abbrev pub HasCause : Option Command → Counts → Counts → Meter → Meter → ℕ → ℕ → Answer → Type 0
HasCause None before now old new lines_before lines_now answer = IsUnread answer
HasCause (Some (Build request)) before now old new lines_before lines_now answer =
    BuildCause before now lines_before lines_now answer
HasCause (Some (Map mapping)) before now old new lines_before lines_now answer =
    MapCause before now lines_before lines_now answer
HasCause (Some (Copy request)) before now old new lines_before lines_now answer =
    CopyCause request before now old new lines_before lines_now answer
HasCause (Some (Forget journal)) before now old new lines_before lines_now answer =
    ForgetCause lines_before lines_now old new answer
HasCause (Some (Verify map target)) before now old new lines_before lines_now answer =
    VerifyCause map before now old new lines_before lines_now answer
HasCause (Some (Listed image)) before now old new lines_before lines_now answer =
    ListCause image before now lines_before lines_now answer

-- ---- the files

-- where the work is done, all images are built, or the map is written
abbrev pub HasMade : Option Command → List Pair → Tree → Tree → Answer → Type 0
HasMade None vars before after answer = IsUnread answer
HasMade (Some (Build request)) vars before after answer = HasBuilt (graph_said vars before request) before after answer
HasMade (Some (Map mapping)) vars before after answer = HasMapped (map_wanted vars before mapping) mapping after answer
HasMade (Some (Copy request)) vars before after answer = Unit {0}
HasMade (Some (Forget journal)) vars before after answer = Unit {0}
HasMade (Some (Verify map target)) vars before after answer = Unit {0}
HasMade (Some (Listed image)) vars before after answer = Unit {0}

-- whatever is answered, every name but those of the images or of the map is as before
abbrev pub Changes : Option Command → List Pair → Tree → Tree → Type 0
Changes None vars before after = after ≡ before
Changes (Some (Build request)) vars before after = BuildChanges (graph_said vars before request) before after
Changes (Some (Map mapping)) vars before after = OthersStay mapping.out before after
Changes (Some (Copy request)) vars before after = after ≡ before
Changes (Some (Forget journal)) vars before after = after ≡ before
Changes (Some (Verify map target)) vars before after = after ≡ before
Changes (Some (Listed image)) vars before after = after ≡ before

-- ---- the lines

-- the lines of an answer
abbrev pub lines_of : Option Command → List Pair → Tree → Tree → Answer → List (List ℕ)
lines_of None vars before after answer = error_text answer ∷ []
lines_of (Some (Build request)) vars before after answer = build_lines (graph_said vars before request) after answer
lines_of (Some (Map mapping)) vars before after answer = line_of answer
lines_of (Some (Copy request)) vars before after answer = line_of answer
lines_of (Some (Forget journal)) vars before after answer = line_of answer
lines_of (Some (Verify map target)) vars before after answer = verify_lines before map answer
lines_of (Some (Listed image)) vars before after answer = list_lines before image answer
