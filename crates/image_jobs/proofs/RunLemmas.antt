-- What an answer says of the counts, of the files and of the lines.
use Rattle.std.proofs.Common.{◌≡◌, ◌∙◌, ℕ, List, [], ◌∷◌, Result, Ok, Err, refl, ap, subst, sym, inl, inr}
use Rattle.outside.specs.Counts.{Counts}
use Rattle.outside.specs.Files.{Tree}
use Rattle.outside.specs.declared.files.ComposeFault.TheVariants as compose
use Rattle.outside.specs.declared.files.FileErr.TheVariants as measure
use Rattle.answer_lines.specs.Answer.{error_text}
use Rattle.answer_lines.specs.Kind.{Kind, Finished, LineFailed, Counted, Refused, kind_of}
use Rattle.answer_lines.specs.declared.answer.Answer.{Answer}
use Rattle.answer_lines.specs.declared.answer.Report.{Report}
use Rattle.build_job.specs.Faults.{IsShown as IsBuildShown}
use Rattle.build_job.specs.Said.{sizes_of}
use Rattle.build_job.specs.declared.faults.BuildFault.{BuildFault}
use Rattle.build_job.specs.declared.faults.BuildFault.TheVariants as build
use Rattle.image_graph.specs.declared.images.Graph.{Graph}
use Rattle.image_graph.specs.IsGraph.{IsGraph}
use Rattle.image_plan.specs.declared.faults.PlanFault.TheVariants as plan
use Rattle.placement_rules.specs.declared.faults.PlaceFault.{PlaceFault}
use Rattle.placement_rules.specs.declared.faults.PlaceFault.TheVariants as place
use Rattle.image_jobs.proofs.LineLemmas.{report_is_done}
use Rattle.job_answers.specs.Printed.{IsCopied}
use Rattle.image_jobs.specs.Answering.{build_answer, place_answer}
use Rattle.image_jobs.specs.BuildArm.{BuildChanges, IsShown, build_lines, done_lines, lines_by}
use Rattle.job_answers.specs.Printed.{HasError, IsRefusal, Reports, reported_by}
use Rattle.image_jobs.specs.Printed.{report_lines}

-- ---- the causes of a fault of the building

place_shown : (before now : Counts) (fault : PlaceFault) → IsShown before now (place_answer fault)
place_shown before now (place.TooManyEntries count) = tt
place_shown before now (place.Misaligned part value align) = tt
place_shown before now (place.BadHoles part index) = tt
place_shown before now (place.BadAutoresize part room least) = tt
place_shown before now (place.FileTooLarge part has limit) = tt
place_shown before now (place.NoSize part) = tt
place_shown before now (place.TooFar part number limit) = tt
place_shown before now (place.Overlap a b) = tt
place_shown before now (place.ImageTooSmall has needs) = tt
place_shown before now (place.NotOnBlock part value pebsize) = tt
place_shown before now (place.PastFlash part end limit) = tt
place_shown before now place.NoMemory = tt

build_shown : (graph : Graph) (before now : Counts) (fault : BuildFault) → IsBuildShown before now fault
    → IsShown before now (build_answer graph fault)
build_shown graph before now (build.Plan image (plan.Missing source)) h = h
build_shown graph before now (build.Plan image plan.FileFault) h = h
build_shown graph before now (build.Plan image (plan.Place fault)) h = place_shown before now fault
build_shown graph before now (build.Compose image (compose.Missing part)) h = h
build_shown graph before now (build.Compose image compose.FileFault) h = h
build_shown graph before now (build.Compose image (compose.SourceShort part at)) h = h
build_shown graph before now (build.Compose image compose.NoMemory) h = tt
build_shown graph before now (build.Measure image measure.Missing) h = h
build_shown graph before now (build.Measure image measure.Failed) h = h
build_shown graph before now build.NoMemory h = tt

copied_shown : (before now : Counts) (wanted got : Answer) → IsCopied wanted got → IsShown before now wanted → IsShown before now got
copied_shown before now wanted got (inl same) h = subst (IsShown before now) (sym same) h
copied_shown before now wanted got (inr memory) h = subst (IsShown before now) (sym memory) tt

-- the answer of a fault has the cause of that
pub answer_shown : (graph : Graph) (before now : Counts) (fault : BuildFault) (got : Answer) → IsCopied (build_answer graph fault) got
    → IsBuildShown before now fault → IsShown before now got
answer_shown graph before now fault got copied h =
    copied_shown before now (build_answer graph fault) got copied (build_shown graph before now fault h)

-- ---- the files

-- files that are as before are so whatever was planned
pub nothing_changes : (plan : Result Graph Answer) (before after : Tree) → after ≡ before → BuildChanges plan before after
nothing_changes (Ok graph) before after h = λ name out. ap (λ (file : Tree). file name) h
nothing_changes (Err refusal) before after h = h

-- ---- the lines

-- a refusal has its one line, whatever was planned
error_lines : (plan : Result Graph Answer) (after : Tree) (a : Answer) (k : Kind) → HasError k → lines_by plan after a k ≡ error_text a ∷ []
error_lines plan after a (Finished said) h = absurd h
error_lines plan after a LineFailed h = absurd h
error_lines plan after a Counted h = refl
error_lines plan after a Refused h = refl

pub refusal_lines : (plan : Result Graph Answer) (after : Tree) (a : Answer) → IsRefusal a → build_lines plan after a ≡ error_text a ∷ []
refusal_lines plan after a h = error_lines plan after a (kind_of a) h

-- after the work the lines are those of the plan
reported_lines : (plan : Result Graph Answer) (after : Tree) (wanted : Report) (before now : ℕ) (a : Answer) (k : Kind)
    → reported_by wanted before now k → lines_by plan after a k ≡ done_lines plan after
reported_lines plan after wanted before now a (Finished said) h = refl
reported_lines plan after wanted before now a LineFailed h = refl
reported_lines plan after wanted before now a Counted h = absurd h
reported_lines plan after wanted before now a Refused h = absurd h

pub work_lines : (plan : Result Graph Answer) (graph : Graph) (after : Tree) (wanted : Report) (before now : ℕ) (a : Answer) (sizes : List ℕ)
    → plan ≡ Ok graph → IsGraph graph → sizes ≡ sizes_of graph after → Reports wanted before now a
    → build_lines plan after a ≡ report_lines graph sizes
work_lines plan graph after wanted before now a sizes is sound same h =
    reported_lines plan after wanted before now a (kind_of a) h
    ∙ ap (λ (plan : Result Graph Answer). done_lines plan after) is ∙ sym (report_is_done graph after sizes sound same)
