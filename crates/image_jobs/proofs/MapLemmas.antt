-- What the answer of `map` says.
use Rattle.std.proofs.Common.{◌≡◌, ℕ, true, List, Result, Ok, Err, refl, subst, sym}
use Rattle.std.specs.Prelude.{IsOkAnd}
use Rattle.outside.specs.Counts.{Counts}
use Rattle.outside.specs.Files.{Tree}
use Rattle.outside.specs.declared.files.FileErr.TheVariants as measure
use Rattle.answer_lines.specs.Kind.{Kind, Finished, LineFailed, Counted, Refused, kind_of}
use Rattle.answer_lines.specs.declared.answer.Answer.{Answer}
use Rattle.answer_lines.specs.declared.answer.Report.{Report}
use Rattle.answer_lines.specs.declared.answer.Report.TheVariants as report
use Rattle.image_graph.specs.declared.images.Graph.{Graph}
use Rattle.image_plan.specs.declared.faults.PlanFault.TheVariants as plan
use Rattle.job_stages.specs.Stages.{Refuses}
use Rattle.map_job.specs.Faults.{is_counted as is_mapping_counted}
use Rattle.map_job.specs.Mapped.{IsMapped}
use Rattle.map_job.specs.Said.{Image, mapping_said}
use Rattle.map_job.specs.declared.faults.MappingFault.{MappingFault}
use Rattle.map_job.specs.declared.faults.MappingFault.TheVariants as fault
use Rattle.map_job.specs.declared.mapping.Mapped.{Mapped}
use Rattle.placement_rules.specs.declared.faults.PlaceFault.{PlaceFault}
use Rattle.placement_rules.specs.declared.faults.PlaceFault.TheVariants as place
use Rattle.range_digest.specs.declared.digests.DigestFault.TheVariants as digest
use Rattle.image_plan.specs.Faults.{is_memory}
use Rattle.job_answers.proofs.SaidLemmas.{refuses_as}
use Rattle.job_answers.specs.Printed.{IsCopied, is_counted}
use Rattle.image_jobs.specs.Answering.{place_answer}
use Rattle.image_jobs.specs.MapArm.{HasMapped, IsMapShown, MapCause, Maps, image_wanted}
use Rattle.image_jobs.specs.MapArm.{map_cause_by, mapped_by, mapping_answer}
use Rattle.job_answers.specs.Printed.{HasError, IsRefusal, Reports, reported_by}
use Rattle.image_jobs.specs.declared.request.MapRequest.{MapRequest}

-- ---- the answer of each fault

place_stays : (f : PlaceFault) → is_memory f ≡ true → is_counted (place_answer f) ≡ true
place_stays (place.TooManyEntries count) h = h
place_stays (place.Misaligned part value align) h = h
place_stays (place.BadHoles part index) h = h
place_stays (place.BadAutoresize part room least) h = h
place_stays (place.FileTooLarge part has limit) h = h
place_stays (place.NoSize part) h = h
place_stays (place.TooFar part number limit) h = h
place_stays (place.Overlap a b) h = h
place_stays (place.ImageTooSmall has needs) h = h
place_stays (place.NotOnBlock part value pebsize) h = h
place_stays (place.PastFlash part end limit) h = h
place_stays place.NoMemory h = refl

counted_stays : (graph : Graph) (image out : List ℕ) (f : MappingFault) → is_mapping_counted f ≡ true
    → is_counted (mapping_answer graph image out f) ≡ true
counted_stays graph image out fault.NoImage h = h
counted_stays graph image out fault.NameClash h = h
counted_stays graph image out (fault.Plan number (plan.Missing source)) h = h
counted_stays graph image out (fault.Plan number plan.FileFault) h = refl
counted_stays graph image out (fault.Plan number (plan.Place f)) h = place_stays f h
counted_stays graph image out (fault.Measure number measure.Missing) h = h
counted_stays graph image out (fault.Measure number measure.Failed) h = refl
counted_stays graph image out (fault.ImageStale has needs) h = h
counted_stays graph image out (fault.Digest number digest.Missing) h = h
counted_stays graph image out (fault.Digest number (digest.SourceShort at)) h = h
counted_stays graph image out (fault.Digest number digest.FileFault) h = refl
counted_stays graph image out fault.FileFault h = refl
counted_stays graph image out fault.NoMemory h = refl

-- the map of a graph's image is refused as it is wanted
pub mapping_refused : (file after : Tree) (image out : List ℕ) (texts : List (List ℕ)) (graph : Graph) (block : ℕ) (f : MappingFault)
    (got : Answer) → Refuses is_mapping_counted (mapping_said texts graph file image out) f
    → IsCopied (mapping_answer graph image out f) got → Maps (image_wanted file image out texts graph) block out after (Err got)
mapping_refused file after image out texts graph block f got h copied =
    refuses_as (mapping_said texts graph file image out) is_mapping_counted (mapping_answer graph image out) f got
    (counted_stays graph image out f) h copied

-- ---- after the work

done_made : (wanted : Result Image Answer) (mapping : MapRequest) (after : Tree) (mapped : Mapped) (before now : ℕ) (k : Kind)
    → IsOkAnd wanted (λ image. IsMapped image mapping.block (after mapping.out) mapped)
    → reported_by (report.Mapped mapped.ranges mapped.blocks) before now k → mapped_by wanted mapping after k
done_made (Err refusal) mapping after mapped before now k h is = absurd h
done_made (Ok image) mapping after mapped before now (Finished said) h is =
    subst (λ (said : Report). mapped_by (Ok image) mapping after (Finished said)) (sym is.0) h
done_made (Ok image) mapping after mapped before now LineFailed h is = (mapped, h)
done_made (Ok image) mapping after mapped before now Counted h is = absurd is
done_made (Ok image) mapping after mapped before now Refused h is = absurd is

pub map_made : (wanted : Result Image Answer) (mapping : MapRequest) (after : Tree) (mapped : Mapped) (before now : ℕ)
    (answer : Answer) → Maps wanted mapping.block mapping.out after (Ok mapped)
    → Reports (report.Mapped mapped.ranges mapped.blocks) before now answer → HasMapped wanted mapping after answer
map_made wanted mapping after mapped before now answer h is =
    done_made wanted mapping after mapped before now (kind_of answer) h is

-- ---- after a refusal

refused_caused : (before now : Counts) (lines_before lines_now : ℕ) (answer : Answer) (k : Kind) → HasError k
    → IsMapShown before now answer → map_cause_by before now lines_before lines_now answer k
refused_caused before now lines_before lines_now answer (Finished said) error h = absurd error
refused_caused before now lines_before lines_now answer LineFailed error h = absurd error
refused_caused before now lines_before lines_now answer Counted error h = h
refused_caused before now lines_before lines_now answer Refused error h = h

pub map_caused : (before now : Counts) (lines_before lines_now : ℕ) (answer : Answer) → IsRefusal answer
    → IsMapShown before now answer → MapCause before now lines_before lines_now answer
map_caused before now lines_before lines_now answer error h =
    refused_caused before now lines_before lines_now answer (kind_of answer) error h

refused_made : (wanted : Result Image Answer) (mapping : MapRequest) (after : Tree) (k : Kind) → HasError k → mapped_by wanted mapping after k
refused_made wanted mapping after (Finished said) error = absurd error
refused_made wanted mapping after LineFailed error = absurd error
refused_made wanted mapping after Counted error = tt
refused_made wanted mapping after Refused error = tt

pub map_not_made : (wanted : Result Image Answer) (mapping : MapRequest) (after : Tree) (answer : Answer) → IsRefusal answer
    → HasMapped wanted mapping after answer
map_not_made wanted mapping after answer error = refused_made wanted mapping after (kind_of answer) error
