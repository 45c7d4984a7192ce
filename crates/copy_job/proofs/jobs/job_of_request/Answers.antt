use Rattle.std.proofs.Common.{◌≡◌, ◌∙◌, List, ℕ, Option, Result, ap, rules, subst, sym}
use Rattle.std.specs.Prelude.{IsOk}
use Rattle.copier_course.specs.declared.jobs.CopyJob.{CopyJob}
use Rattle.job_stages.specs.Stages.{Gives, Refuses}
use Rattle.map_source.specs.Faults.{is_counted as is_counted_map}
use Rattle.map_source.specs.Said.{map_said}
use Rattle.map_source.specs.declared.faults.SourceFault.{SourceFault}
use Rattle.map_source.specs.declared.sources.MapSource.{MapSource}
use Rattle.copy_job.specs.Faults.{is_counted}
use Rattle.copy_job.specs.Said.{source_said}
use Rattle.copy_job.specs.declared.faults.CopyJobFault.{CopyJobFault}
use Rattle.copy_job.proofs.RequestLemmas.{job_said, map_refuses}
use Rattle.copy_job.proofs.jobs.job_of_request.Goals as goal

pub returns-in_err-find_source-clause-cause : goal.returns-in_err-find_source-clause-cause
returns-in_err-find_source-clause-cause g c old new = let shown = c.in_err-find_source.ensures.cause old new in search rules

pub returns-in-Err-clause-said : goal.returns-in-Err-clause-said
returns-in-Err-clause-said g c told =
    let file = g.F.Files.file c.args.files.now in
    let request = c.args.request.now in
    let there : IsOk (source_said file request.source) =
    subst (λ (n : List ℕ). IsOk (source_said file n)) c.text.ensures (c.in_ok-find_source.ensures.found told) in
    let map : map_said (file request.map) ≡ map_said (g.F.Files.file c.find_source.new.files c.text-2.result.now) =
    ap (λ (f : List ℕ → Option (List ℕ)). map_said (f request.map)) (sym c.find_source.ensures.same_files)
    ∙ ap (λ (n : List ℕ). map_said (g.F.Files.file c.find_source.new.files n)) (sym c.text-2.ensures) in
    map_refuses request (source_said file request.source) there (map_said (file request.map)) c.in-Err.fault
    (subst (λ (said : Result MapSource SourceFault). Refuses is_counted_map said c.in-Err.fault) (sym map) (c.in-Err.ensures.said told))

pub returns-clause-said : goal.returns-clause-said
returns-clause-said g c told =
    let file = g.F.Files.file c.args.files.now in
    let request = c.args.request.now in
    let there : IsOk (source_said file request.source) =
    subst (λ (n : List ℕ). IsOk (source_said file n)) c.text.ensures (c.in_ok-find_source.ensures.found told) in
    let map : map_said (file request.map) ≡ map_said (g.F.Files.file c.find_source.new.files c.text-2.result.now) =
    ap (λ (f : List ℕ → Option (List ℕ)). map_said (f request.map)) (sym c.find_source.ensures.same_files)
    ∙ ap (λ (n : List ℕ). map_said (g.F.Files.file c.find_source.new.files n)) (sym c.text-2.ensures) in
    subst (λ (said : Result CopyJob CopyJobFault). Gives is_counted said (λ job. job) (λ fault. fault) c.job_in.result)
    (sym (job_said request (source_said file request.source) there (map_said (file request.map)) c.in-Ok.source (map ∙ c.in-Ok.ensures.said told)))
    c.job_in.ensures.said

pub returns-clause-cause : goal.returns-clause-cause
returns-clause-cause g c old new = c.job_in.ensures.cause (g.F.Files.counts c.args.files.now) (g.F.Files.counts c.read_map.new.files) old new
