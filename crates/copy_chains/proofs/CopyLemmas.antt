-- The runs of a copy are those of a chain.
use Rattle.std.specs.Prelude.{◌≡◌, ℕ, not, nat_le, List, ◌∷◌, length, slice_index_or, Some, Ok}
use Rattle.std.proofs.Common.{ap, refl, sym, subst, ◌∙◌}
use Rattle.base_fields.proofs.Binds.{bind_ok, or_else_ok, refused_ok, when_ok}
use Rattle.base_fields.specs.Numbers.{IsPowerBetween}
use Rattle.base_fields.specs.Results.{◌>>=◌, or_else, refused_by, when}
use Rattle.bench.proofs.DiskLemmas.{looked_keeps}
use Rattle.bench.specs.Disk.{Disk}
use Rattle.bench.specs.declared.Dev.TheVariants.{Journal}
use Rattle.block_map.specs.Maps.{IsMap}
use Rattle.block_map.specs.Units.{max_units, units_of}
use Rattle.block_map.specs.declared.maps.BlockMap.{BlockMap}
use Rattle.chain_laws.proofs.ChainLemmas.{OnlyNow, ReadsLeave}
use Rattle.chain_laws.specs.Chains.{EndsDone, HasSince, IsChain}
use Rattle.copier.specs.Runs.{IsDone}
use Rattle.copier_course.specs.declared.jobs.CopyJob.{CopyJob}
use Rattle.copy_job.specs.Said.{id_of, is_compressed, job_in, job_of, source_said}
use Rattle.copy_job.specs.declared.faults.CopyJobFault.TheVariants.{Compressed, Missing, Map, TooManyUnits}
use Rattle.copy_states.specs.Jobs.{AreChecked, IsJobOf}
use Rattle.image_laws.proofs.Maps.{mapped_texts, ok_same}
use Rattle.image_laws.proofs.OnTarget.{chains_put}
use Rattle.map_source.specs.Said.{map_said}
use Rattle.map_source.specs.declared.sources.MapSource.{MapSource}
use Rattle.outside.specs.Files.{Tree}
use Rattle.copy_chains.specs.Copies.{IsSaid, common_of}
use Rattle.copy_chains.specs.Laws.{CopiedImagesAreOnTarget, CopiesHaveOneJob, CopyingSaysTheJob, DoneRunsEndChains, LooksAreOfChains, RunsAreOfChains}

-- ---- the job
source_there : (file : Tree) (name bytes : List ℕ) → source_said file name ≡ Ok bytes → file name ≡ Some bytes
source_there file name bytes said =
    let found : (n : List ℕ) × (when (not (is_compressed name)) name Compressed ≡ Ok n) × (or_else (file n) Missing ≡ Ok bytes) =
    bind_ok (when (not (is_compressed name)) name Compressed) (λ (n : List ℕ). or_else (file n) Missing) bytes said in
    subst (λ (n : List ℕ). file n ≡ Some bytes) (sym (when_ok (not (is_compressed name)) name found.0 Compressed found.1).1)
    (or_else_ok (file found.0) bytes Missing found.2)

pub says_job : CopyingSaysTheJob
says_job file request job said =
    let found : (bytes : List ℕ) × (source_said file request.source ≡ Ok bytes) ×
    ((refused_by Map (map_said (file request.map)) >>= job_in request) ≡ Ok job) =
    bind_ok (source_said file request.source) (λ (b : List ℕ). refused_by Map (map_said (file request.map)) >>= job_in request) job said in
    let read : (source : MapSource) × (refused_by Map (map_said (file request.map)) ≡ Ok source) × (job_in request source ≡ Ok job) =
    bind_ok (refused_by Map (map_said (file request.map))) (job_in request) job found.2 in
    record {
      bytes = found.0;
      there = source_there file request.source found.0 found.1;
      source = read.0;
      map = refused_ok Map (map_said (file request.map)) read.0 read.1;
      is = sym (when_ok (nat_le (length (units_of read.0.map request.unit)) max_units) (job_of request read.0) job
          (TooManyUnits (length (units_of read.0.map request.unit)) max_units) read.2).1;
    }

pub one_job : CopiesHaveOneJob
one_job file one other job too source same said said_too =
    let first : IsSaid file one job = says_job file one job said in
    let second : IsSaid file other too = says_job file other too said_too in
    let sources : first.source ≡ second.source =
    ok_same (subst (λ (n : List ℕ). map_said (file n) ≡ Ok first.source) same.map first.map) second.map in
    ap (λ (j : CopyJob). common_of j source) first.is
    ∙ ap (λ (s : MapSource). record { id = id_of s one.unit; map = s.map; source = source }) sources
    ∙ ap (λ (n : ℕ). record { id = id_of second.source n; map = second.source.map; source = source }) same.unit
    ∙ sym (ap (λ (j : CopyJob). common_of j source) second.is)

-- ---- its runs
pub runs_of_chains : {B : Type 0} (told : Type 0) (disk : B → Disk) → RunsAreOfChains told disk
runs_of_chains told disk file source job old new is keeps = λ before. keeps source before is

pub looks_of_chains : {B : Type 0} (disk : B → Disk) → LooksAreOfChains disk
looks_of_chains disk job old new looked = λ before. looked_keeps {P = HasSince job before} looked

pub done_runs : {B : Type 0} (disk : B → Disk) → DoneRunsEndChains disk
done_runs disk job source new done = record { checked = done.checked; target = done.target; journal = done.journal }

-- ---- the image
is_job : (source : MapSource) (unit : ℕ) → IsMap source.map → IsPowerBetween 65536 4194304 unit → IsJobOf (id_of source unit) source.map
is_job source unit map power = record { map = map; unit = power; size = refl; block = refl; units = refl; ranges = refl }

done_as : (job as_said : CopyJob) (bytes : List ℕ) (new : Disk) → job ≡ as_said → IsDone job new → EndsDone (common_of as_said (Some bytes)) new
done_as job as_said bytes new same done = record {
  checked = subst (λ (j : CopyJob). AreChecked j.id (new.reads Journal)) same done.checked;
  target = done.target;
  journal = done.journal;
}

pub copied_images : {B : Type 0} (disk : B → Disk) → OnlyNow disk → ReadsLeave disk → CopiedImagesAreOnTarget disk
copied_images disk only reads graph texts name out block before built after image spec request job bytes first later of_map choice words said there chain k d below done =
    let says : IsSaid after request job = says_job after request job said in
    let read : map_said (after out) ≡ Ok says.source = subst (λ (n : List ℕ). map_said (after n) ≡ Ok says.source) words.map says.map in
    let sound : IsMap says.source.map =
    subst (λ (m : BlockMap). IsMap m) (sym (mapped_texts image block (after out) of_map.mapped says.source of_map.map read)) of_map.map.sound in
    chains_put disk only reads graph texts name out block before built after image spec bytes says.source
    (id_of says.source request.unit) first later of_map choice (record { bytes_are = there; map = read })
    (is_job says.source request.unit sound words.unit)
    (subst (λ (j : CopyJob). IsChain disk (common_of j (Some bytes)) first later) says.is chain) k d below
    (done_as job (job_of request says.source) bytes (disk (slice_index_or (first ∷ later) k d).new) says.is done)
