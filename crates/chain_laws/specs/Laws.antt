-- The laws over chains of runs, of benches of any type that tell what their devices read and what a stop may leave.
use Rattle.std.specs.Prelude.{List, ◌∷◌, All}
use Rattle.bench.specs.declared.Dev.TheVariants.{Target}
use Rattle.bench.specs.Disk.{Disk, EachPair, Looked}
use Rattle.copy_states.specs.Jobs.{IsJobOf}
use Rattle.chain_laws.specs.Chains.{EndsDone, HasSince, HoldsCopy, HoldsIn, IsChain, IsFirstStart, IsRunOf, Job, Run, before_of}

-- ---- first starts
-- each pair at a first start has Since, with what the target reads there as what it read before
abbrev pub FirstStartsHaveSince : {B : Type 0} → (B → Disk) → Type 0
FirstStartsHaveSince {B} disk = (job : Job) (bench : B) → IsFirstStart (disk bench) →
    EachPair (disk bench) (HasSince job ((disk bench).reads Target))

-- ---- chains
-- a bench as it stands is one that nothing was written to
abbrev pub BenchesStand : {B : Type 0} → (B → Disk) → Type 0
BenchesStand {B} disk = (bench : B) → Looked (disk bench) (disk bench)

-- in each run of a chain each pair that a stop since its start may have left, and each pair at its end, has Since, with
-- what the target read at the first start
abbrev pub ChainsKeepSince : {B : Type 0} → (B → Disk) → Type 0
ChainsKeepSince {B} disk = (job : Job) (first : Run B) (later : List (Run B)) → IsChain disk job first later →
    All (λ run. HoldsIn (HasSince job (before_of disk first)) (disk run.old) (disk run.new)) (first ∷ later)

-- ---- done
-- where a run of a chain answers done, the copy is done
abbrev pub DoneChainsAreCopied : {B : Type 0} → (B → Disk) → Type 0
DoneChainsAreCopied {B} disk = (job : Job) (first : Run B) (later : List (Run B)) → IsJobOf job.id job.map →
    IsChain disk job first later →
    All (λ run. EndsDone job (disk run.new) → HoldsCopy job (before_of disk first) (disk run.new)) (first ∷ later)

-- so it is where the one run from a first start does, which nothing interrupts
abbrev pub UninterruptedAreCopied : {B : Type 0} → (B → Disk) → Type 0
UninterruptedAreCopied {B} disk = (job : Job) (run : Run B) → IsJobOf job.id job.map → IsFirstStart (disk run.old) →
    IsRunOf job (disk run.old) (disk run.new) → EndsDone job (disk run.new) →
    HoldsCopy job (before_of disk run) (disk run.new)
