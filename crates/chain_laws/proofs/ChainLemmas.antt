-- Runs that go on where the one before was left.
use Rattle.std.specs.Prelude.{slice_index_or}
use Rattle.std.proofs.Common.{◌≡◌, ℕ, List, [], ◌∷◌, inl, inr, refl, sym, subst, arith}
use Rattle.std.specs.List.{AllByRecursion}
use Rattle.std.proofs.lemmas.List.Elements.{All-from_recursion}
use Rattle.bench.proofs.DiskLemmas.{runs_since}
use Rattle.bench.specs.declared.Dev.{Dev}
use Rattle.bench.specs.declared.Dev.TheVariants.{Target, Journal}
use Rattle.bench.specs.Disk.{Disk, EachPair, Elapses, IsPair}
use Rattle.copy_laws.proofs.Events.{done_is_copied, first_start}
use Rattle.copy_states.specs.Jobs.{IsJobOf}
use Rattle.copy_states.specs.Standing.{Since}
use Rattle.chain_laws.specs.Chains.{EndsDone, GoOn, GoesOn, HasSince, HoldsCopy, HoldsIn, IsDoneCopy, IsRunOf, Job, Run, before_of}
use Rattle.chain_laws.specs.Laws.{BenchesStand, ChainsKeepSince, DoneChainsAreCopied, FirstStartsHaveSince, UninterruptedAreCopied}

-- the laws of a bench that are used
abbrev pub OnlyNow : {B : Type 0} → (B → Disk) → Type 0
OnlyNow {B} disk = (bench : B) (t j : List ℕ) → (disk bench).left (disk bench).moment t j → IsPair (disk bench) t j

abbrev pub ReadsLeave : {B : Type 0} → (B → Disk) → Type 0
ReadsLeave {B} disk = (bench : B) (dev : Dev) → (disk bench).leaves dev ((disk bench).reads dev)

-- ---- one run
-- a first start has Since
pub first_starts : {B : Type 0} (disk : B → Disk) → FirstStartsHaveSince disk
first_starts disk job bench start t j pair =
    subst (λ (before : List ℕ). Since job.id job.map job.source before t j) (start.target t pair.0)
    (first_start job.id job.map job.source t j (start.journal j pair.1))

-- nothing is written to a bench as it stands
time_stands : (a : Disk) → Elapses a a (IsPair a)
time_stands a = record { later = omega arith; since = λ m t j le left. inl left; kept = λ m t j le left. left }

pub stands : {B : Type 0} (disk : B → Disk) → BenchesStand disk
stands disk bench = record { reads = refl; images = λ dev image leaves. leaves; time = time_stands (disk bench) }

-- a run keeps what each pair at its start has
holds_in : {B : Type 0} (disk : B → Disk) → OnlyNow disk → (job : Job) (before : List ℕ) (run : Run B) →
    IsRunOf job (disk run.old) (disk run.new) → EachPair (disk run.old) (HasSince job before) →
    HoldsIn (HasSince job before) (disk run.old) (disk run.new)
holds_in disk only job before run of_job each = record {
  since = runs_since {a = disk run.old} {b = disk run.new} {P = HasSince job before} (only run.old) each (of_job before each);
  now = (of_job before each).now;
}

-- where it goes on, each pair has that again
on_pair : (P : List ℕ → List ℕ → Type 0) (next : Disk) → P (next.reads Target) (next.reads Journal) → (t j : List ℕ) →
    t ≡ next.reads Target → j ≡ next.reads Journal → P t j
on_pair P next has t j of_target of_journal =
    subst (λ (x : List ℕ). P x j) (sym of_target) (subst (λ (y : List ℕ). P (next.reads Target) y) (sym of_journal) has)

goes_on : (P : List ℕ → List ℕ → Type 0) (old new next : Disk) → HoldsIn P old new → GoesOn old new next → EachPair next P
goes_on P old new next holds (inl looked) t j pair =
    holds.now t j (looked.images Target t pair.0, looked.images Journal j pair.1)
goes_on P old new next holds (inr stopped) t j pair =
    on_pair P next (holds.since (next.reads Target) (next.reads Journal) stopped.left) t j (stopped.target t pair.0)
    (stopped.journal j pair.1)

-- ---- all of a chain
all_hold : {B : Type 0} (disk : B → Disk) → OnlyNow disk →
    (job : Job) (before : List ℕ) (run : Run B) (runs : List (Run B)) →
    HoldsIn (HasSince job before) (disk run.old) (disk run.new) → GoOn disk job run runs →
    AllByRecursion (λ (r : Run B). HoldsIn (HasSince job before) (disk r.old) (disk r.new)) (run ∷ runs)
all_hold disk only job before run [] holds on = (holds, tt)
all_hold disk only job before run (next ∷ runs) holds on = (
  holds,
  all_hold disk only job before next runs
      (holds_in disk only job before next on.1
      (goes_on (HasSince job before) (disk run.old) (disk run.new) (disk next.old) holds on.0)) on.2,
)

pub chains : {B : Type 0} (disk : B → Disk) → OnlyNow disk → ChainsKeepSince disk
chains disk only job first later chain =
    All-from_recursion (λ (r : Run _). HoldsIn (HasSince job (before_of disk first)) (disk r.old) (disk r.new)) (first ∷ later)
    (all_hold disk only job (before_of disk first) first later
    (holds_in disk only job (before_of disk first) first chain.run (first_starts disk job first.old chain.start)) chain.on)

-- ---- done
done_copy : (job : Job) (before : List ℕ) (new : Disk) → ((dev : Dev) → new.leaves dev (new.reads dev)) →
    IsJobOf job.id job.map → EachPair new (HasSince job before) → EndsDone job new →
    IsDoneCopy job before (new.reads Target) (new.reads Journal)
done_copy job before new reads of_map each ends =
    let since : HasSince job before (new.reads Target) (new.reads Journal) = each (new.reads Target) (new.reads Journal) (reads Target, reads Journal) in
    record {
      copied = done_is_copied job.id job.map job.source before (new.reads Target) (new.reads Journal) of_map ends.checked since;
      rest = since.rest;
    }

holds_copy : (job : Job) (before : List ℕ) (new : Disk) → ((dev : Dev) → new.leaves dev (new.reads dev)) →
    IsJobOf job.id job.map → EachPair new (HasSince job before) → EndsDone job new → HoldsCopy job before new
holds_copy job before new reads of_map each ends =
    let done : IsDoneCopy job before (new.reads Target) (new.reads Journal) = done_copy job before new reads of_map each ends in
    record {
      reads = done;
      each = λ t j pair. on_pair (IsDoneCopy job before) new done t j (ends.target t pair.0) (ends.journal j pair.1);
    }

pub done_chains : {B : Type 0} (disk : B → Disk) → OnlyNow disk → ReadsLeave disk → DoneChainsAreCopied disk
done_chains disk only reads job first later of_map chain k d lt ends =
    let run = slice_index_or (first ∷ later) k d in
    holds_copy job (before_of disk first) (disk run.new) (reads run.new) of_map (chains disk only job first later chain k d lt).now ends

pub uninterrupted : {B : Type 0} (disk : B → Disk) → OnlyNow disk → ReadsLeave disk → UninterruptedAreCopied disk
uninterrupted disk only reads job run of_map start of_job ends =
    holds_copy job (before_of disk run) (disk run.new) (reads run.new) of_map
    (holds_in disk only job (before_of disk run) run of_job (first_starts disk job run.old start)).now ends
