-- What is kept where a journal is forgotten.
use Rattle.std.proofs.Common.{ℕ, List, Option, inl, ⊎_elim}
use Rattle.bench.specs.Disk.{Disk, Keeps, Moves}
use Rattle.bench.specs.declared.Dev.TheVariants.{Target, Journal}
use Rattle.bench.proofs.DiskLemmas.{journal_runs}
use Rattle.block_map.specs.declared.maps.BlockMap.{BlockMap}
use Rattle.journal_format.specs.declared.jobs.JobId.{JobId}
use Rattle.copy_journal.specs.Events.{IsForgetting}
use Rattle.copy_laws.proofs.Events.{unheld_stands}
use Rattle.copy_stages.specs.Stages.{KeepsOwn}
use Rattle.copy_states.specs.Standing.{Since}

pub forgetting_keeps_since : {a b : Disk} → a.leaves Journal (a.reads Journal) → Moves (IsForgetting a) a b →
    (id : JobId) (m : BlockMap) (source : Option (List ℕ)) (before : List ℕ) → Keeps (Since id m source before) a b
forgetting_keeps_since {a} {b} reads moves id m source before each =
    journal_runs moves (λ t j leaves is. ⊎_elim (λ was. each t j (leaves, was)) (λ none. record {
      standing = unheld_stands id m source t j none;
      rest = (each t (a.reads Journal) (leaves, reads)).rest;
    }) is)

pub forgetting_keeps_own : {a b : Disk} → a.leaves Target (a.reads Target) → Moves (IsForgetting a) a b → (id : JobId) →
    KeepsOwn id a b
forgetting_keeps_own {a} {b} reads moves id each =
    journal_runs moves (λ t j leaves is. ⊎_elim (λ was. each t j (leaves, was)) (λ none. inl none) is)
