-- What the write of a unit gives a copier on its way: it is written, as the laws of the copier's steps ask.
use Rattle.std.specs.Prelude.{◌≡◌, ℕ, ◌+◌, ◌≤◌, List, Option, IfSome, length}
use Rattle.base_fields.specs.Fields.{written}
use Rattle.base_fields.specs.declared.spans.Span.{Span}
use Rattle.bench.specs.declared.Dev.TheVariants.{Target}
use Rattle.bench.specs.Disk.{Disk, Touches}
use Rattle.block_map.specs.Maps.{part_of}
use Rattle.block_map.specs.declared.maps.BlockMap.{BlockMap}
use Rattle.journal_format.specs.declared.jobs.JobId.{JobId}
use Rattle.copy_states.specs.Along.{Position}
use Rattle.copy_states.specs.Jobs.{IsInRange, IsUnitAt}
use Rattle.copy_states.specs.Starts.{IsIdle, Pair}
use Rattle.copy_laws.specs.Steps.{IsWritten}

-- these are the source's bytes at a unit, which it has
pub record AreFrom (u : Span) (s bytes : List ℕ) : Type 0 where
  pub there : u.at + u.len ≤ length s
  pub same : bytes ≡ part_of u s

-- the present unit, which is idle, and its bytes, which fit on the target and are the source's where these are told
pub record IsToWrite (id : JobId) (m : BlockMap) (source : Option (List ℕ)) (start : Pair) (p : Position) (u : Span)
    (bytes t : List ℕ) : Type 0 where
  pub idle : IsIdle id m start p.unit
  pub mine : IsInRange id m p.unit p.range
  pub is : IsUnitAt id m p.unit u
  pub whole : length bytes ≡ u.len
  pub inside : u.at + u.len ≤ length t
  pub copied : IfSome source (λ s. AreFrom u s bytes)

abbrev pub WritesAreWritten : Disk → Disk → Type 0
WritesAreWritten old new = (id : JobId) (m : BlockMap) (source : Option (List ℕ)) (start : Pair) (p : Position)
    (u : Span) (bytes : List ℕ) → IsToWrite id m source start p u bytes (old.reads Target) →
    Touches Target u.at (length bytes) old new → new.reads Target ≡ written (old.reads Target) u.at bytes →
    IsWritten id m source start p (old.reads Target) (new.reads Target)
