-- What holds of each pair of images that a stop may leave: t is one of the target, j one of the journal. The source's
-- bytes are None where they aren't told; before is what the target read at the first start.
use Rattle.std.specs.Prelude.{◌≡◌, ℕ, ◌<◌, List, length, Option, IfSome, IsTrue, slice_get, slice_index}
use Rattle.base_fields.specs.declared.spans.Span.{Span}
use Rattle.block_map.specs.Maps.{digest_in, is_mapped}
use Rattle.block_map.specs.declared.maps.BlockMap.{BlockMap}
use Rattle.block_map.specs.declared.maps.Range.{Range}
use Rattle.journal_format.specs.declared.jobs.JobId.{JobId}
use Rattle.copy_states.specs.Jobs.{AreChecked, AreRecorded, HasFrom, IsChecked, IsRangeAt, IsRecorded, IsUnitAt}

-- a range that has a digest has it on the target
abbrev pub HasItsDigest : BlockMap → List ℕ → Range → Type 0
HasItsDigest m t range = IfSome range.digest (λ digest. digest ≡ digest_in m t range)

-- part A: every checked range that has a digest has it on the target
abbrev pub CheckedAreRight : JobId → BlockMap → List ℕ → List ℕ → Type 0
CheckedAreRight id m t j = (r : ℕ) (range : Range) → IsRangeAt m r range → IsChecked id r j → HasItsDigest m t range

-- part B: every recorded unit of the target is the source's bytes at that place
abbrev pub RecordedAreCopied : JobId → BlockMap → Option (List ℕ) → List ℕ → List ℕ → Type 0
RecordedAreCopied id m source t j =
    IfSome source (λ s. (k : ℕ) (u : Span) → IsUnitAt id m k u → IsRecorded id k j → HasFrom u s t)

-- part C: every unit of a checked range is recorded
abbrev pub CheckedAreRecorded : JobId → BlockMap → List ℕ → Type 0
CheckedAreRecorded id m j = (r : ℕ) → IsChecked id r j → AreRecorded id m r j

-- a pair stands: of a journal that isn't opened for the job nothing is recorded or checked, so nothing is said
pub record Standing (id : JobId) (m : BlockMap) (source : Option (List ℕ)) (t j : List ℕ) : Type 0 where
  pub digests : CheckedAreRight id m t j
  pub bytes : RecordedAreCopied id m source t j
  pub marks : CheckedAreRecorded id m j

-- the target has the length that it had before, and its bytes off the mapped ones
pub record SameOffMap (m : BlockMap) (before t : List ℕ) : Type 0 where
  pub size : length t ≡ length before
  pub bytes : (o : ℕ) → ¬ IsTrue (is_mapped m o) → slice_index t o ≡ slice_index before o

-- a pair of a copy that was first started on this target
pub record Since (id : JobId) (m : BlockMap) (source : Option (List ℕ)) (before t j : List ℕ) : Type 0 where
  pub standing : Standing id m source t j
  pub rest : SameOffMap m before t

-- ---- done
-- the byte at an offset is the source's, which has one there
pub record IsByteOf (s t : List ℕ) (o : ℕ) : Type 0 where
  pub there : o < length s
  pub same : slice_get t o ≡ slice_get s o

-- the mapped bytes are
abbrev pub MappedAreCopied : BlockMap → Option (List ℕ) → List ℕ → Type 0
MappedAreCopied m source t = IfSome source (λ s. (o : ℕ) → IsTrue (is_mapped m o) → IsByteOf s t o)

-- every range that has a digest has it
abbrev pub AllAreRight : BlockMap → List ℕ → Type 0
AllAreRight m t = (r : ℕ) (range : Range) → IsRangeAt m r range → HasItsDigest m t range

-- the copy is done: every range is checked, each digest holds, and the mapped bytes are the source's
pub record Copied (id : JobId) (m : BlockMap) (source : Option (List ℕ)) (t j : List ℕ) : Type 0 where
  pub checked : AreChecked id j
  pub digests : AllAreRight m t
  pub bytes : MappedAreCopied m source t
