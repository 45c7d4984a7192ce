-- What a run finds at its start, and what it is to do: s is the source's bytes.
use Rattle.std.specs.Prelude.{◌≡◌, ℕ, ◌<◌, List, Some}
use Rattle.base_fields.specs.declared.spans.Span.{Span}
use Rattle.block_map.specs.Maps.{digest_in}
use Rattle.block_map.specs.declared.maps.BlockMap.{BlockMap}
use Rattle.block_map.specs.declared.maps.Range.{Range}
use Rattle.journal_format.specs.declared.jobs.JobId.{JobId}
use Rattle.copy_states.specs.Jobs.{HasFrom, IsInRange, IsRangeAt, IsRecorded, IsUnchecked, IsUnitAt}

-- what target and journal read
pub record Pair : Type 0 where
  pub target : List ℕ
  pub journal : List ℕ

-- unit k is idle: it isn't recorded at the start, and its range isn't checked there
pub record IsIdle (id : JobId) (m : BlockMap) (start : Pair) (k : ℕ) : Type 0 where
  pub there : k < id.units
  pub unrecorded : ¬ IsRecorded id k start.journal
  pub unchecked : IsUnchecked id m k start.journal

-- An image has Mixed in range r: at each of its units the target's bytes at the start where the unit was recorded
-- there, else the source's.
pub record HasMixed (id : JobId) (m : BlockMap) (s : List ℕ) (start : Pair) (r : ℕ) (image : List ℕ) : Type 0 where
  pub kept : (k : ℕ) (u : Span) → IsInRange id m k r → IsUnitAt id m k u →
      IsRecorded id k start.journal → HasFrom u start.target image
  pub written : (k : ℕ) (u : Span) → IsInRange id m k r → IsUnitAt id m k u →
      ¬ IsRecorded id k start.journal → HasFrom u s image

-- range r has this digest in the map, and the SHA-256 of its Mixed is that
pub record MixedGives (id : JobId) (m : BlockMap) (s : List ℕ) (start : Pair) (r : ℕ) (want got : List ℕ) : Type 0 where
  pub range : Range
  pub image : List ℕ
  pub is : IsRangeAt m r range
  pub stated : range.digest ≡ Some want
  pub mixed : HasMixed id m s start r image
  pub computed : got ≡ digest_in m image range
