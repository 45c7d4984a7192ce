-- How a run that meets no fault of a device ends: s is the source's bytes.
use Rattle.std.specs.Prelude.{◌≢◌, ℕ, ◌<◌, ◌≤◌, List, length, IfSome, IsTrue}
use Rattle.base_fields.specs.declared.spans.Span.{Span}
use Rattle.span_cover.specs.Cover.{has}
use Rattle.block_map.specs.declared.maps.BlockMap.{BlockMap}
use Rattle.block_map.specs.declared.maps.Range.{Range}
use Rattle.journal_format.specs.declared.jobs.JobId.{JobId}
use Rattle.copy_states.specs.Jobs.{IsChecked, IsInRange, IsRangeAt, IsUnitAt}
use Rattle.copy_states.specs.Starts.{IsIdle, MixedGives, Pair}

-- an idle unit of range r needs the source's byte at this offset
pub record Needs (id : JobId) (m : BlockMap) (start : Pair) (r o : ℕ) : Type 0 where
  pub number : ℕ
  pub span : Span
  pub idle : IsIdle id m start number
  pub mine : IsInRange id m number r
  pub is : IsUnitAt id m number span
  pub has : IsTrue (has span o)

-- range r is left for the run: it isn't checked at the start
pub record IsLeft (id : JobId) (start : Pair) (r : ℕ) : Type 0 where
  pub there : r < id.ranges
  pub unchecked : ¬ IsChecked id r start.journal

-- the source has each byte that the range needs
abbrev pub HasNeeds : JobId → BlockMap → List ℕ → Pair → ℕ → Type 0
HasNeeds id m s start r = (o : ℕ) → Needs id m start r o → o < length s

-- nothing refuses the range: the source has what it needs, and its digest, where it has one, is that of its Mixed
pub record Passes (id : JobId) (m : BlockMap) (s : List ℕ) (start : Pair) (r : ℕ) : Type 0 where
  pub needs : HasNeeds id m s start r
  pub digest : (range : Range) → IsRangeAt m r range →
      IfSome range.digest (λ want. MixedGives id m s start r want want)

-- range r is left, and nothing refuses those left before it
pub record IsFirst (id : JobId) (m : BlockMap) (s : List ℕ) (start : Pair) (r : ℕ) : Type 0 where
  pub left : IsLeft id start r
  pub before : (earlier : ℕ) → earlier < r → IsLeft id start earlier → Passes id m s start earlier

-- the outcome is that the source is short: this is the first needed offset of the range that it lacks
pub record EndsShort (id : JobId) (m : BlockMap) (s : List ℕ) (start : Pair) (at : ℕ) : Type 0 where
  pub range : ℕ
  pub first : IsFirst id m s start range
  pub needed : Needs id m start range at
  pub lacks : length s ≤ at
  pub least : (o : ℕ) → Needs id m start range o → o < at → o < length s

-- the outcome is that range r differs
pub record EndsDiffering (id : JobId) (m : BlockMap) (s : List ℕ) (start : Pair) (r : ℕ) (want got : List ℕ)
    : Type 0 where
  pub first : IsFirst id m s start r
  pub needs : HasNeeds id m s start r
  pub mixed : MixedGives id m s start r want got
  pub differs : want ≢ got

-- the outcome is that the run is done
abbrev pub EndsDone : JobId → BlockMap → List ℕ → Pair → Type 0
EndsDone id m s start = (r : ℕ) → IsLeft id start r → Passes id m s start r
