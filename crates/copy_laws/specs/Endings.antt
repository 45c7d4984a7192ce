-- Mixed is one, and so is the outcome of a run.
use Rattle.std.specs.Prelude.{◌≡◌, ℕ, List}
use Rattle.block_map.specs.declared.maps.BlockMap.{BlockMap}
use Rattle.journal_format.specs.declared.jobs.JobId.{JobId}
use Rattle.copy_states.specs.Jobs.{IsJobOf}
use Rattle.copy_states.specs.Outcomes.{EndsDiffering, EndsDone, EndsShort}
use Rattle.copy_states.specs.Starts.{MixedGives, Pair}

-- both digests of a range are determined
abbrev pub MixedIsOne : Type 0
MixedIsOne = (id : JobId) (m : BlockMap) (s : List ℕ) (start : Pair) (r : ℕ) (want got want_too got_too : List ℕ) →
    IsJobOf id m → MixedGives id m s start r want got → MixedGives id m s start r want_too got_too →
    (want ≡ want_too) × (got ≡ got_too)

-- a run has one outcome at most, and what it tells is determined
pub record HasOneOutcome (id : JobId) (m : BlockMap) (s : List ℕ) (start : Pair) : Type 0 where
  pub short : (at too : ℕ) → EndsShort id m s start at → EndsShort id m s start too → at ≡ too
  pub differing : (r x : ℕ) (want got want_too got_too : List ℕ) → EndsDiffering id m s start r want got →
      EndsDiffering id m s start x want_too got_too → (r ≡ x) × (want ≡ want_too) × (got ≡ got_too)
  pub short_isnt_done : (at : ℕ) → EndsShort id m s start at → ¬ EndsDone id m s start
  pub differing_isnt_done : (r : ℕ) (want got : List ℕ) → EndsDiffering id m s start r want got →
      ¬ EndsDone id m s start
  pub short_isnt_differing : (at r : ℕ) (want got : List ℕ) → EndsShort id m s start at →
      ¬ EndsDiffering id m s start r want got

abbrev pub OneOutcome : Type 0
OneOutcome = (id : JobId) (m : BlockMap) (s : List ℕ) (start : Pair) → IsJobOf id m → HasOneOutcome id m s start
