-- The maximal runs of blocks of the same content.
use Rattle.std.specs.Prelude.{◌≡◌, ℕ, ◌+◌, ◌<◌, ◌≤◌, List, [], ◌∷◌}
use Rattle.sparse_text.specs.declared.runs.Content.{Content}
use Rattle.sparse_text.specs.declared.runs.Content.TheVariants.{Raw}
use Rattle.sparse_text.specs.declared.runs.Run.{Run}

-- blocks from a first one on, each of which has the run's content; raw ones are at most so many
pub record IsRun (has : ℕ → Content → Type 0) (most first : ℕ) (r : Run) : Type 0 where
  pub begins : r.first ≡ first
  pub some : 0 < r.count
  pub alike : (b : ℕ) → first ≤ b → b < first + r.count → has b r.content
  pub short : r.content ≡ Raw → r.count ≤ most

-- a run is as long as it may be: the next one has another content, or it is raw and has the most blocks
abbrev pub Ends : ℕ → Run → Run → Type 0
Ends most r next = r.content ≡ next.content → (r.content ≡ Raw) × (r.count ≡ most)

abbrev pub EndsBefore : ℕ → Run → List Run → Type 0
EndsBefore most r [] = Unit {0}
EndsBefore most r (next ∷ rest) = Ends most r next

-- the maximal runs of the blocks from a first one up to an end
abbrev pub AreRuns : (ℕ → Content → Type 0) → ℕ → ℕ → ℕ → List Run → Type 0
AreRuns has most first end [] = first ≡ end
AreRuns has most first end (r ∷ rest) = IsRun has most first r × EndsBefore most r rest × AreRuns has most (first + r.count) end rest

-- a run has a block, with that block's content
abbrev pub Shows : (ℕ → Content → Type 0) → ℕ → Run → Type 0
Shows has b r = (r.first ≤ b) × (b < r.first + r.count) × has b r.content
