-- What an answer says of a sparse image that is written.
use Rattle.std.specs.Prelude.{◌≡◌, ℕ, ◌*◌, List, [], Option, None, Some, unwrap_or, Result, Ok, Err}
use Rattle.base_fields.specs.declared.spans.Span.{Span}
use Rattle.outside.specs.Files.{Tree, IsThere, bytes_of}
use Rattle.outside.specs.declared.files.ComposeFault.{ComposeFault}
use Rattle.outside.specs.declared.files.ComposeFault.TheVariants.{Missing, FileFault, SourceShort, NoMemory}
use Rattle.sparse_chunks.specs.declared.progress.Progress.{Progress}
use Rattle.sparse_chunks.specs.Progress.{IsWritten, done_after}
use Rattle.sparse_text.specs.Text.{IsSparseText}
use Rattle.sparse_windows.specs.Windows.{HasNeeded, IsFirstLack, sized}

module _ (cover : List Span) (block size : ℕ) where
  -- a refusal is that of the source
  abbrev pub IsRefusal : Option (List ℕ) → ComposeFault → Type 0
  IsRefusal from (Missing part) = from ≡ None
  IsRefusal from (SourceShort part at) = (from ≡ Some (unwrap_or from [])) × IsFirstLack cover block size (unwrap_or from []) at
  IsRefusal from FileFault = Unit {0}
  IsRefusal from NoMemory = Unit {0}

  -- the blocks so far are written, and their needed bytes are there
  abbrev pub IsSoFar : Option (List ℕ) → Progress → List ℕ → Type 0
  IsSoFar from p written = HasNeeded cover block size (done_after p.last * block) (unwrap_or from []) × IsWritten (sized size (unwrap_or from [])) cover block p written

  -- one more stretch of blocks is written; or the answer is the source's refusal, or a call failed
  abbrev pub GoesOn : Option (List ℕ) → Progress → List ℕ → Progress → List ℕ → Result Unit ComposeFault → Type 0
  GoesOn from p old q new (Ok done) = IsSoFar from p old → IsSoFar from q new
  GoesOn from p old q new (Err refusal) = HasNeeded cover block size (done_after p.last * block) (unwrap_or from []) → IsRefusal from refusal

  -- the blocks that were left are written; or the answer is the source's refusal, or a call failed
  abbrev pub Ends : Option (List ℕ) → Progress → List ℕ → Progress → List ℕ → Result Unit ComposeFault → Type 0
  Ends from p old q new (Ok done) = IsSoFar from p old → IsSoFar from q new
  Ends from p old q new (Err refusal) = IsSoFar from p old → IsRefusal from refusal

  -- the sparse file is written, and each needed byte was there; or the answer is the source's refusal, or a call failed
  abbrev pub Writes : List ℕ → List ℕ → Tree → Tree → Result Unit ComposeFault → Type 0
  Writes from to old new (Ok done) =
      IsThere old from (HasNeeded cover block size size (bytes_of old from))
      × IsThere new to (IsSparseText (sized size (bytes_of old from)) cover block (bytes_of new to))
  Writes from to old new (Err refusal) = IsRefusal (old from) refusal

-- a refusal of a write: nothing is said of the source
abbrev pub IsOfWriting : ComposeFault → Type 0
IsOfWriting FileFault = Unit {0}
IsOfWriting NoMemory = Unit {0}
IsOfWriting refusal = ⊥

-- the source is there; or the answer is that it isn't, or a call failed
abbrev pub IsLookedFor : Option (List ℕ) → Result Unit ComposeFault → Type 0
IsLookedFor from (Ok done) = from ≡ Some (unwrap_or from [])
IsLookedFor from (Err (Missing part)) = from ≡ None
IsLookedFor from (Err (SourceShort part at)) = ⊥
IsLookedFor from (Err FileFault) = Unit {0}
IsLookedFor from (Err NoMemory) = ⊥
