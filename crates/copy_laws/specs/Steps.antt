-- What a step that is Ok keeps of the copier's way: it is along at its next position.
use Rattle.std.specs.Prelude.{ℕ, ◌+◌, ◌<◌, List, [], ◌∷◌, ◌++◌, Option, IfSome, Contains, length}
use Rattle.base_fields.specs.declared.spans.Span.{Span}
use Rattle.block_map.specs.declared.maps.BlockMap.{BlockMap}
use Rattle.journal_format.specs.declared.jobs.JobId.{JobId}
use Rattle.copy_states.specs.Along.{Along, Position}
use Rattle.copy_states.specs.Jobs.{HasFrom, IsInRange, IsJobOf, IsRecorded, IsUnitAt}
use Rattle.copy_states.specs.Starts.{IsIdle, Pair}
use Rattle.copy_laws.specs.Marks.{MarksTorn}
use Rattle.copy_laws.specs.Writes.{UnitsTorn}

-- the position behind the present unit: with the same window; with the unit in it; with the window closed
abbrev pub passed : Position → Position
passed p = record p { unit = p.unit + 1 }

abbrev pub joined_window : Position → List ℕ
joined_window p = p.window ++ p.unit ∷ []

abbrev pub taken : Position → Position
taken p = record p { unit = p.unit + 1; window = joined_window p }

abbrev pub closed : Position → Position
closed p = record p { unit = p.unit + 1; window = [] }

-- the present unit is written to the target, with the source's bytes where these are told
pub record IsWritten (id : JobId) (m : BlockMap) (source : Option (List ℕ)) (start : Pair) (p : Position)
    (t t_new : List ℕ) : Type 0 where
  pub idle : IsIdle id m start p.unit
  pub mine : IsInRange id m p.unit p.range
  pub torn : UnitsTorn id m (p.unit ∷ []) t t_new
  pub copied : IfSome source (λ s. (u : Span) → IsUnitAt id m p.unit u → HasFrom u s t_new)

-- a unit that isn't idle is passed
abbrev pub KeptIsAlong : Type 0
KeptIsAlong = (id : JobId) (m : BlockMap) (source : Option (List ℕ)) (start : Pair) (w : ℕ) (p : Position)
    (t j : List ℕ) → Along id m source start w p t j → ¬ IsIdle id m start p.unit →
    Along id m source start w (passed p) t j

-- a unit is written and joins the window, which stays open
abbrev pub TakenIsAlong : Type 0
TakenIsAlong = (id : JobId) (m : BlockMap) (source : Option (List ℕ)) (start : Pair) (w : ℕ) (p : Position)
    (t t_new j : List ℕ) → IsJobOf id m → Along id m source start w p t j → length p.window + 1 < w →
    IsWritten id m source start p t t_new → Along id m source start w (taken p) t_new j

-- a unit is written, and with it the window is closed
abbrev pub ClosedIsAlong : Type 0
ClosedIsAlong = (id : JobId) (m : BlockMap) (source : Option (List ℕ)) (start : Pair) (w : ℕ) (p : Position)
    (t t_new j j_new : List ℕ) → IsJobOf id m → Along id m source start w p t j →
    IsWritten id m source start p t t_new → MarksTorn (joined_window p) j j_new →
    ((k : ℕ) → Contains (joined_window p) k → IsRecorded id k j_new) →
    Along id m source start w (closed p) t_new j_new
