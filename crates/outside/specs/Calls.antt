-- Which calls of an object in memory fail.
use Rattle.std.specs.Prelude.{◌≡◌, ℕ, ◌+◌, ◌-◌, ◌^◌, ◌∷◌, ◌++◌, List, [], Option, None, Some, min}

-- the number of the next call, the numbers of those that fail, and how many have failed
pub record Calls : Type 0 where
  pub next : ℕ
  pub failing : List ℕ
  pub faults : ℕ

-- those of an object that was just made: its first call has the number 0, and none fails
abbrev pub unused : Calls
unused = record { next = 0; failing = []; faults = 0 }

-- the call of this number fails too
abbrev pub listing : Calls → ℕ → Calls
listing calls call = record calls { failing = calls.failing ++ call ∷ [] }

-- one more, up to the greatest number of 64 bits
abbrev pub more : ℕ → ℕ
more n = min (n + 1) (2 ^ 64 - 1)

-- a call takes the next number, and those that are listed stay
pub record IsNext (old new : Calls) : Type 0 where
  pub next : new.next ≡ more old.next
  pub failing : new.failing ≡ old.failing

-- how many more calls pass after one more, where that was said
abbrev pub one_less : Option ℕ → Option ℕ
one_less None = None
one_less (Some calls) = Some (calls - 1)
