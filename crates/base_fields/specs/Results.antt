-- Steps that may refuse, one after another, and what is there only where it passes.
use Rattle.std.specs.Prelude.{ℕ, Bool, Option, None, Some, Result, Ok, Err, if◌then◌else◌}

-- the next step, where this one has passed
infixl 10 ◌>>=◌
abbrev pub ◌>>=◌ : {A B E : Type 0} → Result A E → (A → Result B E) → Result B E
(Ok x) >>= f = f x
(Err e) >>= f = Err e

-- what is there, or the refusal
abbrev pub or_else : {A E : Type 0} → Option A → E → Result A E
or_else None refusal = Err refusal
or_else (Some x) refusal = Ok x

-- what has passed, or the refusal
abbrev pub when : {A E : Type 0} → Bool → A → E → Result A E
when passes x refusal = if passes then Ok x else Err refusal

-- the same with another refusal
abbrev pub refused_by : {A D E : Type 0} → (D → E) → Result A D → Result A E
refused_by f (Ok x) = Ok x
refused_by f (Err e) = Err (f e)

-- what is found, where it passes
abbrev pub provided : {A : Type 0} → Bool → A → Option A
provided passes found = if passes then Some found else None

-- a number that has to pass a test
abbrev pub passing : (ℕ → Bool) → ℕ → Option ℕ
passing test n = provided (test n) n
