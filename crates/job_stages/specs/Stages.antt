-- What a stage of a job gives of what is wanted. A fault that a count shows, and want of memory, is no matter of what
-- is wanted: the test says which faults these are.
use Rattle.std.specs.Prelude.{◌≡◌, Bool, IsTrue, MatchBool, Result, Ok, Err}

-- a refusal is the wanted one, or a counted fault
abbrev pub Refuses : {A E : Type 0} → (E → Bool) → Result A E → E → Type 0
Refuses counted wanted refusal = MatchBool (counted refusal) (Unit {0}) (wanted ≡ Err refusal)

-- what a stage gives is what is wanted, seen as it is wanted, or its refusal is
abbrev pub Gives : {A B E F : Type 0} → (E → Bool) → Result B E → (A → B) → (F → E) → Result A F → Type 0
Gives counted wanted view refusal (Ok x) = wanted ≡ Ok (view x)
Gives counted wanted view refusal (Err fault) = Refuses counted wanted (refusal fault)
