-- The lines of a printer, where it tells them.
use Rattle.std.specs.Prelude.{ℕ, List, [], ◌∷◌, ◌++◌, Option, Some, None}

-- the lines with one more at the end
abbrev pub added : Option (List (List ℕ)) → List ℕ → Option (List (List ℕ))
added None line = None
added (Some lines) line = Some (lines ++ line ∷ [])
