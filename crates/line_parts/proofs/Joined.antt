-- Fields one behind another.
use Rattle.std.specs.Prelude.{◌≡◌, ℕ, List, [], ◌∷◌, ◌++◌}
use Rattle.std.proofs.Common.{refl}
use Rattle.line_parts.specs.Line.{spelled, with_fields}

-- a line with two lists of fields is the line with the first of them, and behind that the second
pub with_fields_both : (line : List ℕ) (front back : List (List ℕ × List ℕ)) → with_fields line (front ++ back) ≡ with_fields (with_fields line front) back
with_fields_both line [] back = refl
with_fields_both line (field ∷ front) back = with_fields_both (line ++ spelled field) front back
