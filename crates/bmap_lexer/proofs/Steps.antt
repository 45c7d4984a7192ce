-- Extents that are found byte by byte, and the digits of a digest.
use Rattle.std.proofs.Common.{◌≡◌, ℕ, zero, suc, ◌+◌, ◌/◌, ◌%◌, ◌==◌, ◌<◌, ◌≤◌, Bool, true, false, Option, Some, None, List, [], ◌∷◌, length, drop, Result, Ok, Err, arith, refl, ap, sym, ◌∙◌, add_assoc}
use Rattle.bmap_grammar.specs.Text.{begins, later, through}

pub later_later : (m n : ℕ) (o : Option ℕ) → later m (later n o) ≡ later (m + n) o
later_later m n None = refl
later_later m n (Some k) = ap Some (sym (add_assoc m n k))

-- where the end doesn't stand yet
pub through_more : (end rest : List ℕ) → 0 < length rest → begins rest end ≡ false →
    through end rest ≡ later 1 (through end (drop 1 rest))
through_more end [] h e = absurd (omega arith)
through_more end (b ∷ rest) h e = rw e refl

-- where it stands
pub through_here : (end rest : List ℕ) → 0 < length rest → begins rest end ≡ true → through end rest ≡ Some (length end)
through_here end [] h e = absurd (omega arith)
through_here end (b ∷ rest) h e = rw e refl
