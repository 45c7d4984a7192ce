-- The greatest of several numbers, and of the ends of partitions.
use Rattle.std.specs.Prelude.{◌≡◌, ℕ, ◌≤◌, max, List, [], ◌∷◌, ◌++◌, map}
use Rattle.std.proofs.Common.{ap, ◌∙◌, arith}
use Rattle.std.proofs.Math.Nat.{max-le}
use Rattle.std.proofs.lemmas.List.{map-append}
use Rattle.std.specs.List.{AllByRecursion}
use Rattle.placement_rules.specs.Places.{Stood, end_of, greatest, highest}
use Rattle.placement_rules.specs.declared.terms.Frame.{Frame}

pub greatest-append : (xs ys : List ℕ) → greatest (xs ++ ys) ≡ max (greatest xs) (greatest ys)
greatest-append [] ys = omega arith
greatest-append (x ∷ xs) ys = omega (arith, greatest-append xs ys)

pub greatest_within : (most : ℕ) (xs : List ℕ) → AllByRecursion (λ n. n ≤ most) xs → greatest xs ≤ most
greatest_within most [] are = omega arith
greatest_within most (x ∷ xs) are = max-le are.0 (greatest_within most xs are.1)

-- before the first one
pub highest_first : (frame : Frame) → highest frame [] ≡ frame.front
highest_first frame = omega arith

-- behind one more
pub highest_next : (frame : Frame) (before : List Stood) (s : Stood) → highest frame (before ++ s ∷ []) ≡ max (highest frame before) (end_of s)
highest_next frame before s =
    let more : greatest (map end_of (before ++ s ∷ [])) ≡ max (greatest (map end_of before)) (max (end_of s) 0) =
    ap greatest (map-append end_of before (s ∷ [])) ∙ greatest-append (map end_of before) (map end_of (s ∷ [])) in
    omega (arith, more)
