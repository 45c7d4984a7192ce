-- Writes at the end of a file.
use Rattle.std.proofs.Common.{◌≡◌, ℕ, ◌+◌, List, [], ◌++◌, length, take, drop, append-nil, arith}
use Rattle.std.proofs.lemmas.Grind.{common_steps}
use Rattle.base_fields.specs.Fields.{written}

pub put_behind : (end : ℕ) (xs ys : List ℕ) → end ≡ length xs → written xs end ys ≡ xs ++ ys
put_behind end xs ys at =
    let front : take end xs ≡ xs = search (arith, common_steps) in
    let back : drop (end + length ys) xs ≡ [] = search (arith, common_steps) in
    rw (front, back) (append-nil (xs ++ ys))

pub nothing_more : (xs : List ℕ) → xs ++ [] ≡ xs
nothing_more xs = append-nil xs
