-- Runs of bytes that are copied piece by piece.
use Rattle.std.proofs.Common.{◌≡◌, ℕ, ◌+◌, ◌≤◌, List, [], ◌++◌, length, take, drop, refl, append_assoc, Option, Some, None, Result, Ok, Err, IsOkAnd, unwrap_or, ap, sym, subst, ◌∙◌, arith}
use Rattle.base_fields.specs.Fields.{written}
use Rattle.outside.specs.Files.{Tree, bytes_of}
use Rattle.outside.specs.Reading.{span_of}
use Rattle.outside.specs.Writing.{Transfers}
use Rattle.std.proofs.Math.Seq.{take-add, take-append_seam, drop-append-add}
use Rattle.std.proofs.lemmas.Bool.Decides.{nat_tests}
use Rattle.std.proofs.lemmas.Grind.{common_steps}
use Rattle.std.proofs.lemmas.List.{drop-drop}

-- two writes, one behind the other, are one
pub written_written : (old : List ℕ) (to : ℕ) (xs ys : List ℕ) → to ≤ length old → written (written old to xs) (to + length xs) ys ≡ written old to (xs ++ ys)
written_written old to xs ys within =
    let front : length (take to old ++ xs) ≡ to + length xs = search (arith, common_steps) in
    let rest = drop (to + length xs) old in
    let seam = take-append_seam (take to old ++ xs) rest in
    let behind = drop-append-add (take to old ++ xs) rest (length ys) in
    let twice = drop-drop (length ys) (to + length xs) old in
    let both : to + length (xs ++ ys) ≡ to + length xs + length ys = search (arith, common_steps) in
    let ends = append_assoc (take to old) xs ys in
    cc

-- a run that is there, and the run behind it
pub span_more : (at : Option (List ℕ)) (off done n : ℕ) (xs ys : List ℕ) → span_of at off done ≡ Ok xs → span_of at (off + done) n ≡ Ok ys → (length xs ≡ done) × (span_of at off (done + n) ≡ Ok (xs ++ ys))
span_more None off done n xs ys front back = grind (arith, nat_tests, common_steps)
span_more (Some bytes) off done n xs ys front back =
    let cut = take-add done n (drop off bytes) in
    let behind = drop-drop done off bytes in
    grind (arith, nat_tests, common_steps)

-- the value behind an answer of which a fact holds
pub ok_and : {T E : Type 0} (r : Result T E) (P : T → Type 0) → IsOkAnd r P → (x : T) × ((r ≡ Ok x) × P x)
ok_and (Ok x) P h = (x, (refl, h))
ok_and (Err e) P h = absurd h

-- two runs that are copied, one behind the other, are one
pub transfers_more : (at : Option (List ℕ)) (off done n to : ℕ) (target : List ℕ) (old mid new : Tree) → to ≤ length (bytes_of old target) → Transfers (span_of at off done) target to old mid (Ok tt) → Transfers (span_of at (off + done) n) target (to + done) mid new (Ok tt) → Transfers (span_of at off (done + n)) target to old new (Ok tt)
transfers_more at off done n to target old mid new within front back =
    let (xs, (first, before)) = ok_and _ _ front in
    let (ys, (second, after)) = ok_and _ _ back in
    let joined = span_more at off done n xs ys first second in
    let there : bytes_of mid target ≡ written (bytes_of old target) to xs = ap (λ b. unwrap_or b []) before in
    let twice = written_written (bytes_of old target) to xs ys within in
    let P = λ (bytes : List ℕ). new target ≡ Some (written (bytes_of old target) to bytes) in
    let at_both : P (xs ++ ys) = after ∙ ap (λ b. Some b) (ap (λ b. written b (to + done) ys) there ∙ ap (λ m. written (written (bytes_of old target) to xs) (to + m) ys) (sym joined.0) ∙ twice) in
    subst (λ r. IsOkAnd r P) (sym joined.1) at_both
