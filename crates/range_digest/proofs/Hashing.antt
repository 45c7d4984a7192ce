-- Runs of bytes that are hashed piece by piece.
use Rattle.std.proofs.Common.{◌≡◌, ℕ, ◌+◌, List, ◌++◌, drop, Option, Some, None, Result, Ok, Err, IsOkAnd, refl, sym, subst, arith}
use Rattle.sha2.specs.declared.Sha256.{Sha256}
use Rattle.sha2.specs.Hashers.{Holds256}
use Rattle.outside.proofs.WriteLemmas.{ok_and, span_more}
use Rattle.outside.specs.Reading.{span_of}
use Rattle.range_digest.specs.Digests.{Adds}
use Rattle.std.proofs.Math.Seq.{take-add}
use Rattle.std.proofs.lemmas.Bool.Decides.{nat_tests}
use Rattle.std.proofs.lemmas.Grind.{common_steps}
use Rattle.std.proofs.lemmas.List.{drop-drop}

-- what is hashed, and the piece that is added, are one run
pub hashed_more : (at : Option (List ℕ)) (off done n : ℕ) (old new : Sha256) → IsOkAnd (span_of at off done) (Holds256 old) → Adds (span_of at (off + done) n) old new (Ok tt) → IsOkAnd (span_of at off (done + n)) (Holds256 new)
hashed_more at off done n old new front back =
    let (xs, (first, before)) = ok_and _ _ front in
    let (ys, (second, after)) = ok_and _ _ back in
    subst (λ r. IsOkAnd r (Holds256 new)) (sym (span_more at off done n xs ys first second).1) (after xs before)
