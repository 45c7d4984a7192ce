-- Runs of bytes that are read piece by piece.
use Rattle.std.proofs.Common.{◌≡◌, ℕ, ◌+◌, ◌-◌, ◌≤◌, List, [], ◌++◌, length, take, drop, refl, Option, None, Some, Ok, unwrap_or, arith}
use Rattle.outside.specs.Files.{IsReadAt, IsReadOf}
use Rattle.std.proofs.Math.Seq.{take-add}
use Rattle.std.proofs.lemmas.Grind.{common_steps}
use Rattle.std.proofs.lemmas.List.{take-append-le, drop_at, drop-drop}
use borrow.Rule.Slice.PartMut.{put_mid, post_of, take_put}

-- the bytes so far, and those that a read puts behind them, are those of the file
pub more_read : (bytes buf new : List ℕ) (off done n : ℕ) → done + n ≤ length buf → length new ≡ length buf - done → take done buf ≡ take done (drop off bytes) → take n new ≡ take n (drop (off + done) bytes) → take (done + n) (put_mid done (length buf - done) buf new) ≡ take (done + n) (drop off bytes)
more_read bytes buf new off done n within len front part =
    let room = length buf - done in
    let short : length (take done buf) ≡ done = search (arith, common_steps) in
    let inside : n ≤ length new = omega arith in
    let start : done ≤ length buf = omega arith in
    let cut = take-add done n (put_mid done room buf new) in
    let first = take_put done room buf new start in
    let rest : drop done (put_mid done room buf new) ≡ new ++ post_of done room buf = drop_at (take done buf) (new ++ post_of done room buf) done short in
    let piece : take n (new ++ post_of done room buf) ≡ take n new = take-append-le n new (post_of done room buf) inside in
    let wanted = take-add done n (drop off bytes) in
    let behind : drop done (drop off bytes) ≡ drop (off + done) bytes = drop-drop done off bytes in
    cc

-- a read that found something: the name is there, and the bytes are the file's
pub read_there : (at : Option (List ℕ)) (off n : ℕ) (buf : List ℕ) → IsReadOf at off buf (Ok n) → (at ≡ Some (unwrap_or at [])) × IsReadAt (unwrap_or at []) off n buf
read_there None off n buf h = absurd h
read_there (Some bytes) off n buf h = (refl, h)
