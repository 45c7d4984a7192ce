-- Texts that are kept in pieces.
use Rattle.std.proofs.Common.{◌≡◌, ℕ, ◌+◌, ◌*◌, ◌<◌, ◌≤◌, List, [], ◌∷◌, ◌++◌, length, take, drop, get_or, suc, zero, refl, Some, None, sum, arith}
use Rattle.outside.specs.Lines.{pieces, taken}
use Rattle.std.proofs.lemmas.Grind.{common_steps}
use Rattle.std.proofs.lemmas.List.{take-append-le, drop-append-le, drop-drop}
use Rattle.std.proofs.lemmas.List.Sums.{sum_by-cons, sum_by_more_le}
use Rattle.std.specs.List.{slice_get}

-- one more piece behind the others
pub pieces_more : (text ns line : List ℕ) → sum ns ≡ length text → pieces (text ++ line) (ns ++ length line ∷ []) ≡ pieces text ns ++ line ∷ []
pieces_more [] [] line whole = search (arith, common_steps)
pieces_more (x ∷ text) [] line whole = absurd (omega arith)
pieces_more text (n ∷ ns) line whole =
    let cons = sum_by-cons (λ x. x) n ns in
    let within : n ≤ length text = omega arith in
    let first = take-append-le n text line within in
    let rest = drop-append-le n text line within in
    let left : sum ns ≡ length (drop n text) = search (arith, common_steps) in
    let behind = pieces_more (drop n text) ns line left in
    cc

-- the room of pieces that are there
pub taken_pieces : (text ns : List ℕ) → sum ns ≤ length text → taken (pieces text ns) ≡ sum ns + 8 * length ns
taken_pieces text [] within = refl
taken_pieces text (n ∷ ns) within =
    let cons = sum_by-cons (λ x. x) n ns in
    let left : sum ns ≤ length (drop n text) = search (arith, common_steps) in
    let rest = taken_pieces (drop n text) ns left in
    let first : length (take n text) ≡ n = search (arith, common_steps) in
    let both = sum_by-cons (λ line. length line + 8) (take n text) (pieces (drop n text) ns) in
    omega arith

-- the piece of a number
pub pieces_at : (text ns : List ℕ) (i : ℕ) → i < length ns → slice_get (pieces text ns) i ≡ Some (take (get_or ns i 0) (drop (sum (take i ns)) text))
pieces_at text [] i inside = absurd (omega arith)
pieces_at text (n ∷ ns) zero inside = refl
pieces_at text (n ∷ ns) (suc i) inside =
    let rest = pieces_at (drop n text) ns i (omega arith) in
    let cons = sum_by-cons (λ x. x) n (take i ns) in
    let behind = drop-drop (sum (take i ns)) n text in
    cc

-- there is no piece past the last length
pub pieces_past : (text ns : List ℕ) (i : ℕ) → length ns ≤ i → slice_get (pieces text ns) i ≡ None
pieces_past text [] i past = refl
pieces_past text (n ∷ ns) zero past = absurd (omega arith)
pieces_past text (n ∷ ns) (suc i) past = pieces_past (drop n text) ns i (omega arith)

-- each piece ends within all of them
pub piece_within : (ns : List ℕ) (i : ℕ) → i < length ns → sum (take i ns) + get_or ns i 0 ≤ sum ns
piece_within ns i inside = sum_by_more_le (λ x. x) ns i 0 inside
