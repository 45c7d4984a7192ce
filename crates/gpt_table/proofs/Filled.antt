-- Fields written one after another into a room.
use Rattle.std.specs.Prelude.{◌≡◌, ℕ, ◌+◌, ◌≤◌, List, [], ◌∷◌, ◌++◌, length, take, drop}
use Rattle.std.proofs.Common.{refl, ◌∙◌, sym, ap, arith, append_assoc, append-nil}
use Rattle.std.proofs.lemmas.Grind.{common_steps}
use Rattle.std.proofs.lemmas.List.{take_at, take_all, length-append}
use Rattle.base_fields.specs.Fields.{Field, joined, written}
use Rattle.base_fields.proofs.FieldRuns.{IsRun}

-- fields written one after another
unfoldable pub filled : List Field → List ℕ → List ℕ
filled [] room = room
filled (f ∷ fs) room = filled fs (written room f.at f.bytes)

pub filled_none : (room : List ℕ) → filled [] room ≡ room
unfolding filled
filled_none room = refl

pub filled_first : (f : Field) (fs : List Field) (room new target : List ℕ) → new ≡ written room f.at f.bytes → filled fs new ≡ target → filled (f ∷ fs) room ≡ target
unfolding filled
filled_first f fs room new target wrote rest = ap (filled fs) (sym wrote) ∙ rest

-- one more field behind those that are written
extended : (room xs ys : List ℕ) (at : ℕ) → take at room ≡ xs → length xs ≡ at → take (at + length ys) (written room at ys) ≡ xs ++ ys
extended room xs ys at front len =
    let n : length (take at room ++ ys) ≡ at + length ys = rw front (rw length-append (omega arith)) in
    take_at (take at room ++ ys) (drop (at + length ys) room) (at + length ys) n ∙ ap (λ (zs : List ℕ). zs ++ ys) front

same_length : (room ys : List ℕ) (at : ℕ) → at + length ys ≤ length room → length (written room at ys) ≡ length room
same_length room ys at h = grind (arith, common_steps)

-- a run that is written over a whole room is the room
pub filled_run : (fs : List Field) (room xs : List ℕ) (at : ℕ) → IsRun at fs → take at room ≡ xs → length xs ≡ at → at + length (joined fs) ≡ length room → filled fs room ≡ xs ++ joined fs
unfolding filled
filled_run [] room xs at run front len whole =
    sym (take_all at room (omega arith)) ∙ (front ∙ sym (append-nil xs))
filled_run (f ∷ fs) room xs at run front len whole =
    let both : length (f.bytes ++ joined fs) ≡ length f.bytes + length (joined fs) = length-append f.bytes (joined fs) in
    let here : f.at ≡ at = run.0 in
    let kept : length (written room at f.bytes) ≡ length room = same_length room f.bytes at (omega arith) in
    let longer : length (xs ++ f.bytes) ≡ at + length f.bytes = length-append xs f.bytes ∙ ap (λ (n : ℕ). n + length f.bytes) len in
    rw here (filled_run fs (written room at f.bytes) (xs ++ f.bytes) (at + length f.bytes) run.1 (extended room xs f.bytes at front len) longer (omega arith)
    ∙ append_assoc xs f.bytes (joined fs))

-- a run as long as the room, written over it
pub filled_whole : (fs : List Field) (room : List ℕ) → IsRun 0 fs → length (joined fs) ≡ length room → filled fs room ≡ joined fs
filled_whole fs room run whole = filled_run fs room [] 0 run refl refl (omega arith)
