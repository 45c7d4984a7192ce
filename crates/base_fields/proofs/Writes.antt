-- What a write into the tail of a slice leaves of the whole.
use Rattle.std.proofs.Common.{◌≡◌, ℕ, ◌-◌, List, [], ◌++◌, length, take, drop, arith, append_assoc, append-nil}
use Rattle.std.proofs.lemmas.Grind.{common_steps}
use Rattle.std.proofs.lemmas.List.{drop-drop}
use borrow.Rule.Slice.PartMut.{put_mid}
use Rattle.base_fields.specs.Fields.{written}

-- nothing is left of a tail past its end
nothing_left : (at : ℕ) (xs : List ℕ) → drop (length xs - at) (drop at xs) ≡ []
nothing_left at xs = search (arith, common_steps)

-- the whole tail
whole_tail : (at : ℕ) (xs : List ℕ) → take (length xs - at) (drop at xs) ≡ drop at xs
whole_tail at xs = search (arith, common_steps)

-- bytes written at the front of the part from a place on are those bytes at that place
pub front_write : (at n : ℕ) (xs ys : List ℕ) → length ys ≡ n → put_mid at (length xs - at) xs (ys ++ drop n (take (length xs - at) (drop at xs))) ≡ written xs at ys
front_write at n xs ys h = simp (whole_tail, nothing_left, drop-drop, append_assoc, append-nil, h)
