-- A block as a list of bytes, and the buffers that it is cut into.
use Rattle.std.specs.Prelude.{ℕ, zero, suc, ◌+◌, List, [], ◌∷◌, ◌++◌, take, drop}
use Rattle.std.specs.List.{refill}

-- the first n pieces of so many bytes each
unfoldable pub pieces : ℕ → ℕ → List ℕ → List (List ℕ)
pieces size zero xs = []
pieces size (suc n) xs = take size xs ∷ pieces size n (drop size xs)

-- xs with these bytes in the place of the len from number at on, which stay as many
abbrev pub with_part : List ℕ → ℕ → ℕ → List ℕ → List ℕ
with_part xs at len bytes = take at xs ++ (refill len (take len (drop at xs)) bytes ++ drop (at + len) xs)
