use Rattle.std.proofs.Common.{◌≡◌, ℕ, ◌*◌, ◌<◌, drop}
use Rattle.byteorder.specs.Endian.{little_number}
use Rattle.sparse_chunks.proofs.contents.one_word.Given as goal

-- the words so far are this one
abbrev pub invariant-loop-number : goal.invariant-loop-number
invariant-loop-number l = (i : ℕ) → i < l.number → little_number 4 (drop (4 * i) l.bytes) ≡ l.word
