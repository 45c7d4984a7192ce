use Rattle.std.proofs.Common.{ℕ, ◌*◌, ◌<◌, take, drop}
use Rattle.sparse_text.specs.Blocks.{HasForm}
use Rattle.sparse_chunks.proofs.contents.first_run.Given as goal

-- the blocks so far are the same
abbrev pub invariant-loop-number : goal.invariant-loop-number
invariant-loop-number l = (i : ℕ) → i < l.number → HasForm (take l.block (drop (i * l.block) l.window)) l.content
