use Rattle.std.proofs.Common.{◌≤◌, length, ℕ, ◌↔◌, take}
use Rattle.std.specs.Prelude.{IsTrue}
use Rattle.span_cover.specs.Cover.{IsCover, IsTouched, covers}
use Rattle.span_cover.proofs.cover.Cover.runs.Given as goal

abbrev pub invariant-loop-span : goal.invariant-loop-span
invariant-loop-span l = record { cover : IsCover l.runs.items; exact : (b : ℕ) → IsTrue (covers l.runs.items b) ↔ IsTouched (take l.span-index l.span-items) l.size l.block b; few : length l.runs.items ≤ l.span-index }
