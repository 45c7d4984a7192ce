use Rattle.std.proofs.Common.{◌+◌, ◌≤◌, length, take}
use Rattle.std.specs.List.{list_any}
use Rattle.span_cover.specs.Cover.{has}
use Rattle.image_layout.specs.Covering.{Gains}
use Rattle.image_layout.proofs.Gaining.{record_span}
use Rattle.image_layout.proofs.covering.add_chain.Given as goal

abbrev pub invariant-loop-spec : goal.invariant-loop-spec
invariant-loop-spec l = record {
  gained : Gains l.fn.cover (λ o. list_any (λ s. has (record_span s) o) (take l.spec-index l.logical)) l.cover;
  few : length l.cover ≤ length l.fn.cover + l.spec-index;
}
