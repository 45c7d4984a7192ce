use Rattle.std.proofs.Common.{◌≡◌, take, Some}
use Rattle.std.specs.Prelude.{◌≢◌, All}
use Rattle.scenario_layouts.proofs.composing.is_own.Given as goal

abbrev pub invariant-loop-part : goal.invariant-loop-part
invariant-loop-part l = All (λ p. p.source ≢ Some l.layout.file) (take l.part-index l.layout.parts)
