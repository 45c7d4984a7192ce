use Rattle.std.specs.Prelude.{◌==◌}
use Rattle.std.proofs.Common.{◌∙◌, sym}
use Rattle.table_lines.proofs.PartLemmas.{before_found, before_none}
use Rattle.table_lines.proofs.parts.before_zero.Goals as goal

pub returns-in-Some-clause-units : goal.returns-in-Some-clause-units
returns-in-Some-clause-units c =
    before_found (λ unit. unit == 0) c.args.name.now c.in-Some.end (sym c.first_zero.ensures.at ∙ c.in-Some.is)

pub returns-in-None-clause-units : goal.returns-in-None-clause-units
returns-in-None-clause-units c =
    before_none (λ unit. unit == 0) c.args.name.now (sym c.first_zero.ensures.at ∙ c.in-None.is)
