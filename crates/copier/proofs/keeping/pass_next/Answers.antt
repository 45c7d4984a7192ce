-- A unit is kept, by its move, which writes nothing.
use Rattle.std.proofs.Common.{ℕ, List, ap, ◌∙◌}
use Rattle.bench.specs.declared.Dev.{Dev}
use Rattle.bench.specs.declared.Dev.TheVariants.{Target}
use Rattle.bench.proofs.DiskLemmas.{looked_keeps}
use Rattle.copier.proofs.EndingLemmas.{device_ends}
use Rattle.copier.proofs.StepLemmas.{near_of}
use Rattle.copier.proofs.keeping.pass_next.Goals as goal

pub returns-in-Ok-keep_unit-clause-since : goal.returns-in-Ok-keep_unit-clause-since
returns-in-Ok-keep_unit-clause-since g c told source before = looked_keeps c.keep_unit.ensures.looked

pub returns-in-Err-clause-since : goal.returns-in-Err-clause-since
returns-in-Err-clause-since g c told source before = looked_keeps c.keep_unit.ensures.looked

pub returns-in-Ok-keep_unit-clause-narrow : goal.returns-in-Ok-keep_unit-clause-narrow
returns-in-Ok-keep_unit-clause-narrow g c told = near_of c.args.job.now c.args.progress.now c.in-Ok.course c.in-Ok.is (c.keep_unit.ensures.narrow told)

pub returns-in-Err-clause-narrow : goal.returns-in-Err-clause-narrow
returns-in-Err-clause-narrow g c told = near_of c.args.job.now c.args.progress.now c.in-Ok.course c.in-Ok.is (c.keep_unit.ensures.narrow told)

pub returns-in-Ok-keep_unit-clause-ends : goal.returns-in-Ok-keep_unit-clause-ends
returns-in-Ok-keep_unit-clause-ends g c told s start along right = tt

pub returns-in-Err-clause-ends : goal.returns-in-Err-clause-ends
returns-in-Err-clause-ends g c told =
    device_ends c.args.job.now c.args.progress.now (g.B.Bench.disk c.args.bench.now) c.refuse.result c.in-Err.fault.dev (c.refuse.ensures.given ∙ c.from.ensures)

pub returns-in-Ok-keep_unit-clause-same_target : goal.returns-in-Ok-keep_unit-clause-same_target
returns-in-Ok-keep_unit-clause-same_target g c told = ap (λ (f : Dev → List ℕ). f Target) c.keep_unit.ensures.looked.reads

pub returns-in-Err-clause-same_target : goal.returns-in-Err-clause-same_target
returns-in-Err-clause-same_target g c told = ap (λ (f : Dev → List ℕ). f Target) c.keep_unit.ensures.looked.reads
