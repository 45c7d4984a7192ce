use Rattle.std.proofs.Common.{subst, List, ℕ}
use Rattle.bench.specs.declared.Dev.TheVariants.{Journal}
use Rattle.copy_job.specs.Devices.{AttachedOr}
use Rattle.device_commands.proofs.forget_arm.run_forget.Goals as goal

pub returns-in-Ok-clause-attached : goal.returns-in-Ok-clause-attached
returns-in-Ok-clause-attached g c =
    record {
      target = c.forget_journal.ensures.other;
      journal = subst (λ (name : List ℕ). AttachedOr Journal name (g.B.Bench.meter c.args.bench.now) (g.B.Bench.meter c.forget_journal.new.bench)) c.text.ensures c.forget_journal.ensures.attached;
    }

pub returns-clause-answered : goal.returns-clause-answered
returns-clause-answered g c = rw c.refuse.ensures.answer (λ h. h)
