use Rattle.bench.proofs.DiskLemmas.{keeps_then, looked_keeps}
use Rattle.bench.specs.declared.Dev.TheVariants.{Target, Journal}
use Rattle.copy_job.proofs.ForgetLemmas.{forgetting_keeps_own, forgetting_keeps_since}
use Rattle.copy_job.proofs.forgetting.forget_journal.Goals as goal

pub returns-in_err-attach-clause-since : goal.returns-in_err-attach-clause-since
returns-in_err-attach-clause-since g c told id m source before = looked_keeps c.attach.ensures.looked

pub returns-in_err-attach-clause-own : goal.returns-in_err-attach-clause-own
returns-in_err-attach-clause-own g c told id = looked_keeps c.attach.ensures.looked

pub returns-in-Ok-clause-since : goal.returns-in-Ok-clause-since
returns-in-Ok-clause-since g c told id m source before =
    keeps_then (looked_keeps c.attach.ensures.looked)
    (forgetting_keeps_since (g.met.B.Bench.reads_leave told c.attach.new.self Journal) (c.forget.ensures.moves told) id m source before)

pub returns-in-Ok-clause-own : goal.returns-in-Ok-clause-own
returns-in-Ok-clause-own g c told id =
    keeps_then (looked_keeps c.attach.ensures.looked)
    (forgetting_keeps_own (g.met.B.Bench.reads_leave told c.attach.new.self Target) (c.forget.ensures.moves told) id)

pub returns-in-Err-clause-since : goal.returns-in-Err-clause-since
returns-in-Err-clause-since g c told id m source before =
    keeps_then (looked_keeps c.attach.ensures.looked)
    (forgetting_keeps_since (g.met.B.Bench.reads_leave told c.attach.new.self Journal) (c.forget.ensures.moves told) id m source before)

pub returns-in-Err-clause-own : goal.returns-in-Err-clause-own
returns-in-Err-clause-own g c told id =
    keeps_then (looked_keeps c.attach.ensures.looked)
    (forgetting_keeps_own (g.met.B.Bench.reads_leave told c.attach.new.self Target) (c.forget.ensures.moves told) id)
