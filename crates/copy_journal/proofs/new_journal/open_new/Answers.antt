use Rattle.std.proofs.Common.{inl, inr, rules}
use Rattle.bench.specs.declared.Dev.TheVariants.{Target, Journal}
use Rattle.bench.proofs.DiskLemmas.{changes_so, changes_then, looked_changes, looked_then}
use Rattle.copy_journal.proofs.OpeningTime.{opened_in_time}
use Rattle.copy_journal.proofs.new_journal.open_new.Goals as goal

pub returns-in_err-start-clause-moves : goal.returns-in_err-start-clause-moves
returns-in_err-start-clause-moves g c told =
    let looked = looked_then c.sync.ensures.looked c.look.ensures.looked in
    changes_then (looked_changes Journal looked (λ image was. c.look.ensures.stays Target image (c.sync.ensures.other_stays image was)) (λ image was. inl was))
    (changes_so (c.start.ensures.moves told) (λ image is. inr is))

pub returns-in_default-clause-moves : goal.returns-in_default-clause-moves
returns-in_default-clause-moves g c told =
    let looked = looked_then c.sync.ensures.looked c.look.ensures.looked in
    changes_then (looked_changes Journal looked (λ image was. c.look.ensures.stays Target image (c.sync.ensures.other_stays image was)) (λ image was. inl was))
    (changes_so (c.start.ensures.moves told) (λ image is. inr is))

pub returns-in_err-start-clause-after : goal.returns-in_err-start-clause-after
returns-in_err-start-clause-after g c told =
    inr (opened_in_time {id = c.args.id.now} (g.met.B.Bench.only_now c.args.bench.now) (g.met.B.Bench.only_now c.look.new.bench)
    (looked_then c.sync.ensures.looked c.look.ensures.looked) (search rules) (search rules) (c.start.ensures.moves told))

pub returns-in_default-clause-after : goal.returns-in_default-clause-after
returns-in_default-clause-after g c told =
    inr (opened_in_time {id = c.args.id.now} (g.met.B.Bench.only_now c.args.bench.now) (g.met.B.Bench.only_now c.look.new.bench)
    (looked_then c.sync.ensures.looked c.look.ensures.looked) (search rules) (search rules) (c.start.ensures.moves told))
