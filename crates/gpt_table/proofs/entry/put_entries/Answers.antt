use Rattle.std.proofs.Common.{◌≡◌, take, length, arith}
use Rattle.std.proofs.lemmas.List.{take_all, take_more}
use Rattle.gpt_table.proofs.Slots.{filled_byte, filled_step, fit_at}
use Rattle.gpt_table.proofs.entry.put_entries.Goals as goal

pub loop-k-preserved : goal.loop-k-preserved
loop-k-preserved c =
    filled_step c.args.entries.now c.loop-k.k (length c.args.room.now) c.loop-k.room c.put_entry.new.room _ c.loop-k.invariant c.loop-k-test.true c.requires c.put_entry.ensures.fits c.put_entry.ensures.written
    (take_more c.args.entries.now c.loop-k.k _ c.loop-k-test.true)

pub returns-clause-written : goal.returns-clause-written
returns-clause-written c o h =
    let whole : take c.loop-k.k c.args.entries.now ≡ c.args.entries.now = take_all c.loop-k.k c.args.entries.now (omega arith) in
    filled_byte c.args.entries.now (length c.args.room.now) c.loop-k.room o (rw whole at c.loop-k.invariant)

pub returns-clause-fits : goal.returns-clause-fits
returns-clause-fits c k h =
    let whole : take c.loop-k.k c.args.entries.now ≡ c.args.entries.now = take_all c.loop-k.k c.args.entries.now (omega arith) in
    fit_at c.args.entries.now k (rw whole at c.loop-k.invariant).each h
