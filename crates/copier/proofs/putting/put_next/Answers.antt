-- A unit is put, by its move.
use Rattle.copier.proofs.StepLemmas.{near_of, number_next, put_along, put_fewer, put_since}
use Rattle.copier.proofs.putting.put_next.Goals as goal

pub returns-in-Ok-put_unit-clause-since : goal.returns-in-Ok-put_unit-clause-since
returns-in-Ok-put_unit-clause-since g c told =
    let job = c.args.job.now in
    let was = c.args.progress.now in
    let number = number_next job was c.in-Ok.course c.args.k c.in-Ok.is c.requires.sound c.requires.next in
    put_since job was c.in-Ok.course c.args.k c.args.bytes.now (g.B.Bench.disk c.args.bench.now) (g.B.Bench.disk c.put_unit.new.bench) c.in-Ok.is number (c.put_unit.ensures.since told)

pub returns-in-Err-clause-since : goal.returns-in-Err-clause-since
returns-in-Err-clause-since g c told =
    let job = c.args.job.now in
    let was = c.args.progress.now in
    let number = number_next job was c.in-Ok.course c.args.k c.in-Ok.is c.requires.sound c.requires.next in
    put_since job was c.in-Ok.course c.args.k c.args.bytes.now (g.B.Bench.disk c.args.bench.now) (g.B.Bench.disk c.put_unit.new.bench) c.in-Ok.is number (c.put_unit.ensures.since told)

pub returns-in-Ok-put_unit-clause-along : goal.returns-in-Ok-put_unit-clause-along
returns-in-Ok-put_unit-clause-along g c told =
    let job = c.args.job.now in
    let was = c.args.progress.now in
    let number = number_next job was c.in-Ok.course c.args.k c.in-Ok.is c.requires.sound c.requires.next in
    put_along job was c.in-Ok.course c.put_unit.new.course c.args.k c.args.bytes.now (g.B.Bench.disk c.args.bench.now) (g.B.Bench.disk c.put_unit.new.bench) c.in-Ok.is number (c.in-Ok-put_unit.ensures.along told)

pub returns-in-Ok-put_unit-clause-narrow : goal.returns-in-Ok-put_unit-clause-narrow
returns-in-Ok-put_unit-clause-narrow g c told = near_of c.args.job.now c.args.progress.now c.in-Ok.course c.in-Ok.is (c.put_unit.ensures.narrow told)

pub returns-in-Err-clause-narrow : goal.returns-in-Err-clause-narrow
returns-in-Err-clause-narrow g c told = near_of c.args.job.now c.args.progress.now c.in-Ok.course c.in-Ok.is (c.put_unit.ensures.narrow told)

pub returns-in-Ok-put_unit-clause-fewer : goal.returns-in-Ok-put_unit-clause-fewer
returns-in-Ok-put_unit-clause-fewer g c =
    put_fewer c.args.job.now c.args.progress.now c.in-Ok.course c.put_unit.new.course c.args.k c.in-Ok.is c.requires.sound c.requires.next c.in-Ok-put_unit.ensures.put
