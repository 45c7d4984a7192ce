use Rattle.std.proofs.Common.{◌≡◌, ◌∙◌}
use Rattle.table_reader.proofs.HalfSteps.{summed_right, summed_wrong}
use Rattle.table_reader.proofs.halves.read_entries.Goals as goal

pub returns-then-stated-computed-clause-there : goal.returns-then-stated-computed-clause-there
returns-then-stated-computed-clause-there g c = λ told.
    summed_wrong _ c.args.head.now c.read_part.new.buf c.args.sector c.args.at _ _ c.read_number-stated.result c.crc32-computed.result
    (c.in_ok-read_part.ensures.there told) (cc) c.requires.room c.read_number-stated.ensures c.crc32-computed.ensures c.if-stated-computed.true

pub returns-clause-there : goal.returns-clause-there
returns-clause-there g c = λ told.
    let same = c.if-stated-computed.false in
    let states = c.read_number-stated.ensures in
    let computes = c.crc32-computed.ensures in
    summed_right _ c.args.head.now c.read_part.new.buf c.args.sector c.args.at _ _
    (c.in_ok-read_part.ensures.there told) (cc) c.requires.room (cc)
