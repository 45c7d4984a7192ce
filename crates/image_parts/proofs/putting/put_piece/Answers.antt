use Rattle.std.proofs.Common.{arith}
use Rattle.image_parts.proofs.Pieces.{puts_piece}
use Rattle.image_parts.proofs.putting.put_piece.Goals as goal

pub returns-in-Ok-clause-answers : goal.returns-in-Ok-clause-answers
returns-in-Ok-clause-answers g c = λ told.
    let file = g.F.Files.file in
    puts_piece (file c.args.files.now c.args.source.now) c.args.place c.args.from c.args.to c.args.image.now (file c.args.files.now) (file c.transfer.new.files)
    (omega (arith, c.if-to-from.false)) (c.requires.inside told).1 (c.in-Ok.ensures.there told)
