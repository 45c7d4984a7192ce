use Rattle.image_tables.proofs.Headers.{puts_header, puts_headers}
use Rattle.image_tables.proofs.guid.put_headers.Goals as goal

pub returns-in_ok-put_head-2-clause-puts : goal.returns-in_ok-put_head-2-clause-puts
returns-in_ok-put_head-2-clause-puts g c = λ told.
    let file = g.F.Files.file in
    puts_headers c.args.guid.now c.args.heads.now c.args.name.now (file c.args.files.now) (file c.put_head.new.files) (file c.put_head-then-guid.new.files)
    c.if-guid.true c.requires.fits.fits.disk c.requires.heads (rw c.from-sector.ensures at (c.in_ok-put_head.ensures.puts told)) (rw c.from-sector.ensures at (c.in_ok-put_head-2.ensures.puts told))

pub returns-else-guid-clause-puts : goal.returns-else-guid-clause-puts
returns-else-guid-clause-puts g c = λ told.
    let file = g.F.Files.file in
    puts_header c.args.guid.now c.args.heads.now c.args.name.now (file c.args.files.now) (file c.put_head.new.files)
    c.if-guid.false c.requires.fits.fits.disk c.requires.heads (rw c.from-sector.ensures at (c.in_ok-put_head.ensures.puts told))
