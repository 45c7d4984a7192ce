use Rattle.image_tables.proofs.Headers.{puts_guid}
use Rattle.image_tables.proofs.guid.put_guid.Goals as goal

pub returns-clause-puts : goal.returns-clause-puts
returns-clause-puts g c = λ told.
    let file = g.F.Files.file in
    puts_guid c.args.guid.now c.args.name.now (file c.args.files.now) (file c.put_entries.new.files) (file c.put_headers.new.files)
    (c.in_ok-heads.ensures.puts told) (c.in_ok-put_headers.ensures.puts told)
