use Rattle.std.proofs.Common.{◌∙◌}
use Rattle.image_tables.proofs.Serving.{can_be_written, chain_within, puts_tables, record_within}
use Rattle.image_tables.proofs.putting.put_tables.Goals as goal

pub put_record-requires-clause-last : goal.put_record-requires-clause-last
put_record-requires-clause-last g c = can_be_written c.args.layout.now c.requires.layout

pub put_record-requires-clause-there : goal.put_record-requires-clause-there
put_record-requires-clause-there g c = λ told.
    let there = c.requires.there told in
    rw c.text-name.ensures (there.0, record_within c.args.layout.now _ c.requires.layout there.1)

pub put_chain-requires-clause-there : goal.put_chain-requires-clause-there
put_chain-requires-clause-there g c = λ told.
    let there = c.requires.there told in
    let first = rw c.text-name.ensures at (c.in_ok-put_record.ensures.puts told) in
    rw (c.text-name.ensures, c.as_slice.ensures) (first.there, chain_within c.args.layout.now _ c.requires.layout (first.size ∙ there.1))

pub returns-clause-puts : goal.returns-clause-puts
returns-clause-puts g c = λ told.
    let file = g.F.Files.file in
    puts_tables c.args.layout.now (file c.args.files.now) (file c.put_record.new.files) (file c.put_chain.new.files) (file c.put_any_guid.new.files)
    (rw c.text-name.ensures at (c.in_ok-put_record.ensures.puts told)) (rw (c.text-name.ensures, c.as_slice.ensures) at (c.in_ok-put_chain.ensures.puts told)) (rw c.text-name.ensures at (c.in_ok-put_any_guid.ensures.puts told))
