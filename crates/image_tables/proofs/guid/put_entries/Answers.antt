use Rattle.std.proofs.Common.{◌≡◌, length, rules}
use Rattle.image_tables.proofs.Headers.{back_entries_end, puts_entries, puts_front}
use Rattle.image_tables.proofs.Serving.{run_there}
use Rattle.image_tables.proofs.guid.put_entries.Goals as goal

pub put_bytes-requires-then-guid : goal.put_bytes-requires-then-guid
put_bytes-requires-then-guid g c = record {
  there = λ told.
      let file = g.F.Files.file in
      let still = run_there _ c.gpt-heads.new.entries c.args.name.now (file c.args.files.now) (file c.put_bytes.new.files) (c.in_ok-put_bytes.ensures.puts told) in
      let long : length c.gpt-heads.new.entries ≡ 16384 = search rules in
      let ends = back_entries_end c.args.guid.now _ c.requires.fits.fits c.if-guid.true (c.requires.there told).1 in
      (still.0, rw (c.from-sector.ensures, long, still.1) ends);
}

pub returns-in_ok-put_bytes-2-clause-puts : goal.returns-in_ok-put_bytes-2-clause-puts
returns-in_ok-put_bytes-2-clause-puts g c = λ told.
    let file = g.F.Files.file in
    let long : length c.gpt-heads.new.entries ≡ 16384 = search rules in
    puts_entries c.args.guid.now c.gpt-heads.new.entries c.args.name.now (file c.args.files.now) (file c.put_bytes.new.files) (file c.put_bytes-then-guid.new.files)
    c.if-guid.true long c.gpt-heads.ensures.entries (rw c.from-sector.ensures at (c.in_ok-put_bytes.ensures.puts told)) (rw c.from-sector.ensures at (c.in_ok-put_bytes-2.ensures.puts told))

pub returns-else-guid-clause-puts : goal.returns-else-guid-clause-puts
returns-else-guid-clause-puts g c = λ told.
    let file = g.F.Files.file in
    let long : length c.gpt-heads.new.entries ≡ 16384 = search rules in
    puts_front c.args.guid.now c.gpt-heads.new.entries c.args.name.now (file c.args.files.now) (file c.put_bytes.new.files)
    c.if-guid.false long c.gpt-heads.ensures.entries (rw c.from-sector.ensures at (c.in_ok-put_bytes.ensures.puts told))
