use Rattle.std.proofs.Common.{◌≡◌, length, rules}
use Rattle.image_tables.proofs.Chain.{record_inside, records_all, records_more}
use Rattle.image_tables.proofs.putting.put_chain.Goals as goal

pub put_bytes-requires : goal.put_bytes-requires
put_bytes-requires g c = record {
  there = λ told.
      let file = g.F.Files.file in
      let long : length c.record_bytes.result ≡ 512 = search rules in
      let inside = record_inside c.args.logical.now c.loop-k.k c.args.name.now (file c.args.files.now) (file c.loop-k.files) c.loop-k-test.true (c.requires.there told).1 (c.loop-k.invariant.puts told) in
      (inside.0, rw (c.from.ensures, long) inside.1);
}

pub loop-k-preserved : goal.loop-k-preserved
loop-k-preserved g c =
    let file = g.F.Files.file in
    let long : length c.record_bytes.result ≡ 512 = search rules in
    record {
      none_fell = search rules;
      others = search rules;
      puts = λ told. records_more c.args.logical.now c.loop-k.k c.record_bytes.result c.args.name.now (file c.args.files.now) (file c.loop-k.files) (file c.put_bytes.new.files)
          c.loop-k-test.true long c.record_bytes.ensures (c.loop-k.invariant.puts told) (rw c.from.ensures at (c.in_ok-put_bytes.ensures.puts told));
    }

pub returns-clause-puts : goal.returns-clause-puts
returns-clause-puts g c = λ told.
    let file = g.F.Files.file in
    records_all c.args.logical.now c.loop-k.k c.args.name.now (file c.args.files.now) (file c.loop-k.files) c.loop-k-test.false (c.loop-k.invariant.puts told)
