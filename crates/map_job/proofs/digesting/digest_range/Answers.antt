use Rattle.std.proofs.Common.{arith}
use Rattle.outside.specs.Files.{bytes_of}
use Rattle.map_job.proofs.Digests.{digest_more, set_many}
use Rattle.map_job.proofs.digesting.digest_range.Goals as goal

pub returns-in-Ok-clause-more : goal.returns-in-Ok-clause-more
returns-in-Ok-clause-more g c = λ told spans block so_far.
    let file = g.F.Files.file in
    let there = c.requires.there told in
    digest_more c.digests_make_the_map.ensures.go_on (file c.args.files.now c.args.name.now) spans
    (bytes_of (file c.args.files.now) c.args.name.now) c.in-Ok.digest block c.args.k c.args.map.now
    c.set_digest.new.self c.range_bytes-span.result there.0 c.range_bytes-span.ensures.exact
    c.range_bytes-span.ensures.filled (omega (arith, c.range_bytes-span.ensures.end, there.1)) c.requires.range
    (c.in-Ok.ensures.exact told) c.set_digest.ensures.set so_far

pub returns-in-Ok-clause-many : goal.returns-in-Ok-clause-many
returns-in-Ok-clause-many g c = set_many _ _ _ _ c.set_digest.ensures.set
