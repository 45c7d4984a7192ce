use Rattle.std.proofs.Common.{◌≡◌, ◌≢◌, ◌+◌, ◌≤◌, Some, Err, length, sym, subst, rules}
use Rattle.outside.specs.Files.{bytes_of}
use Rattle.image_layout.specs.declared.layout.Placed.{Placed}
use Rattle.image_parts.proofs.AllParts.{needed_at, parts_fail_at, parts_more_at, still_sized}
use Rattle.image_parts.proofs.putting.put_parts.Goals as goal

pub put_part-requires-clause-inside : goal.put_part-requires-clause-inside
put_part-requires-clause-inside g c = λ told.
    let file = g.F.Files.file in
    let name = c.args.image.now in
    let p : Placed = c.index-parts-k.result in
    let sized = c.loop-k.invariant.sized told in
    let inside : p.at + p.len ≤ length (bytes_of (file c.args.files.now) name) =
    subst (λ (q : Placed). q.at + q.len ≤ length (bytes_of (file c.args.files.now) name)) (sym c.index-parts-k.is) ((c.requires.inside told).1 c.loop-k.k p c.loop-k-test.true) in
    (sized.0, rw sized.1 inside)

pub returns-in_err-put_part-clause-needed : goal.returns-in_err-put_part-clause-needed
returns-in_err-put_part-clause-needed g c n at is =
    let same : c.from_residual.result ≡ Err c.in_err-put_part.field-0.0 = search rules in
    let was = rw same at is in
    needed_at c.args.parts.now c.loop-k.k n c.index-parts-k.result at c.loop-k-test.true c.index-parts-k.is
    (search (rules, is)) (c.in_err-put_part.ensures.needed n at was)

pub returns-in_err-put_part-clause-answers : goal.returns-in_err-put_part-clause-answers
returns-in_err-put_part-clause-answers g c = λ told.
    let file = g.F.Files.file in
    let p : Placed = c.index-parts-k.result in
    let same : c.from_residual.result ≡ Err c.in_err-put_part.field-0.0 = search rules in
    let apart : p.source ≢ Some c.args.image.now =
    subst (λ (q : Placed). q.source ≢ Some c.args.image.now) (sym c.index-parts-k.is) (c.requires.apart c.loop-k.k p c.loop-k-test.true) in
    rw same (parts_fail_at c.args.parts.now c.loop-k.k p c.args.image.now (file c.args.files.now) (file c.loop-k.files) (file c.put_part.new.files) c.in_err-put_part.field-0.0
    c.loop-k-test.true c.index-parts-k.is apart c.loop-k.invariant.others (c.loop-k.invariant.puts told) (c.in_err-put_part.ensures.answers told))

pub loop-k-preserved : goal.loop-k-preserved
loop-k-preserved g c =
    let file = g.F.Files.file in
    let p : Placed = c.index-parts-k.result in
    let apart : p.source ≢ Some c.args.image.now =
    subst (λ (q : Placed). q.source ≢ Some c.args.image.now) (sym c.index-parts-k.is) (c.requires.apart c.loop-k.k p c.loop-k-test.true) in
    record {
      room = search rules;
      none_fell = search rules;
      others = search rules;
      sized = λ told. still_sized _ p c.args.image.now (file c.args.files.now) (file c.loop-k.files) (file c.put_part.new.files) (c.loop-k.invariant.sized told).1 (c.in_ok-put_part.ensures.answers told);
      puts = λ told. parts_more_at c.args.parts.now c.loop-k.k p c.args.image.now (file c.args.files.now) (file c.loop-k.files) (file c.put_part.new.files)
          c.loop-k-test.true c.index-parts-k.is apart c.loop-k.invariant.others (c.loop-k.invariant.puts told) (c.in_ok-put_part.ensures.answers told);
    }
