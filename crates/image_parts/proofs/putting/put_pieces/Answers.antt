use Rattle.std.proofs.Common.{◌≡◌, ◌+◌, ◌<◌, ◌≤◌, Err, length, arith, rules}
use Rattle.image_layout.specs.declared.layout.Placed.{Placed}
use Rattle.image_parts.proofs.Holes.{AllNeeded, among_more, hole_of, needed_before_hole, needed_behind_holes, none_in_hole, part_fails_too, puts_last, puts_more, still_inside}
use Rattle.image_parts.proofs.putting.put_pieces.Goals as goal

pub put_piece-requires-clause-inside : goal.put_piece-requires-clause-inside
put_piece-requires-clause-inside g c = λ told.
    let files = g.F.Files in
    let inside = still_inside (files.file c.args.files.now c.args.source.now) c.args.part.now c.loop-hole.from c.args.image.now (files.file c.args.files.now) (files.file c.loop-hole.files) (c.requires.inside told).1 (c.loop-hole.invariant.puts told) in
    (inside.0, let end = inside.1 in omega (arith, c.min-to.ensures))

pub put_piece-requires-2-clause-inside : goal.put_piece-requires-2-clause-inside
put_piece-requires-2-clause-inside g c = λ told.
    let files = g.F.Files in
    still_inside (files.file c.args.files.now c.args.source.now) c.args.part.now c.loop-hole.from c.args.image.now (files.file c.args.files.now) (files.file c.loop-hole.files) (c.requires.inside told).1 (c.loop-hole.invariant.puts told)

pub returns-in_err-put_piece-clause-needed : goal.returns-in_err-put_piece-clause-needed
returns-in_err-put_piece-clause-needed g c k at is =
    let p : Placed = c.args.part.now in
    let inside : c.loop-hole.hole-index < length p.holes = rw (← c.as_slice-hole-items.ensures) c.loop-hole-test.true in
    let all : AllNeeded p c.loop-hole.from c.min-to.result = rw (c.min-to.ensures, c.as_slice-hole-items.ensures) (needed_before_hole p c.loop-hole.hole-index c.loop-hole.from c.requires.placed.holes inside c.loop-hole.invariant.among) in
    let low : c.loop-hole.from ≤ at = search (rules, is) in
    let high : at < c.min-to.result = search (rules, is) in
    all at low high

pub returns-in_err-put_piece-clause-answers : goal.returns-in_err-put_piece-clause-answers
returns-in_err-put_piece-clause-answers g c = λ told.
    let file = g.F.Files.file in
    let p : Placed = c.args.part.now in
    let inside : c.loop-hole.hole-index < length p.holes = rw (← c.as_slice-hole-items.ensures) c.loop-hole-test.true in
    let all : AllNeeded p c.loop-hole.from c.min-to.result = rw (c.min-to.ensures, c.as_slice-hole-items.ensures) (needed_before_hole p c.loop-hole.hole-index c.loop-hole.from c.requires.placed.holes inside c.loop-hole.invariant.among) in
    let same : c.from_residual.result ≡ Err c.in_err-put_piece.field-0.0 = search rules in
    let source = c.loop-hole.invariant.others c.args.source.now c.requires.apart in
    rw same (part_fails_too c.args.number _ (file c.args.files.now c.args.source.now) p c.loop-hole.from c.min-to.result c.args.image.now (file c.args.files.now) (file c.loop-hole.files) (file c.put_piece.new.files) c.in_err-put_piece.field-0.0
    source all (c.loop-hole.invariant.puts told) (c.in_err-put_piece.ensures.answers told))

pub returns-in_err-put_piece-2-clause-needed : goal.returns-in_err-put_piece-2-clause-needed
returns-in_err-put_piece-2-clause-needed g c k at is =
    let p : Placed = c.args.part.now in
    let behind : length p.holes ≤ c.loop-hole.hole-index = rw (← c.as_slice-hole-items.ensures) c.loop-hole-test.false in
    let low : c.loop-hole.from ≤ at = search (rules, is) in
    let high : at < p.len = search (rules, is) in
    needed_behind_holes p c.loop-hole.hole-index c.loop-hole.from behind c.loop-hole.invariant.among at low high

pub returns-in_err-put_piece-2-clause-answers : goal.returns-in_err-put_piece-2-clause-answers
returns-in_err-put_piece-2-clause-answers g c = λ told.
    let file = g.F.Files.file in
    let p : Placed = c.args.part.now in
    let behind : length p.holes ≤ c.loop-hole.hole-index = rw (← c.as_slice-hole-items.ensures) c.loop-hole-test.false in
    let all : AllNeeded p c.loop-hole.from p.len = needed_behind_holes p c.loop-hole.hole-index c.loop-hole.from behind c.loop-hole.invariant.among in
    let same : c.from_residual-in_err-put_piece-2.result ≡ Err c.in_err-put_piece-2.field-0.0 = search rules in
    let source = c.loop-hole.invariant.others c.args.source.now c.requires.apart in
    rw same (part_fails_too c.args.number _ (file c.args.files.now c.args.source.now) p c.loop-hole.from p.len c.args.image.now (file c.args.files.now) (file c.loop-hole.files) (file c.put_piece-2.new.files) c.in_err-put_piece-2.field-0.0
    source all (c.loop-hole.invariant.puts told) (c.in_err-put_piece-2.ensures.answers told))

pub loop-hole-preserved : goal.loop-hole-preserved
loop-hole-preserved g c =
    let file = g.F.Files.file in
    let p : Placed = c.args.part.now in
    let inside : c.loop-hole.hole-index < length p.holes = rw (← c.as_slice-hole-items.ensures) c.loop-hole-test.true in
    let all : AllNeeded p c.loop-hole.from c.min-to.result = rw (c.min-to.ensures, c.as_slice-hole-items.ensures) (needed_before_hole p c.loop-hole.hole-index c.loop-hole.from c.requires.placed.holes inside c.loop-hole.invariant.among) in
    let source = c.loop-hole.invariant.others c.args.source.now c.requires.apart in
    record {
      room = search rules;
      among = rw c.as_slice-hole-items.ensures (among_more p.holes c.loop-hole.hole-index c.loop-hole.from c.requires.placed.holes inside c.loop-hole.invariant.among);
      none_fell = search rules;
      others = search rules;
      puts = λ told. rw c.as_slice-hole-items.ensures
          (puts_more (file c.args.files.now c.args.source.now) p c.loop-hole.from c.min-to.result ((hole_of p.holes c.loop-hole.hole-index).at + (hole_of p.holes c.loop-hole.hole-index).len) c.args.image.now (file c.args.files.now) (file c.loop-hole.files) (file c.put_piece.new.files)
          all (rw (c.min-to.ensures, c.as_slice-hole-items.ensures) (none_in_hole p c.loop-hole.hole-index c.loop-hole.from inside)) (c.loop-hole.invariant.puts told) (rw source at c.in_ok-put_piece.ensures.answers told));
    }

pub returns-clause-answers : goal.returns-clause-answers
returns-clause-answers g c = λ told.
    let file = g.F.Files.file in
    let p : Placed = c.args.part.now in
    let behind : length p.holes ≤ c.loop-hole.hole-index = rw (← c.as_slice-hole-items.ensures) c.loop-hole-test.false in
    let source = c.loop-hole.invariant.others c.args.source.now c.requires.apart in
    puts_last (file c.args.files.now c.args.source.now) p c.loop-hole.from c.args.image.now (file c.args.files.now) (file c.loop-hole.files) (file c.put_piece-2.new.files)
    (needed_behind_holes p c.loop-hole.hole-index c.loop-hole.from behind c.loop-hole.invariant.among) (c.loop-hole.invariant.puts told) (rw source at c.in_ok-put_piece-2.ensures.answers told)
