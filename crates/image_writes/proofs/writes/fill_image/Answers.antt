use Rattle.std.proofs.Common.{arith, rules}
use Rattle.image_writes.proofs.Serving.{filled_more}
use Rattle.image_writes.proofs.writes.fill_image.Goals as goal

pub loop-done-preserved : goal.loop-done-preserved
loop-done-preserved g c =
    let file = g.F.Files.file in
    record {
      within = search rules;
      room = search rules;
      none_fell = search rules;
      others = search rules;
      filled = λ told. filled_more c.args.byte c.loop-done.done c.min-piece.result c.args.buf.now c.args.name.now (file c.args.files.now) (file c.loop-done.files) (file c.put_bytes.new.files)
          (omega (arith, c.min-piece.ensures)) c.requires.same (c.loop-done.invariant.filled told) (c.in_ok-put_bytes.ensures.puts told);
    }
