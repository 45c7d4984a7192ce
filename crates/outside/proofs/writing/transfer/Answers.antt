use Rattle.std.proofs.Common.{◌≡◌, length, take, rules}
use Rattle.outside.proofs.WriteLemmas.{transfers_more}
use Rattle.outside.proofs.writing.transfer.Goals as goal
use Rattle.std.proofs.lemmas.Grind.{common_steps}

pub loop-done-preserved : goal.loop-done-preserved
loop-done-preserved g c =
    let file = g.F.Files.file in
    let same = c.loop-done.invariant.others c.args.source.now c.requires.apart in
    let long : length (take c.min-piece.result c.loop-done.buf) ≡ c.min-piece.result = search (rules, common_steps) in
    record {
      within = search rules;
      room = search rules;
      none_fell = search rules;
      others = search rules;
      there = λ told. transfers_more (file c.args.files.now c.args.source.now) c.args.from.at c.loop-done.done c.min-piece.result c.args.to c.args.target.now (file c.args.files.now) (file c.loop-done.files) (file c.transfer_piece.new.files) (c.requires.there told).1 (c.loop-done.invariant.there told) (rw (← same, ← long) (c.in_ok-transfer_piece.ensures.there told));
    }
