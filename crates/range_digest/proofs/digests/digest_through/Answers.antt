use Rattle.std.proofs.Common.{◌≡◌, length, take, rules}
use Rattle.std.proofs.lemmas.Grind.{common_steps}
use Rattle.range_digest.proofs.Hashing.{hashed_more}
use Rattle.range_digest.proofs.digests.digest_through.Goals as goal

pub loop-done-preserved : goal.loop-done-preserved
loop-done-preserved g c =
    let file = g.F.Files.file in
    let same = c.loop-done.invariant.same_files in
    let long : length (take c.min-piece.result c.loop-done.buf) ≡ c.min-piece.result = search (rules, common_steps) in
    record {
      within = search rules;
      room = search rules;
      none_fell = search rules;
      same_files = search rules;
      unasked = search rules;
      hashed = λ told. hashed_more (file c.args.files.now c.args.name.now) c.args.span.at c.loop-done.done c.min-piece.result c.loop-done.hasher c.add_piece.new.hasher (c.loop-done.invariant.hashed told) (rw (← same, ← long) (c.in_ok-add_piece.ensures.added told));
    }
