use Rattle.std.proofs.Common.{◌≡◌, ◌+◌, ◌-◌, ◌≤◌, length, arith, rules}
use Rattle.std.proofs.lemmas.Grind.{common_steps}
use Rattle.outside.proofs.ReadLemmas.{more_read, read_there}
use Rattle.outside.proofs.reading.fill.Goals as goal

pub loop-done-preserved : goal.loop-done-preserved
loop-done-preserved g c =
    let file = g.F.Files.file in
    let name = c.args.name.now in
    let at = c.args.off + c.loop-done.done in
    let found = λ (told : g.F.Files.told).
    read_there (file c.args.files.now name) at c.in-Ok.n c.read_at.new.buf (rw c.loop-done.invariant.same_files at (c.in-Ok.ensures.there told)) in
    let part : c.in-Ok.n ≤ length c.loop-done.buf - c.loop-done.done = search (rules, common_steps, c.in-Ok.ensures.within) in
    let long : length c.read_at.new.buf ≡ length c.loop-done.buf - c.loop-done.done = search (rules, common_steps) in
    record {
      within = search rules;
      none_fell = search rules;
      same_files = search rules;
      there = λ told more. ((found told).0, let inside = (found told).1.inside in omega arith);
      same = λ told. more_read _ c.loop-done.buf c.read_at.new.buf c.args.off c.loop-done.done c.in-Ok.n (let test = c.loop-done-test.true in omega arith) long (c.loop-done.invariant.same told) (found told).1.same;
    }
