use Rattle.std.proofs.Common.{◌≡◌, ◌∙◌, length, take, rules}
use Rattle.std.proofs.lemmas.Grind.{common_steps}
use Rattle.image_tables.proofs.Headers.{puts_head}
use Rattle.image_tables.proofs.guid.put_head.Goals as goal

pub returns-clause-puts : goal.returns-clause-puts
returns-clause-puts g c = λ told.
    let file = g.F.Files.file in
    let long : length (take c.args.sector c.args.buf.now) ≡ c.args.sector = search (rules, common_steps) in
    let full : length c.set_head.new.room ≡ c.args.sector = c.set_head.ensures.len ∙ long in
    puts_head c.args.at c.args.sector c.args.head.now c.set_head.new.room c.args.name.now (file c.args.files.now) (file c.put_bytes.new.files)
    full (λ o inside. c.set_head.ensures.bytes o (rw long inside)) (c.in_ok-put_bytes.ensures.puts told)
