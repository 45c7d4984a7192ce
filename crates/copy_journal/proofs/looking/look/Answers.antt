use Rattle.std.proofs.Common.{◌≡◌, ◌≤◌, ℕ, List, length, take, ap, ◌∙◌, arith}
use Rattle.bench.specs.declared.Dev.{Dev}
use Rattle.bench.specs.declared.Dev.TheVariants.{Journal}
use Rattle.copy_journal.proofs.GateLemmas.{found_tells}
use Rattle.copy_journal.proofs.looking.look.Goals as goal

pub returns-clause-exact : goal.returns-clause-exact
returns-clause-exact g c told =
    let j = (g.B.Bench.disk c.args.bench.now).reads Journal in
    let size : c.in_ok-length.length ≡ length j = c.in_ok-length.ensures.exact told in
    let long : 80 ≤ length j = omega (arith, size, c.if-length.false) in
    let head : c.read_at.new.buf ≡ take 80 j = c.in_ok-read_at.ensures.there told ∙ ap (λ (f : Dev → List ℕ). take 80 (f Journal)) c.length.ensures.looked.reads in
    found_tells j c.read_at.new.buf c.in_ok-length.length c.found_in.result size long head c.found_in.ensures
