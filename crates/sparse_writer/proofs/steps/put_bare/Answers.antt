use Rattle.std.proofs.Common.{arith}
use Rattle.sparse_writer.proofs.steps.put_bare.Goals as goal

pub returns-in-Ok-clause-written : goal.returns-in-Ok-clause-written
returns-in-Ok-clause-written g c told image cover bare old =
    let done = c.done.ensures in
    c.in-Ok.ensures.written told image cover (λ b not_before before. bare b (omega (arith, done, not_before)) (omega (arith, done, before))) (λ raw. absurd cc) old
