use Rattle.std.proofs.Common.{◌≡◌, true, false, take, get_or, ◌∙◌}
use Rattle.region_pool.proofs.Slots.{take-set-any, free_given}
use Rattle.region_pool.proofs.pool.Pool.give.Goals as goal

pub returns-clause-back : goal.returns-clause-back
returns-clause-back c = rw (← c.self.view_is, ← c.lease.view_is) (simp take-set-any)

pub returns-clause-more : goal.returns-clause-more
returns-clause-more c =
    let held : get_or (take c.self.inside.count c.self.inside.out) c.lease.inside.slot false ≡ true =
    (λ i. get_or (c.self.view_is i).out (c.lease.view_is i).slot false) ∙ c.requires.out in
    rw (← c.self.view_is) (free_given c.self.inside.count c.lease.inside.slot c.self.inside.out held)
