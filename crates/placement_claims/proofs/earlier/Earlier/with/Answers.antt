use Rattle.std.proofs.Common.{ap, max, ◌∙◌}
use Rattle.placement_claims.proofs.Clashes.{taken_with}
use Rattle.placement_claims.proofs.earlier.Earlier.with.Goals as goal

pub invariant_of-result : goal.invariant_of-result
invariant_of-result c =
    rw c.in_ok-push.ensures.ok
    (taken_with c.self.inside.claims c.args.claim c.self.inside.taken c.cover.result.now c.add_all.new.cover c.self.inside.last_end _ c.self.inside.greatest_end _
    c.self.invariant c.in_ok-add_all.ensures.ok c.cover.ensures c.end.ensures.held c.last_of-last_end.ensures
    (c.max-greatest_end.ensures ∙ ap (max c.self.inside.greatest_end) c.end.ensures.exact))
