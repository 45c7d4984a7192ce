use Rattle.std.proofs.Common.{ap, sym, ◌∙◌}
use Rattle.std.proofs.lemmas.Bool.{iff_false}
use Rattle.placement_claims.proofs.Clashes.{none_clashes}
use Rattle.placement_claims.proofs.earlier.Earlier.first_clash.Goals as goal
use Rattle.placement_claims.specs.Held.{is_late}

pub returns : goal.returns
returns c =
    rw (← c.self.view_is)
    (sym (none_clashes c.args.claim.now c.self.inside.claims
    (λ o own their. iff_false c.shares.ensures c.if-shares.false (o, own, c.self.invariant.exact o ∙ their))
    (ap (is_late c.args.claim.now) (sym c.self.invariant.logical) ∙ sym c.is_late.ensures ∙ c.if-is_late.false)))
