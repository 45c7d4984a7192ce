use Rattle.std.proofs.Common.{ap, subst, sym, ◌∙◌}
use Rattle.placement_rules.proofs.Stands.{stands}
use Rattle.placement_rules.specs.Bounds.{IsStanding, place_fault}
use Rattle.placement_rules.specs.declared.terms.Place.{Place}
use Rattle.placement_rules.proofs.standing.stand.Goals as goal

pub returns-clause-ends : goal.returns-clause-ends
returns-clause-ends c =
    subst (λ (p : Place). IsStanding c.args.frame.now c.args.terms.now p) (sym c.standing-place.ensures.exact)
    (stands c.args.frame.now c.args.terms.now c.args.highest c.in_ok-check_aligns.ensures
    (ap (λ (p : Place). place_fault c.args.terms.now p) (sym c.standing-place.ensures.exact) ∙ c.in_ok-check_place.ensures))
