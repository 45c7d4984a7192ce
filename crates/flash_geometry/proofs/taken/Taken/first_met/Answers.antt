use Rattle.std.proofs.Common.{◌≡◌, ◌∙◌, true, false, ap, sym, subst}
use Rattle.span_cover.specs.Cover.{Meets}
use Rattle.span_cover.proofs.Spans.{true≢false}
use Rattle.flash_geometry.specs.Taken.{first_met}
use Rattle.flash_geometry.proofs.Spans.{unmet}
use Rattle.flash_geometry.proofs.taken.Taken.first_met.Goals as goal

pub returns-then-not-meets-clause-exact : goal.returns-then-not-meets-clause-exact
returns-then-not-meets-clause-exact c =
    sym (ap (λ ss. first_met ss c.args.span) (sym c.self.view_is)
    ∙ unmet c.self.inside.spans.items c.self.inside.cover c.self.inside.last c.args.span c.self.invariant (λ m.
    let hit : false ≡ true = c.if-not-meets.ensures.1 (subst (Meets c.self.inside.cover) (sym c.within_most.ensures.exact) m) in
    true≢false (sym hit)))
