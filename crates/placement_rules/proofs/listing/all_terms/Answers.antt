use Rattle.std.proofs.Common.{List, [], ap, length, subst, sym, ◌∙◌}
use Rattle.placement_rules.proofs.AllTerms.{terms_length, terms_within, listed}
use Rattle.placement_rules.specs.Bounds.{AreTerms}
use Rattle.placement_rules.specs.declared.terms.Terms.{Terms}
use Rattle.placement_rules.proofs.listing.all_terms.Goals as goal

pub returns-clause-within : goal.returns-clause-within
returns-clause-within c =
    subst (λ (ts : List Terms). AreTerms ts)
    (sym (listed c.args.spec.now _ c.args.spec.now.keys.parts c.as_slice-parts.result.now c.args.lens.now c.loop-k.terms c.loop-k.k c.as_slice-parts.ensures c.loop-k-test.false c.loop-k.invariant.terms))
    (terms_within c.args.spec.now c.args.lens.now c.requires.within)

pub returns-clause-count : goal.returns-clause-count
returns-clause-count c =
    ap (λ (ts : List Terms). length ts)
    (listed c.args.spec.now _ c.args.spec.now.keys.parts c.as_slice-parts.result.now c.args.lens.now c.loop-k.terms c.loop-k.k c.as_slice-parts.ensures c.loop-k-test.false c.loop-k.invariant.terms)
    ∙ terms_length c.args.spec.now _ [] c.args.spec.now.keys.parts c.args.lens.now c.requires.lens
