use Rattle.std.proofs.Common.{◌≡◌, ◌∙◌, sym, ap, Some, true, rules}
use Rattle.std.specs.Str.{bytes_eq}
use Rattle.image_specs.specs.declared.specs.ImageSpec.{ImageSpec}
use Rattle.image_specs.specs.Specs.{spec_names}
use Rattle.image_names.specs.Names.{number_of}
use Rattle.image_names.proofs.NameLemmas.{found_at, found_nowhere, position-map}
use Rattle.image_graph.proofs.images.Graph.find.Goals as goal

pub returns-then-eq : goal.returns-then-eq
returns-then-eq c =
    let same : bytes_eq c.args.name.now c.spec-item.result.name ≡ true = search rules in
    ap Some c.loop-spec.invariant.count
    ∙ sym (found_at (λ (spec : ImageSpec). bytes_eq c.args.name.now spec.name) c.as_slice-spec-items.result.now c.loop-spec.spec-index c.spec-item.result c.loop-spec-test.true c.spec-item.is c.loop-spec.invariant.rest same)
    ∙ sym (position-map (bytes_eq c.args.name.now) (λ (spec : ImageSpec). spec.name) c.as_slice-spec-items.result.now)
    ∙ ap (λ specs. number_of (spec_names specs) c.args.name.now) c.as_slice-spec-items.ensures

pub returns : goal.returns
returns c =
    sym (found_nowhere (λ (spec : ImageSpec). bytes_eq c.args.name.now spec.name) c.as_slice-spec-items.result.now c.loop-spec.spec-index c.loop-spec-test.false c.loop-spec.auto.spec-index-end c.loop-spec.invariant.rest)
    ∙ sym (position-map (bytes_eq c.args.name.now) (λ (spec : ImageSpec). spec.name) c.as_slice-spec-items.result.now)
    ∙ ap (λ specs. number_of (spec_names specs) c.args.name.now) c.as_slice-spec-items.ensures
