use Rattle.std.proofs.Common.{◌≡◌, ◌∙◌, true, false, sym, ap}
use Rattle.std.proofs.lemmas.List.Elements.{All-push, All-same}
use Rattle.image_names.specs.Images.{built_names, is_built}
use Rattle.image_names.proofs.ClashLemmas.{made_more, made_read}
use Rattle.image_specs.specs.declared.specs.ImageSpec.{ImageSpec}
use Rattle.image_specs.specs.Identifiers.{HasIdentifiers}
use Rattle.image_specs.specs.Specs.{spec_of}
use Rattle.image_specs.proofs.sources.specs_made.Goals.{then-is_built+in_ok-spec_of+in_ok-push, else-is_built}
use Rattle.image_specs.proofs.sources.specs_made.Goals as goal

pub loop-image-preserved : goal.loop-image-preserved
loop-image-preserved c = record {
  made = elim c.if-is_built.branch [
    | then-is_built+in_ok-spec_of+in_ok-push w ↦
        let built : is_built c.image-item.result ≡ true = sym w.if-is_built.ensures in
        let same = w.in_ok-spec_of.ensures.spec ∙ ap (λ names. spec_of c.args.conf.now names c.image-item.result) c.requires.built in
        w.specs-is
        ∙ made_more (spec_of c.args.conf.now (built_names c.args.conf.now)) c.as_slice-image-items.result.now c.loop-image.image-index c.image-item.result _ _ _ c.loop-image-test.true c.image-item.is built same c.loop-image.invariant.made w.in_ok-push.ensures.ok
    | else-is_built w ↦
        let built : is_built c.image-item.result ≡ false = sym w.if-is_built.ensures in
        w.specs-is
        ∙ c.loop-image.invariant.made
        ∙ sym (made_read (spec_of c.args.conf.now (built_names c.args.conf.now)) c.as_slice-image-items.result.now c.loop-image.image-index c.image-item.result false c.loop-image-test.true c.image-item.is built)
  ];
  identifiers = elim c.if-is_built.branch [
    | then-is_built+in_ok-spec_of+in_ok-push w ↦
        All-same (λ (spec : ImageSpec). HasIdentifiers spec.keys) _ _ (w.specs-is ∙ w.in_ok-push.ensures.ok) (All-push (λ (spec : ImageSpec). HasIdentifiers spec.keys) _ _ c.loop-image.invariant.identifiers w.in_ok-spec_of.ensures.identifiers)
    | else-is_built w ↦
        All-same (λ (spec : ImageSpec). HasIdentifiers spec.keys) _ _ w.specs-is c.loop-image.invariant.identifiers
  ];
}
