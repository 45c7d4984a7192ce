use Rattle.std.proofs.Common.{◌≡◌, ◌∙◌, ◌≤◌, length, true, false, sym, ap, arith}
use Rattle.std.proofs.lemmas.List.{take_all}
use Rattle.conf_keys.specs.declared.conf.ImageSection.{ImageSection}
use Rattle.image_names.specs.Images.{is_built}
use Rattle.image_names.specs.Images.{names_built}
use Rattle.image_names.proofs.ClashLemmas.{apart_read, few_built, made_read, new_name}
use Rattle.image_specs.proofs.sources.built_names.Goals.{then-is_built+in_ok-add, else-is_built}
use Rattle.image_specs.proofs.sources.built_names.Goals as goal

pub loop-image-preserved : goal.loop-image-preserved
loop-image-preserved c =
    let i = c.loop-image.image-index in
    let images = c.as_slice-image-items.result.now in
    let image = c.image-item.result in
    let next = apart_read c.args.conf.now.output images i image c.loop-image-test.true c.image-item.is c.loop-image.invariant.apart in
    record {
      names = elim c.if-is_built.branch [
        | then-is_built+in_ok-add w ↦
            let built : is_built c.image-item.result ≡ true = sym w.if-is_built.ensures in
            w.names-is
            ∙ new_name _ _ _ _ _ _ c.loop-image.invariant.names w.text.ensures next.0 w.in_ok-add.ensures.new w.in_ok-add.ensures.names
            ∙ sym (made_read (λ (image : ImageSection). image.name) c.as_slice-image-items.result.now c.loop-image.image-index c.image-item.result true c.loop-image-test.true c.image-item.is built)
        | else-is_built w ↦
            let built : is_built c.image-item.result ≡ false = sym w.if-is_built.ensures in
            w.names-is
            ∙ c.loop-image.invariant.names
            ∙ sym (made_read (λ (image : ImageSection). image.name) c.as_slice-image-items.result.now c.loop-image.image-index c.image-item.result false c.loop-image-test.true c.image-item.is built)
      ];
      apart = next.1;
    }

pub returns-clause-few : goal.returns-clause-few
returns-clause-few c =
    let all : c.loop-image.names ≡ names_built c.as_slice-image-items.result.now = c.loop-image.invariant.names ∙ ap names_built (take_all c.loop-image.image-index c.as_slice-image-items.result.now c.loop-image-test.false) in
    let few : length c.as_slice-image-items.result.now ≤ 64 = rw c.as_slice-image-items.ensures c.requires.few in
    let bound : length (names_built c.as_slice-image-items.result.now) ≤ length c.as_slice-image-items.result.now = few_built c.as_slice-image-items.result.now in
    rw all (omega arith)
