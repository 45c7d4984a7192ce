use Rattle.std.proofs.Common.{◌≡◌, ◌∙◌, ◌+◌, ◌++◌, ◌∷◌, [], refl, sym, ap, cond, drop, take, rules}
use Rattle.std.specs.Option.{option_or}
use Rattle.image_names.specs.Clashes.{clash_with, full_of, image_again, image_clash}
use Rattle.image_names.specs.Stages.{Passes}
use Rattle.image_names.specs.Images.{is_built}
use Rattle.image_names.proofs.ClashLemmas.{again_read, made_read, names_read, passes_same}
use Rattle.image_names.proofs.clashes.image_clash.Goals as goal

pub returns-in_err-add_image : goal.returns-in_err-add_image
returns-in_err-add_image c =
    let i = c.loop-image.image-index in
    let images = c.args.images.now in
    let output = c.args.output.now in
    let clash = clash_with c.loop-image.names c.loop-image.fulls output c.image-item.result in
    let rest = image_again output (take (i + 1) images) (drop (i + 1) images) in
    let whole : image_clash output images ≡ option_or clash rest =
    c.loop-image.invariant.rest ∙ again_read output images i c.image-item.result c.loop-image.names c.loop-image.fulls c.loop-image-test.true c.image-item.is c.loop-image.invariant.names c.loop-image.invariant.fulls in
    let passes : Passes (option_or clash rest) c.from_residual.result = search rules in
    passes_same _ _ _ whole passes

pub loop-image-preserved : goal.loop-image-preserved
loop-image-preserved c =
    let i = c.loop-image.image-index in
    let images = c.args.images.now in
    let image = c.image-item.result in
    let output = c.args.output.now in
    let rest = image_again output (take (i + 1) images) (drop (i + 1) images) in
    record {
      names = c.in_ok-add_image.ensures.names ∙ ap (λ ns. ns ++ image.name ∷ []) c.loop-image.invariant.names ∙ sym (names_read images i image c.loop-image-test.true c.image-item.is);
      fulls =
          c.in_ok-add_image.ensures.fulls
          ∙ ap (λ fs. cond (is_built image) (fs ++ full_of output image ∷ []) fs) c.loop-image.invariant.fulls
          ∙ sym (made_read (full_of output) images i image (is_built image) c.loop-image-test.true c.image-item.is refl);
      rest =
          c.loop-image.invariant.rest
          ∙ again_read output images i image c.loop-image.names c.loop-image.fulls c.loop-image-test.true c.image-item.is c.loop-image.invariant.names c.loop-image.invariant.fulls
          ∙ ap (λ o. option_or o rest) c.in_ok-add_image.ensures.passes;
    }
