use Rattle.std.proofs.Common.{◌≡◌, ◌∙◌, true, ap, cond, None, rules}
use Rattle.image_names.specs.Clashes.{clash_among, full_clash, full_of}
use Rattle.image_names.specs.Stages.{Passes}
use Rattle.image_names.specs.Images.{is_built}
use Rattle.image_names.proofs.ClashLemmas.{passes_same}
use Rattle.image_names.proofs.clashes.add_full.Goals as goal

pub returns-in_err-add_new-clause-passes : goal.returns-in_err-add_new-clause-passes
returns-in_err-add_new-clause-passes c =
    let built : is_built c.args.image.now ≡ true = search rules in
    let full : full_of c.args.output.now c.args.image.now ≡ c.text-2.result.now = search rules in
    let whole : full_clash c.args.fulls.now c.args.output.now c.args.image.now ≡ clash_among c.args.fulls.now c.text-2.result.now = ap (λ b. cond b (clash_among c.args.fulls.now (full_of c.args.output.now c.args.image.now)) None) built ∙ ap (clash_among c.args.fulls.now) full in
    let passes : Passes (clash_among c.args.fulls.now c.text-2.result.now) c.from_residual-in_err-add_new.result = search rules in
    passes_same _ _ _ whole passes
