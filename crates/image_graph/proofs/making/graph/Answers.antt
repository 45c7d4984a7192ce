use Rattle.std.proofs.Common.{◌≡◌, ◌∙◌, ap, sym, subst, List, None}
use Rattle.std.specs.Prelude.{All}
use Rattle.image_specs.specs.declared.specs.ImageSpec.{ImageSpec}
use Rattle.image_specs.specs.IsSpec.{IsSpec}
use Rattle.image_specs.specs.Specs.{specs_of}
use Rattle.image_graph.specs.Clashes.{file_clash}
use Rattle.image_graph.specs.Graph.{ordered}
use Rattle.image_graph.proofs.MadeLemmas.{HasMade, has_made}
use Rattle.image_graph.proofs.making.graph.Goals as goal

pub returns-clause-sound : goal.returns-clause-sound
returns-clause-sound c =
    let specs = c.in_ok-specs.ensures.specs in
    let passes : file_clash c.as_slice.result.now c.as_slice-2.result.now ≡ None = c.in_ok-file_clash.ensures in
    let free : file_clash c.args.conf.now.texts (specs_of c.args.conf.now) ≡ None =
    sym (ap (file_clash c.args.conf.now.texts) (c.as_slice-2.ensures ∙ specs)) ∙ sym (ap (λ texts. file_clash texts c.as_slice-2.result.now) c.as_slice.ensures) ∙ passes in
    (has_made c.args.conf.now c.in_ok-ordered.field-0 c.in_ok-check_sections.ensures.passes free (ap ordered (sym specs) ∙ c.in_ok-ordered.ensures)).sound

pub returns-clause-texts : goal.returns-clause-texts
returns-clause-texts c =
    let specs = c.in_ok-specs.ensures.specs in
    let passes : file_clash c.as_slice.result.now c.as_slice-2.result.now ≡ None = c.in_ok-file_clash.ensures in
    let free : file_clash c.args.conf.now.texts (specs_of c.args.conf.now) ≡ None =
    sym (ap (file_clash c.args.conf.now.texts) (c.as_slice-2.ensures ∙ specs)) ∙ sym (ap (λ texts. file_clash texts c.as_slice-2.result.now) c.as_slice.ensures) ∙ passes in
    (has_made c.args.conf.now c.in_ok-ordered.field-0 c.in_ok-check_sections.ensures.passes free (ap ordered (sym specs) ∙ c.in_ok-ordered.ensures)).texts

pub returns-clause-specs : goal.returns-clause-specs
returns-clause-specs c = λ within.
    let specs = c.in_ok-specs.ensures.specs in
    let passes : file_clash c.as_slice.result.now c.as_slice-2.result.now ≡ None = c.in_ok-file_clash.ensures in
    let free : file_clash c.args.conf.now.texts (specs_of c.args.conf.now) ≡ None =
    sym (ap (file_clash c.args.conf.now.texts) (c.as_slice-2.ensures ∙ specs)) ∙ sym (ap (λ texts. file_clash texts c.as_slice-2.result.now) c.as_slice.ensures) ∙ passes in
    let made : HasMade c.args.conf.now c.in_ok-ordered.field-0 = has_made c.args.conf.now c.in_ok-ordered.field-0 c.in_ok-check_sections.ensures.passes free (ap ordered (sym specs) ∙ c.in_ok-ordered.ensures) in
    subst (λ (xs : List ImageSpec). All IsSpec xs) (specs ∙ sym made.specs) (c.in_ok-specs.ensures.fit within)
