use Rattle.std.proofs.Common.{List, subst, sym}
use Rattle.std.specs.Prelude.{All}
use Rattle.image_names.proofs.CheckLemmas.{is_checked, no_clash}
use Rattle.image_specs.specs.declared.specs.ImageSpec.{ImageSpec}
use Rattle.image_specs.specs.Identifiers.{HasIdentifiers}
use Rattle.image_specs.specs.IsSpec.{IsSpec}
use Rattle.image_specs.proofs.SpecLemmas.{all_fit}
use Rattle.image_specs.proofs.sources.specs_of.Goals as goal

pub built_names-requires-clause-few : goal.built_names-requires-clause-few
built_names-requires-clause-few c = (is_checked c.args.conf.now c.requires.checked).few

pub built_names-requires-clause-apart : goal.built_names-requires-clause-apart
built_names-requires-clause-apart c = no_clash c.args.conf.now c.requires.checked

pub returns-clause-fit : goal.returns-clause-fit
returns-clause-fit c = λ within.
    let made = c.in_ok-specs_made.ensures in
    let whole = subst (λ (specs : List ImageSpec). All (λ spec. HasIdentifiers spec.keys) specs) made.specs made.identifiers in
    subst (λ (specs : List ImageSpec). All IsSpec specs) (sym made.specs) (all_fit c.args.conf.now within (is_checked c.args.conf.now c.requires.checked) whole)
