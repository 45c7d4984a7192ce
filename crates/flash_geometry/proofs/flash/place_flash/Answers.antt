use Rattle.std.specs.Prelude.{None, length}
use Rattle.std.proofs.Common.{◌≡◌, ◌∙◌, ap, rules, subst, sym}
use Rattle.image_layout.specs.IsLayout.{IsLayout}
use Rattle.flash_geometry.specs.Layouts.{layout_of, refusal}
use Rattle.flash_geometry.proofs.Stands.{counts_are, flash_layout}
use Rattle.flash_geometry.proofs.flash.place_flash.Goals as goal

pub places-requires-clause-lens : goal.places-requires-clause-lens
places-requires-clause-lens c =
    (counts_are c.args.spec.now c.args.geometry.now c.args.lens.now c.requires.flash c.requires.lengths).1 ∙ sym (ap length c.as_slice.ensures)

pub layout_in-requires-clause-sources : goal.layout_in-requires-clause-sources
layout_in-requires-clause-sources c =
    (counts_are c.args.spec.now c.args.geometry.now c.args.lens.now c.requires.flash c.requires.lengths).0

pub layout_in-requires-clause-lens : goal.layout_in-requires-clause-lens
layout_in-requires-clause-lens c =
    (counts_are c.args.spec.now c.args.geometry.now c.args.lens.now c.requires.flash c.requires.lengths).1

pub returns-clause-layout : goal.returns-clause-layout
returns-clause-layout c =
    let placed : (refusal c.args.spec.now c.args.geometry.now c.args.lens.now ≡ None) × (c.in_ok-layout_in.field-0 ≡ layout_of c.args.spec.now c.args.geometry.now c.args.lens.now) = search rules in
    subst IsLayout (sym placed.1) (flash_layout c.args.spec.now c.args.geometry.now c.args.lens.now c.requires.flash c.requires.lengths placed.0)
