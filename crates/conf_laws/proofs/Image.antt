-- The own keys of an image that is made and read.
use Rattle.std.proofs.Common.{◌≡◌, refl}
use Rattle.std.specs.Prelude.{codes, nat_le}
use Rattle.conf_values.specs.Values.{size_from, size_of}
use Rattle.conf_keys.specs.declared.settings.Section.TheVariants as section
use Rattle.conf_keys.specs.declared.settings.Shape.TheVariants as shape
use Rattle.conf_keys.specs.Items.{top_key}
use Rattle.conf_sections.proofs.Made.{made_of}
use Rattle.conf_laws.specs.Accepted.{ImageHas, ImageStands}
use Rattle.conf_laws.proofs.Stand.{passing_keeps, stands_if, text_stands}
use Rattle.conf_laws.proofs.Top.{CanFit, can_fit}

pub image_stands : ImageStands
image_stands top image made e =
    let has = made_of top image made e in
    let can : CanFit section.Image top.items = can_fit section.Image top.items has.pass in
    record {
      size = rw has.size (stands_if top_key top.items (codes "size") (size_from 0) size_of (λ text n. passing_keeps (nat_le 0) (size_of text) n) (can (shape.Size 0) (codes "size") refl (λ before what. refl)));
      flashtype = rw has.flashtype (text_stands top_key top.items (codes "flashtype") (can shape.Text (codes "flashtype") refl (λ before what. refl)));
    }
