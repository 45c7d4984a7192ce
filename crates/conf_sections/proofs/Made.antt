-- An image that is made and read: none of its keys has a fault, and its own keys have their values.
use Rattle.std.proofs.Common.{◌≡◌, ℕ, true, List, [], ◌∷◌, Option, Some, None, Result, Ok, Err, refl, ◌∙◌, sym, ap, if◌then◌else◌}
use Rattle.std.specs.Prelude.{All}
use Rattle.std.proofs.lemmas.List.Elements.{All-cons, All-nil}
use Rattle.base_fields.proofs.Binds.{bind_ok}
use Rattle.base_fields.specs.Results.{◌>>=◌}
use Rattle.conf_items.specs.declared.outline.SectionItem.{SectionItem}
use Rattle.conf_items.specs.declared.outline.SectionItem.TheVariants as item
use Rattle.conf_items.specs.declared.outline.TopSection.{TopSection}
use Rattle.conf_keys.specs.declared.checking.SectionFault.{SectionFault}
use Rattle.conf_keys.specs.declared.conf.ImageSection.{ImageSection}
use Rattle.conf_keys.specs.declared.settings.Section.TheVariants as section
use Rattle.conf_keys.specs.Checking.{setting_fault}
use Rattle.conf_keys.specs.Items.{top_keys}
use Rattle.conf_keys.specs.Sections.{answer, image_values, name_text, named_fault}
use Rattle.conf_keys.proofs.Settled.{Passes}
use Rattle.conf_sections.specs.Image.{image_named, image_of, is_image_made, read_as, taken, with_items, with_key, with_keys}
use Rattle.conf_sections.specs.declared.image.Origin.TheVariants.{Made, Ready}

-- what is answered has no fault
pub answered : {Keys : Type 0} (fault : Option SectionFault) (values keys : Keys) → answer fault values ≡ Ok keys → (None ≡ fault) × (keys ≡ values)
answered None values keys e = (refl, cc)
answered (Some fault) values keys e = absurd (cc)

keys_pass : (items : List SectionItem) (image whole : ImageSection) → with_items Made items image ≡ Ok whole → All (Passes section.Image) (top_keys items)
keys_pass [] image whole e = All-nil (Passes section.Image)
keys_pass (item.Key setting ∷ rest) image whole e =
    let first = bind_ok (with_key Made image setting) (with_items Made rest) whole e in
    let none = answered (setting_fault section.Image 0 setting) image first.0 first.1 in
    All-cons (Passes section.Image) setting (top_keys rest) (0, none.0) (keys_pass rest first.0 whole first.2)
keys_pass (item.Section inner ∷ rest) image whole e =
    let first = bind_ok (taken Made image inner) (with_items Made rest) whole e in
    keys_pass rest first.0 whole first.2

-- what an image that is made and read has
pub record IsMadeOf (top : TopSection) (image : ImageSection) : Type 0 where
  pub pass : All (Passes section.Image) (top_keys top.items)
  pub size : image.size ≡ (image_values (top_keys top.items)).size
  pub flashtype : image.flashtype ≡ (image_values (top_keys top.items)).flashtype

pub made_of : (top : TopSection) (image : ImageSection) → is_image_made top.items ≡ true → image_of top ≡ Ok image → IsMadeOf top image
made_of top image made e =
    let own = top_keys top.items in
    let as_made : read_as Made top ≡ Ok image = sym (ap (λ b. read_as (if b then Made else Ready) top) made) ∙ e in
    let rest : List ℕ → Result ImageSection SectionFault = λ name. with_items Made top.items (image_named name) >>= λ whole. Ok (with_keys Made own whole) in
    let name = bind_ok (answer (named_fault top.head) (name_text top.head)) rest image as_made in
    let whole = bind_ok (with_items Made top.items (image_named name.0)) (λ whole. Ok (with_keys Made own whole)) image name.2 in
    let same = answered None (with_keys Made own whole.0) image whole.2 in
    record {
      pass = keys_pass top.items (image_named name.0) whole.0 whole.1;
      size = ap (λ (image : ImageSection). image.size) same.1;
      flashtype = ap (λ (image : ImageSection). image.flashtype) same.1;
    }
