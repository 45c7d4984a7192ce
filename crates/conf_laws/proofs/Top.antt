-- The keys of a section at the top that is read.
use Rattle.std.proofs.Common.{◌≡◌, ℕ, ◌-◌, ◌^◌, ◌||◌, Bool, cond, true, false, List, Option, Some, None, refl, ◌∙◌}
use Rattle.std.specs.Prelude.{All, codes, nat_le}
use Rattle.conf_items.specs.declared.outline.SectionItem.{SectionItem}
use Rattle.conf_values.specs.Values.{number_between, number_of, size_from, size_of}
use Rattle.conf_keys.specs.declared.checking.SectionFault.{SectionFault}
use Rattle.conf_keys.specs.declared.checking.SectionFault.TheVariants.{BadValue}
use Rattle.conf_keys.specs.declared.settings.Section.{Section}
use Rattle.conf_keys.specs.declared.settings.Section.TheVariants as section
use Rattle.conf_keys.specs.declared.settings.Shape.{Shape}
use Rattle.conf_keys.specs.declared.settings.Shape.TheVariants as shape
use Rattle.conf_keys.specs.Items.{top_key, top_keys}
use Rattle.conf_keys.specs.Sections.{config_values, flash_head_fault, flash_values, is_lacking, is_too_large, lacks_key, named_fault, top_section_fault, unnamed_fault}
use Rattle.conf_keys.specs.Settings.{last_text, shape_of}
use Rattle.conf_keys.proofs.Settled.{IsFitting, IsSingle, Passes, last_fits, top_faultless, top_keys_pass}
use Rattle.conf_laws.specs.Accepted.{ConfigHas, ConfigStands, FlashHas, FlashStands}
use Rattle.conf_sections.proofs.Made.{answered}
use Rattle.conf_laws.proofs.Stand.{passing_keeps, stands_given, text_stands}

-- a key that isn't lacking has a text that fits, where no key has a fault
abbrev pub CanFit : Section → List SectionItem → Type 0
CanFit whose items =
    (form : Shape) (name : List ℕ) → shape_of whose name ≡ Some form → IsSingle form → is_lacking name (top_keys items) ≡ false → IsFitting form (last_text name (top_keys items))

pub can_fit : (whose : Section) (items : List SectionItem) → All (Passes whose) (top_keys items) → CanFit whose items
can_fit whose items pass = λ form name is single lacks. last_fits whose form name (top_keys items) is single pass lacks

pub config_stands : ConfigStands
config_stands head items keys e =
    let a = answered (top_section_fault (unnamed_fault head) section.Config items) (config_values (top_keys items)) keys e in
    let none = top_faultless (unnamed_fault head) section.Config items a.0 in
    let can : CanFit section.Config items = can_fit section.Config items (top_keys_pass section.Config items none.1) in
    rw a.1 (record {
      inputpath = text_stands top_key items (codes "inputpath") (can shape.Text (codes "inputpath") refl (λ before what. refl));
      outputpath = text_stands top_key items (codes "outputpath") (can shape.Text (codes "outputpath") refl (λ before what. refl));
    })

-- a head without a fault lacks no key
none_lacks : (lacks large : Bool) (fault : SectionFault) (next : Option SectionFault) → None ≡ cond (lacks || large) (Some fault) next → lacks ≡ false
none_lacks true large fault next e = absurd (cc)
none_lacks false large fault next e = refl

neither_lacks : (a b : Bool) → (a || b) ≡ false → (a ≡ false) × (b ≡ false)
neither_lacks true b e = absurd (cc)
neither_lacks false b e = (refl, e)

pub flash_stands : FlashStands
flash_stands head items keys e =
    let settings = top_keys items in
    let a = answered (top_section_fault (flash_head_fault head settings) section.Flash items) (flash_values head settings) keys e in
    let none = top_faultless (flash_head_fault head settings) section.Flash items a.0 in
    let can : CanFit section.Flash items = can_fit section.Flash items (top_keys_pass section.Flash items none.1) in
    let given = neither_lacks (is_lacking (codes "pebsize") settings) (is_lacking (codes "numpebs") settings)
    (none_lacks (lacks_key settings) (is_too_large settings) (BadValue head.word.place) (named_fault head) none.0) in
    rw a.1 (record {
      pebsize = stands_given top_key items (codes "pebsize") (size_from 1) size_of 0 (λ text n. passing_keeps (nat_le 1) (size_of text) n) (can (shape.Size 1) (codes "pebsize") refl (λ before what. refl)) given.0;
      numpebs = stands_given top_key items (codes "numpebs") (number_between 1 (2 ^ 64 - 1)) number_of 0 (λ text n. passing_keeps _ (number_of text) n) (can (shape.Number 1 (2 ^ 64 - 1)) (codes "numpebs") refl (λ before what. refl)) given.1;
    })
