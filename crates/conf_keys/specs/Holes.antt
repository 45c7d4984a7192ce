-- The holes that keys give: = begins them anew, += appends.
use Rattle.std.specs.Prelude.{List, [], ◌++◌, option_to_list, codes, fold, if◌then◌else◌}
use Rattle.conf_values.specs.declared.values.Hole.{Hole}
use Rattle.conf_items.specs.declared.items.Word.{Word}
use Rattle.conf_items.specs.declared.items.Value.TheVariants.{Many}
use Rattle.conf_items.specs.declared.items.Given.{Given}
use Rattle.conf_items.specs.declared.items.Given.TheVariants as given
use Rattle.conf_items.specs.declared.items.Setting.{Setting}
use Rattle.conf_items.specs.declared.outline.InnerItem.{InnerItem}
use Rattle.conf_items.specs.declared.outline.InnerItem.TheVariants as inner
use Rattle.conf_keys.specs.Settings.{has_key}
use Rattle.conf_values.specs.Values.{hole_of}

abbrev pub with_hole : List Hole → Word → List Hole
with_hole holes word = holes ++ option_to_list (hole_of word.text)

abbrev pub given_holes : List Hole → Given → List Hole
given_holes holes (given.Set (Many place words)) = fold with_hole [] words
given_holes holes (given.Added (Many place words)) = fold with_hole holes words
given_holes holes _ = holes

abbrev pub with_setting : List Hole → Setting → List Hole
with_setting holes setting = if has_key (codes "holes") setting then given_holes holes setting.given else holes

-- the holes behind one more item; a section gives none
abbrev pub with_item : List Hole → InnerItem → List Hole
with_item holes (inner.Key setting) = with_setting holes setting
with_item holes (inner.Section head) = holes

abbrev pub holes_of : List Setting → List Hole
holes_of settings = fold with_setting [] settings
