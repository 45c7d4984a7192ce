-- The keys among the items of a section, in order; a section inside is none of them.
use Rattle.std.specs.Prelude.{ℕ, Bool, false, List, Option, Some, None}
use Rattle.std.specs.List.{filter_map}
use Rattle.conf_items.specs.declared.items.Setting.{Setting}
use Rattle.conf_items.specs.declared.outline.InnerItem.{InnerItem}
use Rattle.conf_items.specs.declared.outline.InnerItem.TheVariants as inner
use Rattle.conf_items.specs.declared.outline.SectionItem.{SectionItem}
use Rattle.conf_items.specs.declared.outline.SectionItem.TheVariants as item
use Rattle.conf_keys.specs.Settings.{has_key}

-- of a section that stands in another
abbrev pub inner_key : InnerItem → Option Setting
inner_key (inner.Key setting) = Some setting
inner_key (inner.Section head) = None

abbrev pub inner_keys : List InnerItem → List Setting
inner_keys items = filter_map inner_key items

-- of a section at the top
abbrev pub top_key : SectionItem → Option Setting
top_key (item.Key setting) = Some setting
top_key (item.Section section) = None

abbrev pub top_keys : List SectionItem → List Setting
top_keys items = filter_map top_key items

-- a key of that name
abbrev pub is_named : List ℕ → Option Setting → Bool
is_named name None = false
is_named name (Some setting) = has_key name setting
