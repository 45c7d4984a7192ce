-- What a tree says, by the tree alone: the items at the top, their sections, and the sections within these.
use Rattle.std.specs.Prelude.{List, [], ◌∷◌}
use Rattle.conf_items.specs.declared.outline.InnerItem.{InnerItem}
use Rattle.conf_items.specs.declared.outline.InnerItem.TheVariants as inner
use Rattle.conf_items.specs.declared.outline.SectionItem.{SectionItem}
use Rattle.conf_items.specs.declared.outline.SectionItem.TheVariants as item
use Rattle.conf_items.specs.declared.outline.TopItem.{TopItem}
use Rattle.conf_items.specs.declared.outline.TopItem.TheVariants as top
use Rattle.conf_grammar.specs.Trees.{Items, NoItem, IncludeThen, OptionThen, SectionThen}

-- no text is included
abbrev pub HasNoInclude : Items → Type 0
HasNoInclude NoItem = Unit {0}
HasNoInclude (IncludeThen name rest) = ⊥
HasNoInclude (OptionThen setting rest) = HasNoInclude rest
HasNoInclude (SectionThen head inside rest) = HasNoInclude inside × HasNoInclude rest

-- the items of a section that stands in another: its options, and each section inside by its head
abbrev pub inner_items : Items → List InnerItem
inner_items NoItem = []
inner_items (IncludeThen name rest) = inner_items rest
inner_items (OptionThen setting rest) = inner.Key setting ∷ inner_items rest
inner_items (SectionThen head inside rest) = inner.Section head ∷ inner_items rest

-- the items of a section at the top: its options, and each section inside with its items
abbrev pub section_items : Items → List SectionItem
section_items NoItem = []
section_items (IncludeThen name rest) = section_items rest
section_items (OptionThen setting rest) = item.Key setting ∷ section_items rest
section_items (SectionThen head inside rest) =
    item.Section (record { head = head; items = inner_items inside }) ∷ section_items rest

-- the items at the top
abbrev pub items_of : Items → List TopItem
items_of NoItem = []
items_of (IncludeThen name rest) = items_of rest
items_of (OptionThen setting rest) = top.Setting setting ∷ items_of rest
items_of (SectionThen head inside rest) =
    top.Section (record { head = head; items = section_items inside }) ∷ items_of rest
