-- What each setting, start and end of a section makes of the outline of the texts up to there.
use Rattle.std.specs.Prelude.{ℕ, ◌+◌, ◌-◌, nat_eq, List, [], ◌∷◌, ◌++◌, if◌then◌else◌}
use Rattle.conf_items.specs.declared.items.Setting.{Setting}
use Rattle.conf_items.specs.declared.items.Head.{Head}
use Rattle.conf_items.specs.declared.outline.InnerItem.{InnerItem}
use Rattle.conf_items.specs.declared.outline.InnerItem.TheVariants as within
use Rattle.conf_items.specs.declared.outline.SectionItem.{SectionItem}
use Rattle.conf_items.specs.declared.outline.SectionItem.TheVariants as item
use Rattle.conf_items.specs.declared.outline.Subsection.{Subsection}
use Rattle.conf_items.specs.declared.outline.TopSection.{TopSection}
use Rattle.conf_items.specs.declared.outline.TopItem.{TopItem}
use Rattle.conf_items.specs.declared.outline.TopItem.TheVariants as top
use Rattle.conf_items.specs.declared.outline.OpenSections.{OpenSections}
use Rattle.conf_items.specs.declared.outline.OpenSections.TheVariants.{Nothing, Outer, Inner}
use Rattle.conf_items.specs.declared.outline.Outline.{Outline}

-- the section with one more item
abbrev pub with_item : TopSection → SectionItem → TopSection
with_item section item = record section { items = section.items ++ item ∷ [] }

abbrev pub with_inner_item : Subsection → InnerItem → Subsection
with_inner_item section item = record section { items = section.items ++ item ∷ [] }

-- a setting belongs to the innermost open section, and is left out past two
abbrev pub setting_in : List TopItem → Setting → OpenSections → Outline
setting_in items setting Nothing = record { items = items ++ top.Setting setting ∷ []; inside = Nothing }
setting_in items setting (Outer outer) =
    record { items = items; inside = Outer (with_item outer (item.Key setting)) }
setting_in items setting (Inner outer inner deeper) = record {
  items = items;
  inside = Inner outer (if nat_eq deeper 0 then with_inner_item inner (within.Key setting) else inner) deeper;
}

abbrev pub with_setting : Outline → Setting → Outline
with_setting outline setting = setting_in outline.items setting outline.inside

-- a section begins in the innermost open one; past two it is counted, and the first stands by its head
abbrev pub opened_in : Head → OpenSections → OpenSections
opened_in head Nothing = Outer (record { head = head; items = [] })
opened_in head (Outer outer) = Inner outer (record { head = head; items = [] }) 0
opened_in head (Inner outer inner deeper) =
    Inner outer (if nat_eq deeper 0 then with_inner_item inner (within.Section head) else inner) (deeper + 1)

abbrev pub opened : Outline → Head → Outline
opened outline head = record outline { inside = opened_in head outline.inside }

-- the innermost open section ends, and is an item of the one around it
abbrev pub inner_closed : List TopItem → TopSection → Subsection → ℕ → Outline
inner_closed items outer inner deeper = record {
  items = items;
  inside = if nat_eq deeper 0 then Outer (with_item outer (item.Section inner)) else Inner outer inner (deeper - 1);
}

abbrev pub closed_in : List TopItem → OpenSections → Outline
closed_in items Nothing = record { items = items; inside = Nothing }
closed_in items (Outer outer) = record { items = items ++ top.Section outer ∷ []; inside = Nothing }
closed_in items (Inner outer inner deeper) = inner_closed items outer inner deeper

abbrev pub closed : Outline → Outline
closed outline = closed_in outline.items outline.inside

-- how many sections are open past two
abbrev pub open_deeper : OpenSections → ℕ
open_deeper (Inner outer inner deeper) = deeper
open_deeper _ = 0

abbrev pub deeper_of : Outline → ℕ
deeper_of outline = open_deeper outline.inside
