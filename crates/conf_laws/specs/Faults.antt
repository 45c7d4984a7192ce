-- The first item of a section that has a fault: it has one, and those in front of it have none.
use Rattle.std.specs.Prelude.{◌≡◌, List, ◌∷◌, ◌++◌, Some, None, All, MatchOption}
use Rattle.conf_items.specs.declared.outline.InnerItem.{InnerItem}
use Rattle.conf_items.specs.declared.outline.SectionItem.{SectionItem}
use Rattle.conf_keys.specs.declared.checking.SectionFault.{SectionFault}
use Rattle.conf_keys.specs.declared.settings.Section.{Section}
use Rattle.conf_keys.specs.Checking.{fault_after, first_fault, first_top_fault, top_fault}

-- no item has a fault
abbrev pub IsClear : Section → List InnerItem → Type 0
IsClear whose items =
    (front : List InnerItem) (item : InnerItem) (behind : List InnerItem)
    → items ≡ front ++ item ∷ behind → fault_after whose front item ≡ None

-- one has this fault, and those in front of it have none
abbrev pub FailsFirst : Section → List InnerItem → SectionFault → Type 0
FailsFirst whose items fault =
    (front : List InnerItem) × (item : InnerItem) × (behind : List InnerItem)
    × (items ≡ front ++ item ∷ behind) × IsClear whose front × (fault_after whose front item ≡ Some fault)

abbrev pub FirstFault : Type 0
FirstFault = (whose : Section) (items : List InnerItem)
    → MatchOption (first_fault whose items) (IsClear whose items) (FailsFirst whose items)

-- ---- a section at the top

abbrev pub IsTopClear : Section → List SectionItem → Type 0
IsTopClear whose items = All (λ item. top_fault whose item ≡ None) items

abbrev pub FailsTopFirst : Section → List SectionItem → SectionFault → Type 0
FailsTopFirst whose items fault =
    (front : List SectionItem) × (item : SectionItem) × (behind : List SectionItem)
    × (items ≡ front ++ item ∷ behind) × IsTopClear whose front × (top_fault whose item ≡ Some fault)

abbrev pub FirstTopFault : Type 0
FirstTopFault = (whose : Section) (items : List SectionItem)
    → MatchOption (first_top_fault whose items) (IsTopClear whose items) (FailsTopFirst whose items)
