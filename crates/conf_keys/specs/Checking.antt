-- The first item of a section that has another key or value.
use Rattle.std.specs.Prelude.{ℕ, ◌+◌, ◌-◌, ◌^◌, min, Bool, ◌&&◌, nat_lt, List, [], ◌∷◌, ◌++◌, length, Option, Some, None, is_some, if◌then◌else◌}
use Rattle.std.specs.Option.{option_or}
use Rattle.conf_items.specs.declared.items.Head.{Head}
use Rattle.conf_items.specs.declared.items.Place.{Place}
use Rattle.conf_items.specs.declared.items.Word.{Word}
use Rattle.conf_items.specs.declared.items.Value.{Value}
use Rattle.conf_items.specs.declared.items.Value.TheVariants.{One, Many}
use Rattle.conf_items.specs.declared.items.Given.{Given}
use Rattle.conf_items.specs.declared.items.Given.TheVariants as given
use Rattle.conf_items.specs.declared.items.Setting.{Setting}
use Rattle.conf_items.specs.declared.outline.InnerItem.{InnerItem}
use Rattle.conf_items.specs.declared.outline.InnerItem.TheVariants as inner
use Rattle.conf_items.specs.declared.outline.SectionItem.{SectionItem}
use Rattle.conf_items.specs.declared.outline.SectionItem.TheVariants as item
use Rattle.conf_keys.specs.declared.settings.Section.{Section}
use Rattle.conf_keys.specs.declared.settings.Shape.{Shape}
use Rattle.conf_keys.specs.declared.settings.Shape.TheVariants as shape
use Rattle.conf_keys.specs.declared.checking.SectionFault.{SectionFault}
use Rattle.conf_keys.specs.declared.checking.SectionFault.TheVariants.{UnknownKey, BadValue}
use Rattle.conf_values.specs.declared.values.Hole.{Hole}
use Rattle.conf_keys.specs.Holes.{holes_of}
use Rattle.conf_keys.specs.Items.{inner_keys}
use Rattle.conf_keys.specs.Settings.{fits, shape_of, takes_sections}
use Rattle.conf_values.specs.Values.{hole_of}

-- where a value begins
abbrev pub value_place : Value → Place
value_place (One word) = word.place
value_place (Many place words) = place

-- ---- a list of holes, of which a partition has at most 64

abbrev pub is_hole : Word → Bool
is_hole word = is_some (hole_of word.text)

-- a word with so many holes in front of it has to be one, and not the 65th
abbrev pub word_fault : ℕ → Word → Option SectionFault
word_fault before word = if is_hole word && nat_lt before 64 then None else Some (BadValue word.place)

abbrev pub words_fault : ℕ → List Word → Option SectionFault
words_fault before [] = None
words_fault before (word ∷ rest) = option_or (word_fault before word) (words_fault (before + 1) rest)

abbrev pub listed_fault : ℕ → Value → Option SectionFault
listed_fault before (One word) = Some (BadValue word.place)
listed_fault before (Many place words) = words_fault before words

-- ---- one key

-- a key with single values has another than it may have
abbrev pub one_fault : Shape → Given → Option SectionFault
one_fault form (given.Set (One word)) = if fits form word.text then None else Some (BadValue word.place)
one_fault form (given.Set (Many place words)) = Some (BadValue place)
one_fault form (given.Added value) = Some (BadValue (value_place value))

-- = begins the holes anew
abbrev pub shaped_fault : ℕ → Shape → Given → Option SectionFault
shaped_fault before shape.Anything what = None
shaped_fault before shape.Holes (given.Set value) = listed_fault 0 value
shaped_fault before shape.Holes (given.Added value) = listed_fault before value
shaped_fault before form what = one_fault form what

abbrev pub keyed_fault : ℕ → Place → Option Shape → Given → Option SectionFault
keyed_fault before key None what = Some (UnknownKey key)
keyed_fault before key (Some form) what = shaped_fault before form what

-- the fault of a key with so many holes in front of it
abbrev pub setting_fault : Section → ℕ → Setting → Option SectionFault
setting_fault whose before setting =
    keyed_fault before setting.key.place (shape_of whose setting.key.text) setting.given

-- ---- all items in order

-- a section stands where none may
abbrev pub inside_fault : Section → Head → Option SectionFault
inside_fault whose head = if takes_sections whose then None else Some (UnknownKey head.word.place)

abbrev pub item_fault : Section → ℕ → InnerItem → Option SectionFault
item_fault whose before (inner.Key setting) = setting_fault whose before setting
item_fault whose before (inner.Section head) = inside_fault whose head

-- the fault of an item behind others, whose holes stand in front of its own
abbrev pub fault_after : Section → List InnerItem → InnerItem → Option SectionFault
fault_after whose front item = item_fault whose (length (holes_of (inner_keys front))) item

-- the first fault of the items behind others
abbrev pub fault_behind : Section → List InnerItem → List InnerItem → Option SectionFault
fault_behind whose front [] = None
fault_behind whose front (item ∷ rest) =
    option_or (fault_after whose front item) (fault_behind whose (front ++ item ∷ []) rest)

abbrev pub first_fault : Section → List InnerItem → Option SectionFault
first_fault whose items = fault_behind whose [] items

-- ---- a section at the top, where no key has holes

abbrev pub top_fault : Section → SectionItem → Option SectionFault
top_fault whose (item.Key setting) = setting_fault whose 0 setting
top_fault whose (item.Section section) = inside_fault whose section.head

abbrev pub first_top_fault : Section → List SectionItem → Option SectionFault
first_top_fault whose [] = None
first_top_fault whose (item ∷ rest) = option_or (top_fault whose item) (first_top_fault whose rest)

-- what a usize holds of the number of holes
abbrev pub held : List Hole → ℕ
held holes = min (length holes) (2 ^ 64 - 1)
