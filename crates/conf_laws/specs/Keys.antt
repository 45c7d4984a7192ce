-- The last key of a name among the items of a section, and the value that its text stands for.
use Rattle.std.specs.Prelude.{◌≡◌, ◌≢◌, ◌⊎◌, ℕ, List, ◌∷◌, ◌++◌, Option, Some, None, IsSome, IfSome, All, MatchOption}
use Rattle.conf_items.specs.declared.items.Setting.{Setting}
use Rattle.conf_items.specs.declared.outline.InnerItem.{InnerItem}
use Rattle.conf_items.specs.declared.outline.SectionItem.{SectionItem}
use Rattle.conf_keys.specs.Items.{inner_key, inner_keys, top_key, top_keys}
use Rattle.conf_keys.specs.Settings.{last_of, text_of}

-- an item is no key of that name
abbrev pub IsOther : {I : Type 0} → (I → Option Setting) → List ℕ → I → Type 0
IsOther key_of name item = IfSome (key_of item) (λ setting. setting.key.text ≢ name)

-- no item is one
abbrev pub HasNone : {I : Type 0} → (I → Option Setting) → List ℕ → List I → Type 0
HasNone key_of name items = All (IsOther key_of name) items

-- an item is a key of that name, and none behind it is one
abbrev pub HasLast : {I : Type 0} → (I → Option Setting) → List ℕ → List I → Setting → Type 0
HasLast key_of name items setting =
    (front : List _) × (item : _) × (behind : List _)
    × (items ≡ front ++ item ∷ behind) × (key_of item ≡ Some setting) × (setting.key.text ≡ name)
    × HasNone key_of name behind

-- ---- the last key of a name

abbrev pub LastInnerKey : Type 0
LastInnerKey = (name : List ℕ) (items : List InnerItem)
    → MatchOption (last_of name (inner_keys items)) (HasNone inner_key name items) (HasLast inner_key name items)

abbrev pub LastTopKey : Type 0
LastTopKey = (name : List ℕ) (items : List SectionItem)
    → MatchOption (last_of name (top_keys items)) (HasNone top_key name items) (HasLast top_key name items)

-- ---- the value of a key

-- its last key of that name has this text behind =
abbrev pub HasText : {I : Type 0} → (I → Option Setting) → List ℕ → List I → List ℕ → Type 0
HasText key_of name items text =
    (setting : Setting) × HasLast key_of name items setting × (text_of setting ≡ Some text)

-- what the last text stands for, or the default where there is no such key
abbrev pub Stands : {I A : Type 0} → (I → Option Setting) → List I → List ℕ → (List ℕ → Option A) → A → A → Type 0
Stands key_of items name read default value =
    (HasNone key_of name items × (value ≡ default))
    ⊎ ((text : List ℕ) × HasText key_of name items text × (read text ≡ Some value))

-- the same of a key that has no default
abbrev pub StandsIf : {I A : Type 0} → (I → Option Setting) → List I → List ℕ → (List ℕ → Option A) → Option A → Type 0
StandsIf key_of items name read value =
    (HasNone key_of name items × (value ≡ None))
    ⊎ ((text : List ℕ) × HasText key_of name items text × IsSome value × (read text ≡ value))
