-- The last key of a name, found among the items of a section or among its keys alone.
use Rattle.std.proofs.Common.{◌≡◌, ℕ, Bool, cond, true, false, List, [], ◌∷◌, ◌++◌, Option, Some, None, refl, ◌∙◌, sym, ap}
use Rattle.std.specs.Prelude.{find, option_and_then, reverse}
use Rattle.std.specs.List.{cons_option, filter_map}
use Rattle.std.proofs.lemmas.List.{reverse-append}
use Rattle.std.proofs.lemmas.List.Elements.{filter_map-append}
use Rattle.conf_items.specs.declared.items.Setting.{Setting}
use Rattle.conf_items.specs.declared.outline.InnerItem.{InnerItem}
use Rattle.conf_items.specs.declared.outline.SectionItem.{SectionItem}
use Rattle.conf_keys.specs.Items.{inner_key, inner_keys, is_named, top_key, top_keys}
use Rattle.conf_keys.specs.Settings.{has_key, last_of}

-- behind an item that is a key or none, where the first of the keys behind it is known
found_here : {I : Type 0} (key_of : I → Option Setting) (name : List ℕ) (item : I) (here : Option Setting) (keys : List Setting) (next : Option I) → key_of item ≡ here
    → find (has_key name) keys ≡ option_and_then key_of next
    → find (has_key name) (cons_option here keys) ≡ option_and_then key_of (cond (is_named name here) (Some item) next)
found_here key_of name item None keys next e h = h
found_here key_of name item (Some setting) keys next e h = at (has_key name setting)
  where
    at : (b : Bool) → cond b (Some setting) (find (has_key name) keys) ≡ option_and_then key_of (cond b (Some item) next)
    at true = sym e
    at false = h

-- the first one
found_key : {I : Type 0} (key_of : I → Option Setting) (name : List ℕ) (items : List I) → find (has_key name) (filter_map key_of items) ≡ option_and_then key_of (find (λ item. is_named name (key_of item)) items)
found_key key_of name [] = refl
found_key key_of name (item ∷ rest) =
    found_here key_of name item (key_of item) (filter_map key_of rest) (find (λ item. is_named name (key_of item)) rest) refl (found_key key_of name rest)

one_key : (here : Option Setting) → reverse (cons_option here []) ≡ cons_option here []
one_key None = refl
one_key (Some setting) = refl

keys_reversed : {I : Type 0} (key_of : I → Option Setting) (items : List I) → filter_map key_of (reverse items) ≡ reverse (filter_map key_of items)
keys_reversed key_of [] = refl
keys_reversed key_of (item ∷ rest) =
    ap (filter_map key_of) (reverse-append (item ∷ []) rest)
    ∙ filter_map-append key_of (reverse rest) (item ∷ [])
    ∙ ap (λ keys. keys ++ cons_option (key_of item) []) (keys_reversed key_of rest)
    ∙ ap (λ keys. reverse (filter_map key_of rest) ++ keys) (sym (one_key (key_of item)))
    ∙ sym (reverse-append (cons_option (key_of item) []) (filter_map key_of rest))
    ∙ ap reverse (sym (filter_map-append key_of (item ∷ []) rest))

pub last_key : {I : Type 0} (key_of : I → Option Setting) (name : List ℕ) (items : List I) → option_and_then key_of (find (λ item. is_named name (key_of item)) (reverse items)) ≡ last_of name (filter_map key_of items)
last_key key_of name items = sym (found_key key_of name (reverse items)) ∙ ap (find (has_key name)) (keys_reversed key_of items)

pub last_inner : (name : List ℕ) (items : List InnerItem) (found : Option InnerItem) → found ≡ find (λ item. is_named name (inner_key item)) (reverse items) → option_and_then inner_key found ≡ last_of name (inner_keys items)
last_inner name items found is = ap (option_and_then inner_key) is ∙ last_key inner_key name items

pub last_top : (name : List ℕ) (items : List SectionItem) (found : Option SectionItem) → found ≡ find (λ item. is_named name (top_key item)) (reverse items) → option_and_then top_key found ≡ last_of name (top_keys items)
last_top name items found is = ap (option_and_then top_key) is ∙ last_key top_key name items
