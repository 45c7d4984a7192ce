-- The last key of a name is an item with no such key behind it.
use Rattle.std.proofs.Common.{◌≡◌, ◌≢◌, ℕ, Bool, cond, true, false, List, [], ◌∷◌, Option, Some, None, refl, ◌∙◌, sym, ap, subst}
use Rattle.std.specs.Prelude.{MatchOption, find, reverse}
use Rattle.std.specs.List.{cons_option, filter_map}
use Rattle.std.specs.Option.{option_or}
use Rattle.std.proofs.lemmas.List.{reverse-append}
use Rattle.std.proofs.lemmas.List.Elements.{All-cons, All-nil}
use Rattle.std.proofs.lemmas.List.Folds.{find-append}
use Rattle.std.proofs.lemmas.Slice.Eq.{bytes_eq-Decides}
use Rattle.conf_items.specs.declared.items.Setting.{Setting}
use Rattle.conf_keys.specs.Items.{inner_key, top_key}
use Rattle.conf_keys.specs.Settings.{has_key, last_of}
use Rattle.conf_laws.specs.Keys.{HasLast, HasNone, IsOther, LastInnerKey, LastTopKey}

-- the last key of one key and those behind it
last_more : (name : List ℕ) (setting : Setting) (keys : List Setting) → last_of name (setting ∷ keys) ≡ option_or (last_of name keys) (cond (has_key name setting) (Some setting) None)
last_more name setting keys =
    ap (find (has_key name)) (reverse-append (setting ∷ []) keys) ∙ find-append (has_key name) (reverse keys) (setting ∷ [])

other_key : (name : List ℕ) (setting : Setting) → has_key name setting ≡ false → setting.key.text ≢ name
other_key name setting e = λ is. let passes = (bytes_eq-Decides setting.key.text name).1 is in absurd (cc)

not_key : {I : Type 0} (key_of : I → Option Setting) (name : List ℕ) (item : I) → key_of item ≡ None → IsOther key_of name item
not_key key_of name item e = rw e tt

not_named : {I : Type 0} (key_of : I → Option Setting) (name : List ℕ) (item : I) (setting : Setting) → key_of item ≡ Some setting → has_key name setting ≡ false → IsOther key_of name item
not_named key_of name item setting e other = rw e (other_key name setting other)

-- behind one more item in front
further : {I : Type 0} (key_of : I → Option Setting) (name : List ℕ) (item : I) (rest : List I) (setting : Setting) → HasLast key_of name rest setting → HasLast key_of name (item ∷ rest) setting
further key_of name item rest setting h = (item ∷ h.0, h.1, h.2, ap (λ items. item ∷ items) h.3, h.4, h.5, h.6)

behind_none : {I : Type 0} (key_of : I → Option Setting) (name : List ℕ) (item : I) (rest : List I) (found : Option Setting) → key_of item ≡ None
    → MatchOption found (HasNone key_of name rest) (HasLast key_of name rest) → MatchOption found (HasNone key_of name (item ∷ rest)) (HasLast key_of name (item ∷ rest))
behind_none key_of name item rest None e h = All-cons (IsOther key_of name) item rest (not_key key_of name item e) h
behind_none key_of name item rest (Some setting) e h = further key_of name item rest setting h

behind_key : {I : Type 0} (key_of : I → Option Setting) (name : List ℕ) (item : I) (rest : List I) (here : Setting) (found : Option Setting) (has : Bool) → key_of item ≡ Some here → has_key name here ≡ has
    → MatchOption found (HasNone key_of name rest) (HasLast key_of name rest)
    → MatchOption (option_or found (cond has (Some here) None)) (HasNone key_of name (item ∷ rest)) (HasLast key_of name (item ∷ rest))
behind_key key_of name item rest here (Some setting) has e is h = further key_of name item rest setting h
behind_key key_of name item rest here None true e is h = ([], item, rest, refl, e, (bytes_eq-Decides here.key.text name).0 is, h)
behind_key key_of name item rest here None false e is h = All-cons (IsOther key_of name) item rest (not_named key_of name item here e is) h

with_item : {I : Type 0} (key_of : I → Option Setting) (name : List ℕ) (item : I) (rest : List I) (here : Option Setting) → key_of item ≡ here
    → MatchOption (last_of name (filter_map key_of rest)) (HasNone key_of name rest) (HasLast key_of name rest)
    → MatchOption (last_of name (cons_option here (filter_map key_of rest))) (HasNone key_of name (item ∷ rest)) (HasLast key_of name (item ∷ rest))
with_item key_of name item rest None e h = behind_none key_of name item rest (last_of name (filter_map key_of rest)) e h
with_item key_of name item rest (Some here) e h =
    subst (λ found. MatchOption found (HasNone key_of name (item ∷ rest)) (HasLast key_of name (item ∷ rest)))
    (sym (last_more name here (filter_map key_of rest)))
    (behind_key key_of name item rest here (last_of name (filter_map key_of rest)) (has_key name here) e refl h)

pub last_is : {I : Type 0} (key_of : I → Option Setting) (name : List ℕ) (items : List I) → MatchOption (last_of name (filter_map key_of items)) (HasNone key_of name items) (HasLast key_of name items)
last_is key_of name [] = All-nil (IsOther key_of name)
last_is key_of name (item ∷ rest) = with_item key_of name item rest (key_of item) refl (last_is key_of name rest)

pub last_inner_key : LastInnerKey
last_inner_key name items = last_is inner_key name items

pub last_top_key : LastTopKey
last_top_key name items = last_is top_key name items
