-- The value of a key, from that of its last text.
use Rattle.std.proofs.Common.{◌≡◌, ℕ, Bool, cond, true, false, List, Option, Some, None, Result, Ok, Err, inl, inr, refl, ◌∙◌, sym, ap}
use Rattle.std.specs.Prelude.{IsSome, IsSomeAnd, MatchOption, is_none, is_some, option_and_then, unwrap_or}
use Rattle.std.specs.List.{filter_map}
use Rattle.conf_items.specs.declared.items.Setting.{Setting}
use Rattle.base_fields.specs.Results.{passing}
use Rattle.conf_keys.specs.Sections.{is_lacking}
use Rattle.conf_keys.specs.Settings.{last_of, last_text, text_of}
use Rattle.conf_laws.specs.Accepted.{itself}
use Rattle.conf_laws.specs.Keys.{HasLast, HasNone, HasText, Stands, StandsIf}
use Rattle.conf_laws.proofs.Last.{last_is}

-- a number that has passed is the one that was read
pub passing_keeps : (test : ℕ → Bool) (read : Option ℕ) (n : ℕ) → option_and_then (passing test) read ≡ Some n → read ≡ Some n
passing_keeps test None n e = absurd (cc)
passing_keeps test (Some m) n e = at (test m) e
  where
    at : (b : Bool) → cond b (Some m) None ≡ Some n → Some m ≡ Some n
    at true e = e
    at false e = absurd (cc)

some_of : {A : Type 0} (o : Option A) → is_some o ≡ true → (a : A) × (o ≡ Some a)
some_of None e = absurd (cc)
some_of (Some a) e = (a, refl)

-- ---- a key that isn't given, and one that is

abbrev Read : {I : Type 0} → (I → Option Setting) → List I → List ℕ → Option (List ℕ)
Read key_of items name = last_text name (filter_map key_of items)

abbrev Lacks : {I : Type 0} → (I → Option Setting) → List I → List ℕ → Bool
Lacks key_of items name = is_lacking name (filter_map key_of items)

absent : {I : Type 0} (key_of : I → Option Setting) (items : List I) (name : List ℕ) → Lacks key_of items name ≡ true → HasNone key_of name items × (Read key_of items name ≡ None)
absent key_of items name e = at (last_of name (filter_map key_of items)) (last_is key_of name items) e
  where
    at : (last : Option Setting) → MatchOption last (HasNone key_of name items) (HasLast key_of name items) → is_none last ≡ true → HasNone key_of name items × (option_and_then text_of last ≡ None)
    at None h e = (h, refl)
    at (Some setting) h e = absurd (cc)

present : {I : Type 0} (key_of : I → Option Setting) (items : List I) (name : List ℕ) (P : List ℕ → Type 0) → Lacks key_of items name ≡ false → IsSomeAnd (Read key_of items name) P
    → (text : List ℕ) × HasText key_of name items text × (Read key_of items name ≡ Some text) × P text
present key_of items name P e fits = at (last_of name (filter_map key_of items)) (last_is key_of name items) e fits
  where
    with_text : (setting : Setting) (text : Option (List ℕ)) → text_of setting ≡ text → HasLast key_of name items setting → IsSomeAnd text P
        → (one : List ℕ) × HasText key_of name items one × (text ≡ Some one) × P one
    with_text setting None is h fits = absurd fits
    with_text setting (Some text) is h fits = (text, (setting, h, is), refl, fits)

    at : (last : Option Setting) → MatchOption last (HasNone key_of name items) (HasLast key_of name items) → is_none last ≡ false → IsSomeAnd (option_and_then text_of last) P
        → (text : List ℕ) × HasText key_of name items text × (option_and_then text_of last ≡ Some text) × P text
    at None h e fits = absurd (cc)
    at (Some setting) h e fits = with_text setting (text_of setting) refl h fits

-- ---- the value

-- a key that isn't lacking has a text that can be read
abbrev pub CanRead : {I A : Type 0} → (I → Option Setting) → List I → List ℕ → (List ℕ → Option A) → Type 0
CanRead key_of items name f = Lacks key_of items name ≡ false → IsSomeAnd (Read key_of items name) (λ text. is_some (f text) ≡ true)

-- a key that has to be given
pub stands_given : {I A : Type 0} (key_of : I → Option Setting) (items : List I) (name : List ℕ) (f read : List ℕ → Option A) (default : A)
    → ((text : List ℕ) (a : A) → f text ≡ Some a → read text ≡ Some a) → CanRead key_of items name f → Lacks key_of items name ≡ false
    → (text : List ℕ) × HasText key_of name items text × (read text ≡ Some (unwrap_or (option_and_then f (Read key_of items name)) default))
stands_given key_of items name f read default gives can e =
    let p = present key_of items name (λ text. is_some (f text) ≡ true) e (can e) in
    let v = some_of (f p.0) p.3 in
    let same : option_and_then f (Read key_of items name) ≡ Some v.0 = ap (option_and_then f) p.2 ∙ v.1 in
    (p.0, p.1, gives p.0 v.0 v.1 ∙ ap (λ o. Some (unwrap_or o default)) (sym same))

pub stands : {I A : Type 0} (key_of : I → Option Setting) (items : List I) (name : List ℕ) (f read : List ℕ → Option A) (default : A)
    → ((text : List ℕ) (a : A) → f text ≡ Some a → read text ≡ Some a) → CanRead key_of items name f
    → Stands key_of items name read default (unwrap_or (option_and_then f (Read key_of items name)) default)
stands key_of items name f read default gives can = at (Lacks key_of items name) refl
  where
    at : (b : Bool) → Lacks key_of items name ≡ b → Stands key_of items name read default (unwrap_or (option_and_then f (Read key_of items name)) default)
    at true e = let a = absent key_of items name e in inl (a.0, ap (λ o. unwrap_or (option_and_then f o) default) a.1)
    at false e = inr (stands_given key_of items name f read default gives can e)

pub stands_if : {I A : Type 0} (key_of : I → Option Setting) (items : List I) (name : List ℕ) (f read : List ℕ → Option A)
    → ((text : List ℕ) (a : A) → f text ≡ Some a → read text ≡ Some a) → CanRead key_of items name f
    → StandsIf key_of items name read (option_and_then f (Read key_of items name))
stands_if key_of items name f read gives can = at (Lacks key_of items name) refl
  where
    at : (b : Bool) → Lacks key_of items name ≡ b → StandsIf key_of items name read (option_and_then f (Read key_of items name))
    at true e = let a = absent key_of items name e in inl (a.0, ap (option_and_then f) a.1)
    at false e =
        let p = present key_of items name (λ text. is_some (f text) ≡ true) e (can e) in
        let v = some_of (f p.0) p.3 in
        let same : option_and_then f (Read key_of items name) ≡ Some v.0 = ap (option_and_then f) p.2 ∙ v.1 in
        inr (p.0, p.1, ap is_some same, gives p.0 v.0 v.1 ∙ sym same)

-- a key whose value is a text
pub text_stands : {I : Type 0} (key_of : I → Option Setting) (items : List I) (name : List ℕ) → CanRead key_of items name itself → StandsIf key_of items name itself (Read key_of items name)
text_stands key_of items name can = at (Lacks key_of items name) refl
  where
    at : (b : Bool) → Lacks key_of items name ≡ b → StandsIf key_of items name itself (Read key_of items name)
    at true e = inl (absent key_of items name e)
    at false e =
        let p = present key_of items name (λ text. is_some (itself text) ≡ true) e (can e) in
        inr (p.0, p.1, ap is_some p.2, sym p.2)
