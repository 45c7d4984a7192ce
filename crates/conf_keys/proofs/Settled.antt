-- What a section's keys have where none of its items has a fault.
use Rattle.std.proofs.Common.{◌≡◌, ℕ, Bool, cond, true, false, List, [], ◌∷◌, ◌++◌, length, Option, Some, None, refl, ◌∙◌, ap}
use mathlib.Core.List.{reverse_aux}
use Rattle.std.specs.Prelude.{All, IfSome, find, is_none, option_and_then, reverse, IsSomeAnd}
use Rattle.std.specs.Option.{option_or}
use Rattle.std.proofs.lemmas.List.Elements.{All-cons, All-head, All-nil, All-tail}
use Rattle.std.proofs.lemmas.Slice.Eq.{bytes_eq-Decides}
use Rattle.conf_items.specs.declared.items.Value.TheVariants.{One, Many}
use Rattle.conf_items.specs.declared.items.Given.{Given}
use Rattle.conf_items.specs.declared.items.Given.TheVariants as given
use Rattle.conf_items.specs.declared.items.Setting.{Setting}
use Rattle.conf_items.specs.declared.outline.InnerItem.{InnerItem}
use Rattle.conf_items.specs.declared.outline.InnerItem.TheVariants as inner
use Rattle.conf_items.specs.declared.outline.SectionItem.{SectionItem}
use Rattle.conf_items.specs.declared.outline.SectionItem.TheVariants as item
use Rattle.conf_items.specs.declared.items.Word.{Word}
use Rattle.conf_keys.specs.declared.checking.SectionFault.{SectionFault}
use Rattle.conf_keys.specs.declared.settings.Section.{Section}
use Rattle.conf_keys.specs.declared.settings.Shape.{Shape}
use Rattle.conf_keys.specs.Checking.{fault_after, fault_behind, first_fault, first_top_fault, keyed_fault, one_fault, setting_fault, shaped_fault, top_fault}
use Rattle.conf_keys.specs.Holes.{holes_of}
use Rattle.conf_keys.specs.Items.{inner_keys, top_keys}
use Rattle.conf_keys.specs.Sections.{is_lacking, section_fault, top_section_fault}
use Rattle.conf_keys.specs.Settings.{fits, given_text, has_key, last_of, last_text, shape_of, text_of}

-- ---- no fault

pub neither : {X : Type 0} (a b : Option X) → None ≡ option_or a b → (None ≡ a) × (None ≡ b)
neither None b e = (refl, e)
neither (Some x) b e = absurd (cc)

-- a section without a fault has none at its head and none in its items
pub faultless : (head : Option SectionFault) (whose : Section) (items : List InnerItem) → None ≡ section_fault head whose items
    → (None ≡ head) × (None ≡ first_fault whose items)
faultless head whose items e = neither head (first_fault whose items) e

pub top_faultless : (head : Option SectionFault) (whose : Section) (items : List SectionItem) → None ≡ top_section_fault head whose items
    → (None ≡ head) × (None ≡ first_top_fault whose items)
top_faultless head whose items e = neither head (first_top_fault whose items) e

abbrev pub Passes : Section → Setting → Type 0
Passes whose setting = (before : ℕ) × (None ≡ setting_fault whose before setting)

keys_behind : (whose : Section) (front items : List InnerItem) → None ≡ fault_behind whose front items → All (Passes whose) (inner_keys items)
keys_behind whose front [] e = All-nil (Passes whose)
keys_behind whose front (inner.Key setting ∷ rest) e =
    let both = neither (fault_after whose front (inner.Key setting)) (fault_behind whose (front ++ inner.Key setting ∷ []) rest) e in
    All-cons (Passes whose) setting (inner_keys rest) (length (holes_of (inner_keys front)), both.0) (keys_behind whose (front ++ inner.Key setting ∷ []) rest both.1)
keys_behind whose front (inner.Section head ∷ rest) e =
    let both = neither (fault_after whose front (inner.Section head)) (fault_behind whose (front ++ inner.Section head ∷ []) rest) e in
    keys_behind whose (front ++ inner.Section head ∷ []) rest both.1

pub keys_pass : (whose : Section) (items : List InnerItem) → None ≡ first_fault whose items → All (Passes whose) (inner_keys items)
keys_pass whose items e = keys_behind whose [] items e

pub top_keys_pass : (whose : Section) (items : List SectionItem) → None ≡ first_top_fault whose items → All (Passes whose) (top_keys items)
top_keys_pass whose [] e = All-nil (Passes whose)
top_keys_pass whose (item.Key setting ∷ rest) e =
    let both = neither (top_fault whose (item.Key setting)) (first_top_fault whose rest) e in
    All-cons (Passes whose) setting (top_keys rest) (0, both.0) (top_keys_pass whose rest both.1)
top_keys_pass whose (item.Section section ∷ rest) e =
    let both = neither (top_fault whose (item.Section section)) (first_top_fault whose rest) e in
    top_keys_pass whose rest both.1

-- ---- the last key of a name

All-aux : {X : Type 0} (P : X → Type 0) (xs onto : List X) → All P xs → All P onto → All P (reverse_aux xs onto)
All-aux P [] onto h k = k
All-aux P (x ∷ xs) onto h k = All-aux P xs (x ∷ onto) (All-tail P x xs h) (All-cons P x onto (All-head P x xs h) k)

first_gives : {X : Type 0} (test : X → Bool) (P : X → Type 0) (x : X) (next : Option X) → P x → IfSome next (λ x. (test x ≡ true) × P x)
    → IfSome (cond (test x) (Some x) next) (λ x. (test x ≡ true) × P x)
first_gives test P x next h k = at (test x) refl
  where
    at : (b : Bool) → test x ≡ b → IfSome (cond b (Some x) next) (λ x. (test x ≡ true) × P x)
    at true e = (e, h)
    at false e = k

find_gives : {X : Type 0} (test : X → Bool) (P : X → Type 0) (xs : List X) → All P xs → IfSome (find test xs) (λ x. (test x ≡ true) × P x)
find_gives test P [] h = tt
find_gives test P (x ∷ xs) h = first_gives test P x (find test xs) (All-head P x xs h) (find_gives test P xs (All-tail P x xs h))

last_gives : (key : List ℕ) (P : Setting → Type 0) (settings : List Setting) → All P settings → IfSome (last_of key settings) (λ setting. (has_key key setting ≡ true) × P setting)
last_gives key P settings h = find_gives (has_key key) P (reverse settings) (All-aux P settings [] h (All-nil P))

-- ---- a key with single values

-- the shape is one of single values
abbrev pub IsSingle : Shape → Type 0
IsSingle form = (before : ℕ) (what : Given) → shaped_fault before form what ≡ one_fault form what

abbrev pub IsFitting : Shape → Option (List ℕ) → Type 0
IsFitting form found = IsSomeAnd found (λ text. fits form text ≡ true)

fits_from : (fits : Bool) (fault : SectionFault) → None ≡ cond fits None (Some fault) → fits ≡ true
fits_from true fault e = refl
fits_from false fault e = absurd (cc)

single_fault : (whose : Section) (form : Shape) (key : Word) (before : ℕ) (what : Given) → shape_of whose key.text ≡ Some form → IsSingle form
    → None ≡ keyed_fault before key.place (shape_of whose key.text) what → None ≡ one_fault form what
single_fault whose form key before what shape single e = (e ∙ ap (λ found. keyed_fault before key.place found what) shape) ∙ single before what

given_fits : (whose : Section) (form : Shape) (key : Word) (before : ℕ) (what : Given) → shape_of whose key.text ≡ Some form → IsSingle form
    → None ≡ keyed_fault before key.place (shape_of whose key.text) what → IsFitting form (given_text what)
given_fits whose form key before (given.Set (One word)) shape single e =
    fits_from (fits form word.text) _ (single_fault whose form key before (given.Set (One word)) shape single e)
given_fits whose form key before (given.Set (Many place words)) shape single e =
    let fails = single_fault whose form key before (given.Set (Many place words)) shape single e in absurd (cc)
given_fits whose form key before (given.Added value) shape single e =
    let fails = single_fault whose form key before (given.Added value) shape single e in absurd (cc)

pub key_is : (key : List ℕ) (setting : Setting) → has_key key setting ≡ true → setting.key.text ≡ key
key_is key setting e = (bytes_eq-Decides setting.key.text key).0 e

setting_fits : (whose : Section) (form : Shape) (key : List ℕ) (setting : Setting) → shape_of whose key ≡ Some form → IsSingle form
    → has_key key setting ≡ true → Passes whose setting → IsFitting form (text_of setting)
setting_fits whose form key setting shape single has passes =
    given_fits whose form setting.key passes.0 setting.given (ap (shape_of whose) (key_is key setting has) ∙ shape) single passes.1

-- a key that isn't lacking has a single value that fits, in a section of which no key has a fault
pub last_fits : (whose : Section) (form : Shape) (key : List ℕ) (settings : List Setting) → shape_of whose key ≡ Some form → IsSingle form
    → All (Passes whose) settings → is_lacking key settings ≡ false → IsFitting form (last_text key settings)
last_fits whose form key settings shape single pass lacking =
    at (last_of key settings) (last_gives key (Passes whose) settings pass) lacking
  where
    at : (last : Option Setting) → IfSome last (λ setting. (has_key key setting ≡ true) × Passes whose setting) → is_none last ≡ false → IsFitting form (option_and_then text_of last)
    at None h e = absurd (cc)
    at (Some setting) h e = setting_fits whose form key setting shape single h.0 h.1
