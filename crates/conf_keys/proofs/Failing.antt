-- The first fault of a list, from where a loop stands in it.
use Rattle.std.proofs.Common.{◌≡◌, ℕ, suc, ◌+◌, ◌-◌, ◌^◌, ◌<◌, ◌≤◌, ◌&&◌, Bool, cond, true, false, List, [], ◌∷◌, ◌++◌, length, drop, take, get_or, Option, Some, None, refl, ◌∙◌, ap, add-one, arith, drop-cons, length-append, le-ltb, leb-true, leb-false, ltb-true}
use Rattle.std.specs.Prelude.{filter, fold, is_some, min, nat_le, nat_lt, option_to_list}
use Rattle.std.proofs.lemmas.List.{append-nil, take_more}
use Rattle.std.proofs.lemmas.List.Elements.{filter_map-append}
use Rattle.std.proofs.lemmas.List.Sums.{fold_push}
use Rattle.conf_keys.specs.declared.checking.SectionFault.{SectionFault}
use Rattle.conf_keys.specs.declared.checking.SectionFault.TheVariants.{BadValue}
use Rattle.conf_values.specs.declared.values.Hole.{Hole}
use Rattle.conf_keys.specs.declared.settings.Section.{Section}
use Rattle.conf_keys.specs.declared.settings.Shape.{Shape}
use Rattle.conf_keys.specs.declared.settings.Shape.TheVariants as shape
use Rattle.conf_items.specs.declared.items.Given.{Given}
use Rattle.conf_items.specs.declared.items.Given.TheVariants as given
use Rattle.conf_items.specs.declared.items.Place.{Place}
use Rattle.conf_items.specs.declared.items.Setting.{Setting}
use Rattle.conf_items.specs.declared.outline.InnerItem.{InnerItem}
use Rattle.conf_items.specs.declared.outline.InnerItem.TheVariants as inner
use Rattle.conf_items.specs.declared.items.Value.{Value}
use Rattle.conf_items.specs.declared.items.Value.TheVariants.{One, Many}
use Rattle.conf_items.specs.declared.items.Word.{Word}
use Rattle.conf_keys.specs.Checking.{fault_after, fault_behind, held, is_hole, item_fault, keyed_fault, listed_fault, shaped_fault, word_fault, words_fault}
use Rattle.conf_keys.specs.Holes.{holes_of, with_hole, with_item, with_setting}
use Rattle.conf_keys.specs.Items.{inner_key, inner_keys}
use Rattle.conf_keys.specs.Settings.{shape_of}
use Rattle.conf_values.specs.Values.{hole_of}

-- ---- words

pub word_fails : (words : List Word) (i count : ℕ) (word : Word) (fault : SectionFault) → i < length words → word ≡ get_or words i word
    → Some fault ≡ word_fault count word → Some fault ≡ words_fault count (drop i words)
word_fails words i count word fault within is fails = rw (drop-cons words i word, ← is, ← fails) refl

pub word_passes : (words : List Word) (i count : ℕ) (word : Word) → i < length words → word ≡ get_or words i word
    → None ≡ word_fault count word → words_fault count (drop i words) ≡ words_fault (count + 1) (drop (i + 1) words)
word_passes words i count word within is passes = rw (add-one i, drop-cons words i word, ← is, ← passes) refl

pub word_room : (count : ℕ) (word : Word) → None ≡ word_fault count word → count < 64
word_room count word e = at (is_hole word) (nat_lt count 64) refl e
  where
    at : (hole few : Bool) → nat_lt count 64 ≡ few → None ≡ cond (hole && few) None (Some (BadValue word.place)) → count < 64
    at hole true is e = ltb-true count 64 is
    at true false is e = absurd (cc)
    at false false is e = absurd (cc)

-- ---- the number of holes in front, of which a usize holds so many

full_word : (before : ℕ) (word : Word) → 64 ≤ before → word_fault before word ≡ Some (BadValue word.place)
full_word before word full = at (is_hole word) (nat_lt before 64) (le-ltb before 64 full)
  where
    at : (hole few : Bool) → few ≡ false → cond (hole && few) None (Some (BadValue word.place)) ≡ Some (BadValue word.place)
    at true true e = absurd (cc)
    at true false e = refl
    at false few e = refl

full_same : (a b : ℕ) (words : List Word) → 64 ≤ a → 64 ≤ b → words_fault a words ≡ words_fault b words
full_same a b [] h k = refl
full_same a b (word ∷ rest) h k = rw (full_word a word h, full_word b word k) refl

-- a number of which only so much is held
words_held : (n : ℕ) (words : List Word) → words_fault (min n (2 ^ 64 - 1)) words ≡ words_fault n words
words_held n words = at (nat_le n (2 ^ 64 - 1)) refl
  where
    at : (b : Bool) → nat_le n (2 ^ 64 - 1) ≡ b → words_fault (min n (2 ^ 64 - 1)) words ≡ words_fault n words
    at true e = let small : n ≤ 2 ^ 64 - 1 = leb-true n (2 ^ 64 - 1) e in let same : min n (2 ^ 64 - 1) ≡ n = omega arith in ap (λ k. words_fault k words) same
    at false e = let large : 2 ^ 64 - 1 < n = leb-false n (2 ^ 64 - 1) e in full_same (min n (2 ^ 64 - 1)) n words (omega arith) (omega arith)

listed_held : (n : ℕ) (value : Value) → listed_fault (min n (2 ^ 64 - 1)) value ≡ listed_fault n value
listed_held n (One word) = refl
listed_held n (Many place words) = words_held n words

shaped_held : (n : ℕ) (form : Shape) (what : Given) → shaped_fault (min n (2 ^ 64 - 1)) form what ≡ shaped_fault n form what
shaped_held n shape.Holes (given.Set value) = refl
shaped_held n shape.Holes (given.Added value) = listed_held n value
shaped_held n form what = refl

keyed_held : (n : ℕ) (key : Place) (found : Option Shape) (what : Given) → keyed_fault (min n (2 ^ 64 - 1)) key found what ≡ keyed_fault n key found what
keyed_held n key None what = refl
keyed_held n key (Some form) what = shaped_held n form what

item_held : (whose : Section) (n : ℕ) (item : InnerItem) → item_fault whose (min n (2 ^ 64 - 1)) item ≡ item_fault whose n item
item_held whose n (inner.Key setting) = keyed_held n setting.key.place (shape_of whose setting.key.text) setting.given
item_held whose n (inner.Section head) = refl

judged : (whose : Section) (item : InnerItem) (before : ℕ) (front : List InnerItem) → before ≡ held (holes_of (inner_keys front)) → item_fault whose before item ≡ fault_after whose front item
judged whose item before front is = rw is (item_held whose (length (holes_of (inner_keys front))) item)

-- ---- items

pub item_fails : (whose : Section) (items : List InnerItem) (i before : ℕ) (item : InnerItem) (fault : SectionFault) → i < length items
    → item ≡ get_or items i item → before ≡ held (holes_of (inner_keys (take i items))) → Some fault ≡ item_fault whose before item
    → Some fault ≡ fault_behind whose (take i items) (drop i items)
item_fails whose items i before item fault within is count fails =
    let same : Some fault ≡ fault_after whose (take i items) item = fails ∙ judged whose item before (take i items) count in
    rw (drop-cons items i item, ← is, ← same) refl

pub item_passes : (whose : Section) (items : List InnerItem) (i before : ℕ) (item : InnerItem) → i < length items
    → item ≡ get_or items i item → before ≡ held (holes_of (inner_keys (take i items))) → None ≡ item_fault whose before item
    → fault_behind whose (take i items) (drop i items) ≡ fault_behind whose (take (i + 1) items) (drop (i + 1) items)
item_passes whose items i before item within is count passes =
    let same : None ≡ fault_after whose (take i items) item = passes ∙ judged whose item before (take i items) count in
    rw (take_more items i item within, add-one, drop-cons items i item, ← is, ← same) refl

pub holes_pushed : (front : List InnerItem) (item : InnerItem) → holes_of (inner_keys (front ++ item ∷ [])) ≡ with_item (holes_of (inner_keys front)) item
holes_pushed front (inner.Key setting) =
    ap holes_of (filter_map-append inner_key front (inner.Key setting ∷ [])) ∙ fold_push with_setting [] (inner_keys front) setting
holes_pushed front (inner.Section head) =
    ap holes_of (filter_map-append inner_key front (inner.Section head ∷ []) ∙ append-nil (inner_keys front))

pub holes_more : (items : List InnerItem) (i : ℕ) (item : InnerItem) → i < length items → item ≡ get_or items i item
    → holes_of (inner_keys (take (i + 1) items)) ≡ with_item (holes_of (inner_keys (take i items))) item
holes_more items i item within is = rw (take_more items i item within, ← is) (holes_pushed (take i items) item)

-- the holes that are left behind a loop
pub holes_left : (items : List InnerItem) (i : ℕ) (item : InnerItem) (holes : List Hole) → i < length items → item ≡ get_or items i item
    → fold with_setting holes (inner_keys (drop i items)) ≡ fold with_setting (with_item holes item) (inner_keys (drop (i + 1) items))
holes_left items i item holes within is = rw (add-one, drop-cons items i item, ← is) (at item)
  where
    at : (item : InnerItem) → fold with_setting holes (inner_keys (item ∷ drop (suc i) items)) ≡ fold with_setting (with_item holes item) (inner_keys (drop (suc i) items))
    at (inner.Key setting) = refl
    at (inner.Section head) = refl

-- ---- how many there are behind a setting

found_length : (found : Option Hole) (holes : List Hole) (word : Word) (rest : List Word)
    → length (holes ++ option_to_list found) + length rest ≡ length holes + length (cond (is_some found) (word ∷ rest) rest)
found_length None holes word rest = omega (arith, length-append holes [])
found_length (Some hole) holes word rest = omega (arith, length-append holes (hole ∷ []))

pub words_length : (words : List Word) (holes : List Hole) → length (fold with_hole holes words) ≡ length holes + length (filter is_hole words)
words_length [] holes = omega arith
words_length (word ∷ rest) holes =
    omega (arith, words_length rest (with_hole holes word), found_length (hole_of word.text) holes word (filter is_hole rest))
