-- The holes of a partition without a fault: each within the limits, and as many as were counted.
use Rattle.std.proofs.Common.{◌≡◌, ℕ, ◌+◌, ◌^◌, ◌<◌, ◌≤◌, ◌&&◌, ◌++◌, Bool, cond, true, false, List, [], ◌∷◌, length, take, drop, Option, Some, None, refl, ◌∙◌, sym, ap, subst, arith, length-append, ltb-true, append_assoc, append-nil}
use Rattle.std.specs.Prelude.{All, IfSome, codes, fold, is_some, nat_lt, option_to_list}
use Rattle.std.proofs.lemmas.List.Elements.{All-append, All-cons, All-nil}
use Rattle.conf_items.specs.declared.items.Value.TheVariants.{One, Many}
use Rattle.conf_items.specs.declared.items.Given.{Given}
use Rattle.conf_items.specs.declared.items.Given.TheVariants as given
use Rattle.conf_items.specs.declared.items.Setting.{Setting}
use Rattle.conf_items.specs.declared.outline.InnerItem.{InnerItem}
use Rattle.conf_items.specs.declared.outline.InnerItem.TheVariants as inner
use Rattle.conf_items.specs.declared.items.Word.{Word}
use Rattle.conf_keys.specs.declared.checking.SectionFault.{SectionFault}
use Rattle.conf_keys.specs.declared.checking.SectionFault.TheVariants.{BadValue}
use Rattle.conf_values.specs.declared.values.Hole.{Hole}
use Rattle.conf_keys.specs.declared.settings.Section.TheVariants as section
use Rattle.conf_keys.specs.declared.settings.Shape.TheVariants as shape
use Rattle.conf_keys.specs.Checking.{fault_after, fault_behind, first_fault, item_fault, keyed_fault, setting_fault, shaped_fault, word_fault, words_fault}
use Rattle.conf_keys.specs.Holes.{given_holes, holes_of, with_hole, with_item, with_setting}
use Rattle.conf_keys.specs.Items.{inner_keys}
use Rattle.conf_keys.specs.Settings.{has_key, partition_shape}
use Rattle.conf_values.specs.Values.{end_trimmed, front_trimmed, hole_between, hole_of, inside_of, is_enclosed, semicolon_of, sizes_of}
use Rattle.conf_keys.specs.Within.{IsHoleWithin}
use Rattle.conf_values.proofs.Sizes.{size_small}
use Rattle.conf_keys.proofs.Failing.{holes_pushed}
use Rattle.conf_keys.proofs.Settled.{key_is, neither}

-- ---- each hole is within the limits

between_within : (from to : Option ℕ) → IfSome from (λ n. n ≤ 2 ^ 43) → IfSome to (λ n. n ≤ 2 ^ 43) → IfSome (hole_between from to) IsHoleWithin
between_within (Some from) (Some to) h k = (h, k)
between_within None to h k = tt
between_within (Some from) None h k = tt

cond_gives : {A : Type 0} (P : A → Type 0) (test : Bool) (found : Option A) → IfSome found P → IfSome (cond test found None) P
cond_gives P true found h = h
cond_gives P false found h = tt

sizes_within : (text : List ℕ) → IfSome (sizes_of text) IsHoleWithin
sizes_within text = between_within _ _ (size_small (end_trimmed (front_trimmed (take (semicolon_of text) text)))) (size_small (end_trimmed (front_trimmed (drop (semicolon_of text + 1) text))))

hole_within : (text : List ℕ) → IfSome (hole_of text) IsHoleWithin
hole_within text = cond_gives IsHoleWithin (is_enclosed text) (sizes_of (inside_of text)) (sizes_within (inside_of text))

one_within : (found : Option Hole) → IfSome found IsHoleWithin → All IsHoleWithin (option_to_list found)
one_within None h = All-nil IsHoleWithin
one_within (Some hole) h = All-cons IsHoleWithin hole [] h (All-nil IsHoleWithin)

words_within : (words : List Word) (holes : List Hole) → All IsHoleWithin holes → All IsHoleWithin (fold with_hole holes words)
words_within [] holes h = h
words_within (word ∷ rest) holes h =
    words_within rest (with_hole holes word)
    (All-append IsHoleWithin holes (option_to_list (hole_of word.text)) h (one_within (hole_of word.text) (hole_within word.text)))

given_within : (holes : List Hole) (what : Given) → All IsHoleWithin holes → All IsHoleWithin (given_holes holes what)
given_within holes (given.Set (Many place words)) h = words_within words [] (All-nil IsHoleWithin)
given_within holes (given.Set (One word)) h = h
given_within holes (given.Added (Many place words)) h = words_within words holes h
given_within holes (given.Added (One word)) h = h

setting_within : (holes : List Hole) (setting : Setting) → All IsHoleWithin holes → All IsHoleWithin (with_setting holes setting)
setting_within holes setting h = at (has_key (codes "holes") setting)
  where
    at : (b : Bool) → All IsHoleWithin (cond b (given_holes holes setting.given) holes)
    at true = given_within holes setting.given h
    at false = h

settings_within : (settings : List Setting) (holes : List Hole) → All IsHoleWithin holes → All IsHoleWithin (fold with_setting holes settings)
settings_within [] holes h = h
settings_within (setting ∷ rest) holes h = settings_within rest (with_setting holes setting) (setting_within holes setting h)

pub holes_within : (settings : List Setting) → All IsHoleWithin (holes_of settings)
holes_within settings = settings_within settings [] (All-nil IsHoleWithin)

-- ---- there are at most 64

one_more : (found : Option Hole) (holes : List Hole) (fault : SectionFault) → None ≡ cond (is_some found && nat_lt (length holes) 64) None (Some fault)
    → (length (holes ++ option_to_list found) ≡ length holes + 1) × (length holes < 64)
one_more None holes fault e = absurd (cc)
one_more (Some hole) holes fault e = at (nat_lt (length holes) 64) refl e
  where
    at : (b : Bool) → nat_lt (length holes) 64 ≡ b → None ≡ cond b None (Some fault) → (length (holes ++ hole ∷ []) ≡ length holes + 1) × (length holes < 64)
    at true few e = (omega (arith, length-append holes (hole ∷ [])), ltb-true (length holes) 64 few)
    at false few e = absurd (cc)

few_words : (words : List Word) (holes : List Hole) → length holes ≤ 64 → None ≡ words_fault (length holes) words → length (fold with_hole holes words) ≤ 64
few_words [] holes h e = h
few_words (word ∷ rest) holes h e =
    let both = neither (word_fault (length holes) word) (words_fault (length holes + 1) rest) e in
    let one = one_more (hole_of word.text) holes (BadValue word.place) both.0 in
    few_words rest (with_hole holes word) (omega (arith, one.0, one.1)) (both.1 ∙ ap (λ n. words_fault n rest) (sym one.0))

few_given : (holes : List Hole) (what : Given) → length holes ≤ 64 → None ≡ shaped_fault (length holes) shape.Holes what → length (given_holes holes what) ≤ 64
few_given holes (given.Set (One word)) h e = absurd (cc)
few_given holes (given.Set (Many place words)) h e = few_words words [] (omega arith) e
few_given holes (given.Added (One word)) h e = absurd (cc)
few_given holes (given.Added (Many place words)) h e = few_words words holes h e

holes_fault : (before : ℕ) (setting : Setting) → setting.key.text ≡ codes "holes" → None ≡ setting_fault section.Partition before setting → None ≡ shaped_fault before shape.Holes setting.given
holes_fault before setting is e = e ∙ ap (λ text. keyed_fault before setting.key.place (partition_shape text) setting.given) is

few_setting : (holes : List Hole) (setting : Setting) → length holes ≤ 64 → None ≡ setting_fault section.Partition (length holes) setting → length (with_setting holes setting) ≤ 64
few_setting holes setting h e = at (has_key (codes "holes") setting) refl
  where
    at : (b : Bool) → has_key (codes "holes") setting ≡ b → length (cond b (given_holes holes setting.given) holes) ≤ 64
    at true has = few_given holes setting.given h (holes_fault (length holes) setting (key_is (codes "holes") setting has) e)
    at false other = h

few_item : (holes : List Hole) (item : InnerItem) → length holes ≤ 64 → None ≡ item_fault section.Partition (length holes) item → length (with_item holes item) ≤ 64
few_item holes (inner.Key setting) h e = few_setting holes setting h e
few_item holes (inner.Section head) h e = h

few_items : (front rest : List InnerItem) → length (holes_of (inner_keys front)) ≤ 64 → None ≡ fault_behind section.Partition front rest → length (holes_of (inner_keys (front ++ rest))) ≤ 64
few_items front [] h e = subst (λ (items : List InnerItem). length (holes_of (inner_keys items)) ≤ 64) (sym (append-nil front)) h
few_items front (item ∷ rest) h e =
    let both = neither (fault_after section.Partition front item) (fault_behind section.Partition (front ++ item ∷ []) rest) e in
    let few : length (holes_of (inner_keys (front ++ item ∷ []))) ≤ 64 =
    subst (λ (holes : List Hole). length holes ≤ 64) (sym (holes_pushed front item)) (few_item (holes_of (inner_keys front)) item h both.0) in
    subst (λ (items : List InnerItem). length (holes_of (inner_keys items)) ≤ 64) (append_assoc front (item ∷ []) rest) (few_items (front ++ item ∷ []) rest few both.1)

pub few_holes : (items : List InnerItem) → None ≡ first_fault section.Partition items → length (holes_of (inner_keys items)) ≤ 64
few_holes items e = few_items [] items (omega arith) e
