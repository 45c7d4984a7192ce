-- The first item with a fault, from the recursion that finds it.
use Rattle.std.proofs.Common.{◌≡◌, ◌⊎◌, inl, inr, List, [], ◌∷◌, ◌++◌, Option, Some, None, refl, ◌∙◌, sym, ap, subst, append-nil, append_assoc}
use Rattle.std.specs.Prelude.{MatchOption}
use Rattle.std.specs.Option.{option_or}
use Rattle.std.proofs.lemmas.List.Elements.{All-cons, All-nil}
use Rattle.conf_items.specs.declared.outline.InnerItem.{InnerItem}
use Rattle.conf_items.specs.declared.outline.SectionItem.{SectionItem}
use Rattle.conf_keys.specs.declared.checking.SectionFault.{SectionFault}
use Rattle.conf_keys.specs.declared.settings.Section.{Section}
use Rattle.conf_keys.specs.Checking.{fault_after, fault_behind, first_top_fault, top_fault}
use Rattle.conf_laws.specs.Faults.{FailsFirst, FailsTopFirst, FirstFault, FirstTopFault, IsClear, IsTopClear}

-- where an element stands in a list with one more at its end: it is that one, or it stands in front of it
parted : {X : Type 0} (xs ys zs : List X) (x y : X) → xs ++ x ∷ [] ≡ ys ++ y ∷ zs → ((xs ≡ ys) × (x ≡ y)) ⊎ ((more : List X) × (xs ≡ ys ++ y ∷ more))
parted [] [] zs x y e = inl (refl, cc)
parted [] (z ∷ []) zs x y e = absurd (cc)
parted [] (z ∷ w ∷ ys) zs x y e = absurd (cc)
parted (w ∷ xs) [] zs x y e = let same : w ≡ y = cc in inr (xs, ap (λ v. v ∷ xs) same)
parted (w ∷ xs) (z ∷ ys) zs x y e =
    let head : w ≡ z = cc in
    let tail : xs ++ x ∷ [] ≡ ys ++ y ∷ zs = cc in
    elim (parted xs ys zs x y tail) [
      | inl h ↦ inl (ap (λ v. v ∷ xs) head ∙ ap (λ vs. z ∷ vs) h.0, h.1)
      | inr h ↦ inr (h.0, ap (λ v. v ∷ xs) head ∙ ap (λ vs. z ∷ vs) h.1)
    ]

-- one more item without a fault
clear_more : (whose : Section) (front : List InnerItem) (item : InnerItem) → IsClear whose front → fault_after whose front item ≡ None → IsClear whose (front ++ item ∷ [])
clear_more whose front item clear none = λ before one behind split.
    elim (parted front before behind item one split) [
      | inl h ↦ ap (λ items. fault_after whose items one) (sym h.0) ∙ ap (fault_after whose front) (sym h.1) ∙ none
      | inr h ↦ clear before one h.0 h.1
    ]

no_item : (whose : Section) (before : List InnerItem) (one : InnerItem) (behind : List InnerItem) → [] ≡ before ++ one ∷ behind → fault_after whose before one ≡ None
no_item whose [] one behind split = absurd (cc)
no_item whose (x ∷ before) one behind split = absurd (cc)

clear_none : (whose : Section) → IsClear whose []
clear_none whose = λ before one behind split. no_item whose before one behind split

abbrev Found : Section → List InnerItem → Option SectionFault → Type 0
Found whose items found = MatchOption found (IsClear whose items) (FailsFirst whose items)

with_fault : (whose : Section) (front : List InnerItem) (item : InnerItem) (rest : List InnerItem) (here next : Option SectionFault) → IsClear whose front → fault_after whose front item ≡ here
    → (here ≡ None → Found whose (front ++ item ∷ rest) next) → Found whose (front ++ item ∷ rest) (option_or here next)
with_fault whose front item rest (Some fault) next clear e further = (front, item, rest, refl, clear, e)
with_fault whose front item rest None next clear e further = further refl

behind_front : (whose : Section) (front rest : List InnerItem) → IsClear whose front → Found whose (front ++ rest) (fault_behind whose front rest)
behind_front whose front [] clear = subst (IsClear whose) (sym (append-nil front)) clear
behind_front whose front (item ∷ rest) clear =
    with_fault whose front item rest (fault_after whose front item) (fault_behind whose (front ++ item ∷ []) rest) clear refl
    (λ none. subst (λ items. Found whose items (fault_behind whose (front ++ item ∷ []) rest)) (append_assoc front (item ∷ []) rest)
    (behind_front whose (front ++ item ∷ []) rest (clear_more whose front item clear none)))

pub first_is : FirstFault
first_is whose items = behind_front whose [] items (clear_none whose)

-- ---- a section at the top

abbrev TopFound : Section → List SectionItem → Option SectionFault → Type 0
TopFound whose items found = MatchOption found (IsTopClear whose items) (FailsTopFirst whose items)

top_further : (whose : Section) (item : SectionItem) (rest : List SectionItem) (found : Option SectionFault) → top_fault whose item ≡ None → TopFound whose rest found → TopFound whose (item ∷ rest) found
top_further whose item rest None e h = All-cons (λ item. top_fault whose item ≡ None) item rest e h
top_further whose item rest (Some fault) e h =
    (item ∷ h.0, h.1, h.2, ap (λ items. item ∷ items) h.3, All-cons (λ item. top_fault whose item ≡ None) item h.0 e h.4, h.5)

top_with : (whose : Section) (item : SectionItem) (rest : List SectionItem) (here next : Option SectionFault) → top_fault whose item ≡ here → TopFound whose rest next → TopFound whose (item ∷ rest) (option_or here next)
top_with whose item rest (Some fault) next e h = ([], item, rest, refl, All-nil (λ item. top_fault whose item ≡ None), e)
top_with whose item rest None next e h = top_further whose item rest next e h

pub first_top_is : FirstTopFault
first_top_is whose [] = All-nil (λ item. top_fault whose item ≡ None)
first_top_is whose (item ∷ rest) = top_with whose item rest (top_fault whose item) (first_top_fault whose rest) refl (first_top_is whose rest)
