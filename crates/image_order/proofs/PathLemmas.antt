-- One step of the walk: the order that it still finds stays the same, and fewer steps are left.
use Rattle.std.proofs.Common.{◌≡◌, ℕ, zero, suc, ◌+◌, ◌-◌, ◌<◌, ◌≤◌, List, [], ◌∷◌, ◌++◌, true, false, refl, ap, sym, ◌∙◌, drop, get_or, length, arith}
use Rattle.std.specs.Prelude.{fold}
use Rattle.std.specs.List.{sum_by}
use Rattle.std.proofs.lemmas.List.{at_drop_more, drop_all, length_push}
use Rattle.std.proofs.lemmas.List.Sums.{sum_by-cons}
use Rattle.image_order.specs.declared.ordering.Visit.{Visit}
use Rattle.image_order.specs.Chains.{children}
use Rattle.image_order.specs.Order.{is_placed, with_image}
use Rattle.image_order.specs.Path.{finished, left, steps_below, steps_of, walked}

-- a list from an item on that is read from it
drop_read : {X : Type 0} (xs : List X) (i : ℕ) (x : X) → i < length xs → x ≡ get_or xs i x → drop i xs ≡ x ∷ drop (i + 1) xs
drop_read xs i x below is = at_drop_more (λ ys. ys) xs i x below ∙ ap (λ y. y ∷ drop (i + 1) xs) (sym is)

-- ---- the last image of a path

pub walked-append : (families : List (List ℕ)) (depth : ℕ) (path : List Visit) (visit : Visit) (order : List ℕ) → walked families depth (path ++ visit ∷ []) order ≡ walked families depth path (finished families (depth - length path) visit order)
walked-append families depth [] visit order = ap (λ k. finished families k visit order) (omega arith)
walked-append families depth (first ∷ path) visit order =
    let deeper : depth - 1 - length path ≡ depth - length (first ∷ path) = omega arith in
    ap (finished families depth first) (walked-append families (depth - 1) path visit order ∙ ap (λ k. walked families (depth - 1) path (finished families k visit order)) deeper)

pub left-append : (families : List (List ℕ)) (depth : ℕ) (path : List Visit) (visit : Visit) → left families depth (path ++ visit ∷ []) ≡ left families depth path + steps_of families (depth - length path) visit
left-append families depth [] visit =
    let same : depth ≡ depth - length {A = Visit} [] = omega arith in
    ap (λ k. steps_of families k visit + 0) same ∙ omega arith
left-append families depth (first ∷ path) visit =
    let deeper : depth - 1 - length path ≡ depth - length (first ∷ path) = omega arith in
    let behind : left families (depth - 1) (path ++ visit ∷ []) ≡ left families (depth - 1) path + steps_of families (depth - length (first ∷ path)) visit = left-append families (depth - 1) path visit ∙ ap (λ k. left families (depth - 1) path + steps_of families k visit) deeper in
    ap (λ n. steps_of families depth first + n) behind ∙ omega arith

-- ---- an image whose children were all looked at

pub finished_none : (families : List (List ℕ)) (depth : ℕ) (visit : Visit) (order : List ℕ) → length (children families visit.image) ≤ visit.next → finished families depth visit order ≡ order ++ visit.image ∷ []
finished_none families depth visit order none = ap (λ cs. fold (with_image families depth) order cs ++ visit.image ∷ []) (drop_all visit.next (children families visit.image) none)

pub walked_none : (families : List (List ℕ)) (depth : ℕ) (path : List Visit) (visit : Visit) (order : List ℕ) → length (children families visit.image) ≤ visit.next → walked families depth path (order ++ visit.image ∷ []) ≡ walked families depth (path ++ visit ∷ []) order
walked_none families depth path visit order none =
    ap (walked families depth path) (sym (finished_none families (depth - length path) visit order none)) ∙ sym (walked-append families depth path visit order)

pub left_none : (families : List (List ℕ)) (depth : ℕ) (path : List Visit) (visit : Visit) → left families depth path < left families depth (path ++ visit ∷ [])
left_none families depth path visit = rw (left-append families depth path visit) (omega arith)

-- ---- an image with a child that comes next

-- the next child is looked at
abbrev pub past_child : Visit → Visit
past_child visit = record { image = visit.image; next = visit.next + 1 }

-- none of its children was
abbrev pub begun : ℕ → Visit
begun image = record { image = image; next = 0 }

finished_child : (families : List (List ℕ)) (depth : ℕ) (visit : Visit) (order : List ℕ) (child : ℕ) → visit.next < length (children families visit.image) → child ≡ get_or (children families visit.image) visit.next child → finished families depth visit order ≡ finished families depth (past_child visit) (with_image families depth order child)
finished_child families depth visit order child below is = ap (λ cs. fold (with_image families depth) order cs ++ visit.image ∷ []) (drop_read (children families visit.image) visit.next child below is)

steps_child : (families : List (List ℕ)) (depth : ℕ) (visit : Visit) (child : ℕ) → visit.next < length (children families visit.image) → child ≡ get_or (children families visit.image) visit.next child → steps_of families depth visit ≡ 1 + (steps_below families depth child + sum_by (steps_below families depth) (drop (visit.next + 1) (children families visit.image)))
steps_child families depth visit child below is =
    ap (λ cs. 1 + sum_by (steps_below families depth) cs) (drop_read (children families visit.image) visit.next child below is)
    ∙ ap (λ n. 1 + n) (sum_by-cons (steps_below families depth) child (drop (visit.next + 1) (children families visit.image)))

-- it is placed, or there is no room for it
with_placed : (families : List (List ℕ)) (depth : ℕ) (order : List ℕ) (child : ℕ) → is_placed order child ≡ true → with_image families depth order child ≡ order
with_placed families zero order child placed = refl
with_placed families (suc depth) order child placed = rw placed refl

with_no_room : (families : List (List ℕ)) (depth : ℕ) (order : List ℕ) (child : ℕ) → depth ≡ 0 → with_image families depth order child ≡ order
with_no_room families depth order child none = rw none refl

-- or it goes on the path
with_new : (families : List (List ℕ)) (depth : ℕ) (order : List ℕ) (child : ℕ) → is_placed order child ≡ false → 0 < depth → with_image families depth order child ≡ finished families (depth - 1) (begun child) order
with_new families zero order child new room = absurd (omega arith)
with_new families (suc depth) order child new room =
    let less : depth ≡ suc depth - 1 = omega arith in
    rw new (ap (λ k. finished families k (begun child) order) less)

some_steps : (families : List (List ℕ)) (depth : ℕ) (child : ℕ) → 0 < steps_below families depth child
some_steps families zero child = omega arith
some_steps families (suc depth) child = omega arith

steps_new : (families : List (List ℕ)) (depth : ℕ) (child : ℕ) → 0 < depth → steps_below families depth child ≡ 1 + steps_of families (depth - 1) (begun child)
steps_new families zero child room = absurd (omega arith)
steps_new families (suc depth) child room =
    let less : depth ≡ suc depth - 1 = omega arith in
    ap (λ k. 2 + sum_by (steps_below families k) (children families child)) less ∙ omega arith

walked_past : (families : List (List ℕ)) (depth : ℕ) (path : List Visit) (visit : Visit) (order : List ℕ) (child : ℕ) → visit.next < length (children families visit.image) → child ≡ get_or (children families visit.image) visit.next child → walked families depth (path ++ visit ∷ []) order ≡ walked families depth (path ++ past_child visit ∷ []) (with_image families (depth - length path) order child)
walked_past families depth path visit order child below is =
    walked-append families depth path visit order
    ∙ ap (walked families depth path) (finished_child families (depth - length path) visit order child below is)
    ∙ sym (walked-append families depth path (past_child visit) (with_image families (depth - length path) order child))

pub walked_placed : (families : List (List ℕ)) (depth : ℕ) (path : List Visit) (visit : Visit) (order : List ℕ) (child : ℕ) → visit.next < length (children families visit.image) → child ≡ get_or (children families visit.image) visit.next child → is_placed order child ≡ true → walked families depth (path ++ past_child visit ∷ []) order ≡ walked families depth (path ++ visit ∷ []) order
walked_placed families depth path visit order child below is placed =
    sym (walked_past families depth path visit order child below is ∙ ap (walked families depth (path ++ past_child visit ∷ [])) (with_placed families (depth - length path) order child placed))

pub walked_no_room : (families : List (List ℕ)) (depth : ℕ) (path : List Visit) (visit : Visit) (order : List ℕ) (child : ℕ) → visit.next < length (children families visit.image) → child ≡ get_or (children families visit.image) visit.next child → depth ≤ length path → walked families depth (path ++ past_child visit ∷ []) order ≡ walked families depth (path ++ visit ∷ []) order
walked_no_room families depth path visit order child below is none =
    sym (walked_past families depth path visit order child below is ∙ ap (walked families depth (path ++ past_child visit ∷ [])) (with_no_room families (depth - length path) order child (omega arith)))

pub walked_new : (families : List (List ℕ)) (depth : ℕ) (path : List Visit) (visit : Visit) (order : List ℕ) (child : ℕ) → visit.next < length (children families visit.image) → child ≡ get_or (children families visit.image) visit.next child → is_placed order child ≡ false → length path < depth → walked families depth ((path ++ past_child visit ∷ []) ++ begun child ∷ []) order ≡ walked families depth (path ++ visit ∷ []) order
walked_new families depth path visit order child below is new room =
    let longer : length (path ++ past_child visit ∷ []) ≡ length path + 1 = length_push path (past_child visit) in
    let less : depth - length (path ++ past_child visit ∷ []) ≡ depth - length path - 1 = omega (arith, longer) in
    walked-append families depth (path ++ past_child visit ∷ []) (begun child) order
    ∙ ap (λ k. walked families depth (path ++ past_child visit ∷ []) (finished families k (begun child) order)) less
    ∙ ap (walked families depth (path ++ past_child visit ∷ [])) (sym (with_new families (depth - length path) order child new (omega arith)))
    ∙ sym (walked_past families depth path visit order child below is)

pub left_past : (families : List (List ℕ)) (depth : ℕ) (path : List Visit) (visit : Visit) (child : ℕ) → visit.next < length (children families visit.image) → child ≡ get_or (children families visit.image) visit.next child → left families depth (path ++ past_child visit ∷ []) < left families depth (path ++ visit ∷ [])
left_past families depth path visit child below is =
    rw (left-append families depth path visit, left-append families depth path (past_child visit), steps_child families (depth - length path) visit child below is) (omega (arith, some_steps families (depth - length path) child))

pub left_new : (families : List (List ℕ)) (depth : ℕ) (path : List Visit) (visit : Visit) (child : ℕ) → visit.next < length (children families visit.image) → child ≡ get_or (children families visit.image) visit.next child → length path < depth → left families depth ((path ++ past_child visit ∷ []) ++ begun child ∷ []) < left families depth (path ++ visit ∷ [])
left_new families depth path visit child below is room =
    let longer : length (path ++ past_child visit ∷ []) ≡ length path + 1 = length_push path (past_child visit) in
    let less : depth - length (path ++ past_child visit ∷ []) ≡ depth - length path - 1 = omega (arith, longer) in
    let last : left families depth ((path ++ past_child visit ∷ []) ++ begun child ∷ []) ≡ left families depth (path ++ past_child visit ∷ []) + steps_of families (depth - length path - 1) (begun child) =
    left-append families depth (path ++ past_child visit ∷ []) (begun child) ∙ ap (λ k. left families depth (path ++ past_child visit ∷ []) + steps_of families k (begun child)) less in
    rw (last, left-append families depth path visit, left-append families depth path (past_child visit), steps_child families (depth - length path) visit child below is) (omega (arith, steps_new families (depth - length path) child (omega arith)))
