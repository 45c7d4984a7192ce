-- The order that a walk still finds from where it stands: on a path of images, of which each has children that weren't
-- looked at.
use Rattle.std.specs.Prelude.{ℕ, ◌+◌, ◌-◌, zero, suc, List, [], ◌∷◌, ◌++◌, drop, fold}
use Rattle.std.specs.List.{sum_by}
use Rattle.image_order.specs.declared.ordering.Visit.{Visit}
use Rattle.image_order.specs.Chains.{children}
use Rattle.image_order.specs.Order.{with_image}

-- the children of an image that weren't looked at, and then the image; so many may stand below it
abbrev pub finished : List (List ℕ) → ℕ → Visit → List ℕ → List ℕ
finished families depth visit order =
    fold (with_image families depth) order (drop visit.next (children families visit.image)) ++ visit.image ∷ []

-- the last image of the path comes first; so many may stand below the first one
abbrev pub walked : List (List ℕ) → ℕ → List Visit → List ℕ → List ℕ
walked families depth [] order = order
walked families depth (visit ∷ above) order = finished families depth visit (walked families (depth - 1) above order)

-- more steps than are left for an image that may be placed
abbrev pub steps_below : List (List ℕ) → ℕ → ℕ → ℕ
steps_below families zero image = 1
steps_below families (suc depth) image = 2 + sum_by (steps_below families depth) (children families image)

abbrev pub steps_of : List (List ℕ) → ℕ → Visit → ℕ
steps_of families depth visit = 1 + sum_by (steps_below families depth) (drop visit.next (children families visit.image))

-- no fewer steps than are left of the walk
abbrev pub left : List (List ℕ) → ℕ → List Visit → ℕ
left families depth [] = 0
left families depth (visit ∷ above) = steps_of families depth visit + left families (depth - 1) above
