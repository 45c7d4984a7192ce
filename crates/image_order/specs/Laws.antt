-- Laws of chains and of the order.
use Rattle.std.specs.Prelude.{◌≡◌, ℕ, ◌<◌, ◌↔◌, true, List, [], Some, None, length}
use Rattle.std.specs.List.{range_with_len}
use Rattle.image_order.specs.Chains.{AreNumbered, HasCycle, HasNone, first_cycle, returns}
use Rattle.image_order.specs.Order.{IsOrder, Places, order_among}

-- the bounded search finds exactly the images that have a cycle
abbrev pub ReturnsExactly : Type 0
ReturnsExactly = (families : List (List ℕ)) (image : ℕ) → (returns families image ≡ true) ↔ HasCycle families image

-- an image has a cycle, and none in front of it has one
pub record IsFirstCycle (families : List (List ℕ)) (image : ℕ) : Type 0 where
  pub within : image < length families
  pub returns : HasCycle families image
  pub first : (earlier : ℕ) → earlier < image → HasCycle families earlier → ⊥

-- the first cycle is that of the first image that has one; where there is none, no image has one
pub record CyclesExactly : Type 0 where
  pub some : (families : List (List ℕ)) (image : ℕ) → first_cycle families ≡ Some image → IsFirstCycle families image
  pub none : (families : List (List ℕ)) → first_cycle families ≡ None → HasNone families

-- without a cycle the images are in order
abbrev pub OrderStands : Type 0
OrderStands =
    (families : List (List ℕ)) → AreNumbered families → HasNone families → IsOrder families (order_among families)

-- without a cycle the order is the one that is found by placing one image after another, however many stand one below
-- another
abbrev pub OrderPlaces : Type 0
OrderPlaces =
    (families : List (List ℕ)) → AreNumbered families → HasNone families →
    Places families (range_with_len 0 (length families)) [] (order_among families)
