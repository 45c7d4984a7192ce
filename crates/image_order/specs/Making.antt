-- The order of images, or the first of them that has a cycle.
use Rattle.std.specs.Prelude.{◌≡◌, ◌≢◌, ℕ, List, Option, Some, None, Result, Ok, Err, MatchResult, ⊤}
use Rattle.image_order.specs.declared.making.OrderFault.{OrderFault}
use Rattle.image_order.specs.declared.making.OrderFault.TheVariants.{Cycle, NoMemory}
use Rattle.image_order.specs.Chains.{first_cycle}
use Rattle.image_order.specs.Laws.{IsFirstCycle}
use Rattle.image_order.specs.Order.{order_among}

abbrev pub order_unless : Option ℕ → List ℕ → Result (List ℕ) OrderFault
order_unless (Some image) order = Err (Cycle image)
order_unless None order = Ok order

abbrev pub order_of : List (List ℕ) → Result (List ℕ) OrderFault
order_of families = order_unless (first_cycle families) (order_among families)

-- the image of a cycle is the first that has one
abbrev pub IsCycleOf : List (List ℕ) → OrderFault → Type 0
IsCycleOf families (Cycle image) = IsFirstCycle families image
IsCycleOf families NoMemory = ⊤

-- an answer is the wanted one, save where memory was refused
abbrev pub Answers : Result (List ℕ) OrderFault → Result (List ℕ) OrderFault → Type 0
Answers wanted got = MatchResult got (λ order. wanted ≡ Ok order) (λ fault. fault ≢ NoMemory → wanted ≡ Err fault)
