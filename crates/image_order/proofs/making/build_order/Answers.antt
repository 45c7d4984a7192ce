use Rattle.std.proofs.Common.{◌≡◌, ℕ, List, None, Some, length, rules, subst, sym, []}
use Rattle.std.specs.List.{range_with_len}
use Rattle.image_order.specs.Chains.{first_cycle}
use Rattle.image_order.specs.Order.{IsOrder, Places}
use Rattle.image_order.proofs.CycleLemmas.{cycles_exactly, none_at_all}
use Rattle.image_order.proofs.PlacingLemmas.{order_places, order_stands}
use Rattle.image_order.proofs.making.build_order.Goals as goal

pub returns-in-Some-clause-cycle : goal.returns-in-Some-clause-cycle
returns-in-Some-clause-cycle c =
    let some : first_cycle c.args.families.now ≡ Some c.in-Some.image = search rules in
    cycles_exactly.some c.args.families.now c.in-Some.image some

pub returns-in_ok-order_among-in-None-clause-no_cycle : goal.returns-in_ok-order_among-in-None-clause-no_cycle
returns-in_ok-order_among-in-None-clause-no_cycle c =
    let none : first_cycle c.args.families.now ≡ None = search rules in
    none_at_all c.args.families.now none

pub returns-in_ok-order_among-in-None-clause-in_order : goal.returns-in_ok-order_among-in-None-clause-in_order
returns-in_ok-order_among-in-None-clause-in_order c = λ numbers.
    let none : first_cycle c.args.families.now ≡ None = search rules in
    subst (λ (order : List ℕ). IsOrder c.args.families.now order) (sym c.in_ok-order_among-in-None.ensures) (order_stands c.args.families.now numbers (none_at_all c.args.families.now none))

pub returns-in_ok-order_among-in-None-clause-placed : goal.returns-in_ok-order_among-in-None-clause-placed
returns-in_ok-order_among-in-None-clause-placed c = λ numbers.
    let none : first_cycle c.args.families.now ≡ None = search rules in
    subst (λ (order : List ℕ). Places c.args.families.now (range_with_len 0 (length c.args.families.now)) [] order) (sym c.in_ok-order_among-in-None.ensures) (order_places c.args.families.now numbers (none_at_all c.args.families.now none))
