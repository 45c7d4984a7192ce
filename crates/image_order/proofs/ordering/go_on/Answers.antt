use Rattle.std.proofs.Common.{◌≡◌, ◌∙◌, ◌<◌, ◌≤◌, ◌+◌, ◌-◌, ◌++◌, ◌∷◌, [], length, get_or, false, true, ap, rules, arith}
use Rattle.std.proofs.lemmas.Grind.{common_steps}
use Rattle.std.proofs.lemmas.List.{length_push}
use Rattle.image_order.specs.Chains.{children}
use Rattle.image_order.specs.Order.{is_placed}
use Rattle.image_order.specs.Path.{walked}
use Rattle.image_order.proofs.PathLemmas.{begun, left_new, left_none, left_past, past_child, walked_new, walked_no_room, walked_none, walked_placed}
use Rattle.image_order.proofs.ordering.go_on.Goals.{else-len-families-via-then-len-families+else-not-is_placed, else-len-families-via-else-len-families}
use Rattle.image_order.proofs.ordering.go_on.Goals as goal

pub returns-in_default-clause-walked : goal.returns-in_default-clause-walked
returns-in_default-clause-walked c =
    let none : length (children c.args.families.now c.args.visit.image) ≤ c.args.visit.next = grind (arith, common_steps) in
    let order = c.in_ok-push.ensures.ok in
    ap (walked c.args.families.now (length c.args.families.now - 1) c.args.path.now.items) order
    ∙ walked_none c.args.families.now (length c.args.families.now - 1) c.args.path.now.items c.args.visit c.args.order.now none

pub returns-in_default-clause-left : goal.returns-in_default-clause-left
returns-in_default-clause-left c = left_none c.args.families.now (length c.args.families.now - 1) c.args.path.now.items c.args.visit

pub returns-in_ok-push-3-clause-walked : goal.returns-in_ok-push-3-clause-walked
returns-in_ok-push-3-clause-walked c =
    let below : c.args.visit.next < length (children c.args.families.now c.args.visit.image) = grind (arith, common_steps) in
    let is : c.in-Some.child ≡ get_or (children c.args.families.now c.args.visit.image) c.args.visit.next c.in-Some.child = search rules in
    let new : is_placed c.args.order.now c.in-Some.child ≡ false = search rules in
    let path : c.push-then-not-is_placed.new.self.items ≡ (c.args.path.now.items ++ past_child c.args.visit ∷ []) ++ begun c.in-Some.child ∷ [] = search rules in
    let first : c.push-2.new.self.items ≡ c.args.path.now.items ++ past_child c.args.visit ∷ [] = search rules in
    let long : length c.push-2.new.self.items ≡ length c.args.path.now.items + 1 = ap length first ∙ length_push c.args.path.now.items (past_child c.args.visit) in
    let room : length c.args.path.now.items < length c.args.families.now - 1 = omega (arith, c.push-2.new.self.ok.0, c.len.ensures, c.if-len-families.true) in
    ap (λ p. walked c.args.families.now (length c.args.families.now - 1) p c.args.order.now) path
    ∙ walked_new c.args.families.now (length c.args.families.now - 1) c.args.path.now.items c.args.visit c.args.order.now c.in-Some.child below is new room

pub returns-in_ok-push-3-clause-left : goal.returns-in_ok-push-3-clause-left
returns-in_ok-push-3-clause-left c =
    let below : c.args.visit.next < length (children c.args.families.now c.args.visit.image) = grind (arith, common_steps) in
    let is : c.in-Some.child ≡ get_or (children c.args.families.now c.args.visit.image) c.args.visit.next c.in-Some.child = search rules in
    let path : c.push-then-not-is_placed.new.self.items ≡ (c.args.path.now.items ++ past_child c.args.visit ∷ []) ++ begun c.in-Some.child ∷ [] = search rules in
    let first : c.push-2.new.self.items ≡ c.args.path.now.items ++ past_child c.args.visit ∷ [] = search rules in
    let long : length c.push-2.new.self.items ≡ length c.args.path.now.items + 1 = ap length first ∙ length_push c.args.path.now.items (past_child c.args.visit) in
    let room : length c.args.path.now.items < length c.args.families.now - 1 = omega (arith, c.push-2.new.self.ok.0, c.len.ensures, c.if-len-families.true) in
    rw path (left_new c.args.families.now (length c.args.families.now - 1) c.args.path.now.items c.args.visit c.in-Some.child below is room)

pub returns-else-len-families-clause-walked : goal.returns-else-len-families-clause-walked
returns-else-len-families-clause-walked c =
    let below : c.args.visit.next < length (children c.args.families.now c.args.visit.image) = grind (arith, common_steps) in
    let is : c.in-Some.child ≡ get_or (children c.args.families.now c.args.visit.image) c.args.visit.next c.in-Some.child = search rules in
    let path : c.push-2.new.self.items ≡ c.args.path.now.items ++ past_child c.args.visit ∷ [] = search rules in
    let long : length c.push-2.new.self.items ≡ length c.args.path.now.items + 1 = ap length path ∙ length_push c.args.path.now.items (past_child c.args.visit) in
    ap (λ p. walked c.args.families.now (length c.args.families.now - 1) p c.args.order.now) path
    ∙ elim c.else-len-families.branch [
      | else-len-families-via-then-len-families+else-not-is_placed w ↦
          let placed : is_placed c.args.order.now c.in-Some.child ≡ true = search rules in
          walked_placed c.args.families.now (length c.args.families.now - 1) c.args.path.now.items c.args.visit c.args.order.now c.in-Some.child below is placed
      | else-len-families-via-else-len-families w ↦
          let full : length c.args.families.now - 1 ≤ length c.args.path.now.items = omega (arith, c.push-2.new.self.ok.0, c.len.ensures, w.if-len-families.false) in
          walked_no_room c.args.families.now (length c.args.families.now - 1) c.args.path.now.items c.args.visit c.args.order.now c.in-Some.child below is full
    ]

pub returns-else-len-families-clause-left : goal.returns-else-len-families-clause-left
returns-else-len-families-clause-left c =
    let below : c.args.visit.next < length (children c.args.families.now c.args.visit.image) = grind (arith, common_steps) in
    let is : c.in-Some.child ≡ get_or (children c.args.families.now c.args.visit.image) c.args.visit.next c.in-Some.child = search rules in
    let path : c.push-2.new.self.items ≡ c.args.path.now.items ++ past_child c.args.visit ∷ [] = search rules in
    rw path (left_past c.args.families.now (length c.args.families.now - 1) c.args.path.now.items c.args.visit c.in-Some.child below is)
