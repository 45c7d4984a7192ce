use Rattle.std.proofs.Common.{◌≡◌, ℕ, ◌+◌, ◌-◌, List, ◌++◌, length, take, drop, ap, ◌∙◌, arith, length-append, length-drop, length-take}
use Rattle.std.proofs.lemmas.List.{take_at}
use Rattle.base_fields.specs.declared.spans.Span.{Span}
use Rattle.span_cover.proofs.Replacing.{first_turn, second_turn}
use Rattle.span_cover.proofs.places.replace.Goals as goal

pub returns-clause-ok : goal.returns-clause-ok
returns-clause-ok c =
    let old : List Span = c.args.spans.now.items in
    let by : List Span = c.args.by.now in
    let from : ℕ = c.args.from in
    let to : ℕ = c.args.to in
    let long : c.deref_mut.result.now ≡ old ++ by = c.deref_mut.ensures.value ∙ c.in_ok-extend_from_slice.ensures.items in
    let size : length c.deref_mut.result.now ≡ length old + length by = ap length long ∙ length-append old by in
    let turned : c.rotate_from.new.spans ≡ (take from (old ++ by) ++ drop (from + (to - from)) (old ++ by)) ++ take (to - from) (drop from (old ++ by)) = rw (← long) c.rotate_from.ensures in
    let left : c.deref_mut-2.result.now ≡ take from old ++ (drop to old ++ by) =
    c.deref_mut-2.ensures.value ∙ c.truncate.ensures.items
    ∙ ap (take (c.len.result - (to - from))) (take_at c.rotate_from.new.spans _ _ (c.rotate_from.auto.spans ∙ c.deref_mut.ensures.len))
    ∙ ap (λ (n : ℕ). take n c.rotate_from.new.spans) (omega (arith, c.len.ensures, size))
    ∙ first_turn old by c.rotate_from.new.spans from to c.requires.0 c.requires.1 turned in
    let rest : length c.deref_mut-2.result.now ≡ from + (length old - to + length by) =
    ap length left ∙ length-append (take from old) (drop to old ++ by) ∙ omega (arith, length-take from old, length-append (drop to old) by, length-drop to old) in
    take_at c.rotate_from-2.new.spans _ _ (c.rotate_from-2.auto.spans ∙ c.deref_mut-2.ensures.len)
    ∙ second_turn old by c.deref_mut-2.result.now c.rotate_from-2.new.spans from to (c.len-2.result - from - length by) c.requires.0 c.requires.1 left (omega (arith, rest)) c.rotate_from-2.ensures
