-- Two turns and a cut put a list in the place of a part of another.
use Rattle.std.proofs.Common.{◌≡◌, ℕ, ◌+◌, ◌-◌, ◌≤◌, List, ◌++◌, length, take, drop, ap, sym, ◌∙◌, arith, append_assoc, length-append, length-drop, length-take}
use Rattle.std.proofs.lemmas.List.{drop-append-le, drop_at, take-append-le, take_at}
use Rattle.base_fields.specs.declared.spans.Span.{Span}

front_length : (old : List Span) (from to : ℕ) → from ≤ to → to ≤ length old → length (take from old) ≡ from
front_length old from to le within = omega (arith, length-take from old)

-- the part that goes is turned to the end
pub first_turn : (old by turned : List Span) (from to : ℕ) → from ≤ to → to ≤ length old → turned ≡ (take from (old ++ by) ++ drop (from + (to - from)) (old ++ by)) ++ take (to - from) (drop from (old ++ by)) → take (length old + length by - (to - from)) turned ≡ take from old ++ (drop to old ++ by)
first_turn old by turned from to le within h =
    let place : from + (to - from) ≡ to = omega arith in
    let whole : length (take from old ++ (drop to old ++ by)) ≡ length old + length by - (to - from) =
    length-append (take from old) (drop to old ++ by) ∙ omega (arith, front_length old from to le within, length-append (drop to old) by, length-drop to old) in
    let front : take from (old ++ by) ≡ take from old = take-append-le from old by (omega arith) in
    let rest : drop (from + (to - from)) (old ++ by) ≡ drop to old ++ by = ap (λ (n : ℕ). drop n (old ++ by)) place ∙ drop-append-le to old by within in
    ap (λ (l : List Span). take (length old + length by - (to - from)) l)
    (h ∙ ap (λ (l : List Span). (l ++ drop (from + (to - from)) (old ++ by)) ++ take (to - from) (drop from (old ++ by))) front
    ∙ ap (λ (l : List Span). (take from old ++ l) ++ take (to - from) (drop from (old ++ by))) rest)
    ∙ take_at (take from old ++ (drop to old ++ by)) (take (to - from) (drop from (old ++ by))) (length old + length by - (to - from)) whole

-- the new part is turned to its place
pub second_turn : (old by left turned : List Span) (from to kept : ℕ) → from ≤ to → to ≤ length old → left ≡ take from old ++ (drop to old ++ by) → kept ≡ length old - to → turned ≡ (take from left ++ drop (from + kept) left) ++ take kept (drop from left) → turned ≡ (take from old ++ by) ++ drop to old
second_turn old by left turned from to kept le within is count h =
    let start : length (take from old) ≡ from = front_length old from to le within in
    let left' : left ≡ (take from old ++ drop to old) ++ by = is ∙ sym (append_assoc (take from old) (drop to old) by) in
    let first : take from left ≡ take from old = ap (λ (l : List Span). take from l) is ∙ take_at (take from old) (drop to old ++ by) from start in
    let behind : drop from left ≡ drop to old ++ by = ap (λ (l : List Span). drop from l) is ∙ drop_at (take from old) (drop to old ++ by) from start in
    let both : length (take from old ++ drop to old) ≡ from + kept = length-append (take from old) (drop to old) ∙ omega (arith, start, length-drop to old) in
    let new : drop (from + kept) left ≡ by = ap (λ (l : List Span). drop (from + kept) l) left' ∙ drop_at (take from old ++ drop to old) by (from + kept) both in
    let rest : take kept (drop from left) ≡ drop to old = ap (λ (l : List Span). take kept l) behind ∙ take_at (drop to old) by kept (length-drop to old ∙ sym count) in
    h ∙ ap (λ (l : List Span). (l ++ drop (from + kept) left) ++ take kept (drop from left)) first
    ∙ ap (λ (l : List Span). (take from old ++ l) ++ take kept (drop from left)) new
    ∙ ap (λ (l : List Span). (take from old ++ by) ++ l) rest
