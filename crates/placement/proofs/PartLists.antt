-- The parts of an image, one after another.
use Rattle.std.proofs.Common.{◌≡◌, ℕ, suc, ◌+◌, ◌<◌, ◌≤◌, List, [], ◌∷◌, ◌++◌, length, get_or, drop, Bool, sym, ap, ◌∙◌, arith, append_assoc, drop-cons}
use Rattle.std.proofs.lemmas.List.{append-nil, drop_all}
use Rattle.image_layout.specs.declared.layout.Placed.{Placed}
use Rattle.image_specs.specs.declared.specs.Source.{Source}
use Rattle.placement.specs.Layouts.{parts_from, placed_of}
use Rattle.placement_rules.specs.Places.{Stood}

-- those of the first k, and what the rest gives
abbrev pub PartsBy : List (List ℕ) → List Source → List Bool → List Stood → ℕ → List Placed → Type 0
PartsBy names sources wholes ss k parts =
    parts_from names sources wholes ss ≡ parts ++ parts_from (drop k names) (drop k sources) (drop k wholes) (drop k ss)

next : (k : ℕ) → suc k ≡ k + 1
next k = omega arith

pub parts_more : (names : List (List ℕ)) (sources : List Source) (wholes : List Bool) (ss : List Stood) (k : ℕ) (n : List ℕ) (r : Source) (w : Bool) (s : Stood) (parts new : List Placed) (p : Placed) → k < length ss → length ss ≡ length names → length ss ≡ length sources → length ss ≡ length wholes → PartsBy names sources wholes ss k parts → new ≡ parts ++ p ∷ [] → p ≡ placed_of (get_or names k n) (get_or sources k r).file (get_or wholes k w) (get_or ss k s) → PartsBy names sources wholes ss (k + 1) new
parts_more names sources wholes ss k n r w s parts new p below same same' same'' before is one =
    let own : Placed = placed_of (get_or names k n) (get_or sources k r).file (get_or wholes k w) (get_or ss k s) in
    let rest : List Placed = parts_from (drop (k + 1) names) (drop (k + 1) sources) (drop (k + 1) wholes) (drop (k + 1) ss) in
    before
    ∙ ap (λ (l : List (List ℕ)). parts ++ parts_from l (drop k sources) (drop k wholes) (drop k ss)) (drop-cons names k n (omega arith))
    ∙ ap (λ (l : List Source). parts ++ parts_from (get_or names k n ∷ drop (suc k) names) l (drop k wholes) (drop k ss)) (drop-cons sources k r (omega arith))
    ∙ ap (λ (l : List Bool). parts ++ parts_from (get_or names k n ∷ drop (suc k) names) (get_or sources k r ∷ drop (suc k) sources) l (drop k ss)) (drop-cons wholes k w (omega arith))
    ∙ ap (λ (l : List Stood). parts ++ parts_from (get_or names k n ∷ drop (suc k) names) (get_or sources k r ∷ drop (suc k) sources) (get_or wholes k w ∷ drop (suc k) wholes) l) (drop-cons ss k s below)
    ∙ ap (λ (m : ℕ). parts ++ own ∷ parts_from (drop m names) (drop m sources) (drop m wholes) (drop m ss)) (next k)
    ∙ sym (append_assoc parts (own ∷ []) rest)
    ∙ ap (λ (l : List Placed). l ++ rest) (sym (is ∙ ap (λ (x : Placed). parts ++ x ∷ []) one))

pub parts_all : (names : List (List ℕ)) (sources : List Source) (wholes : List Bool) (ss : List Stood) (k : ℕ) (parts : List Placed) → length ss ≡ length names → length ss ≤ k → PartsBy names sources wholes ss k parts → parts ≡ parts_from names sources wholes ss
parts_all names sources wholes ss k parts same past before =
    sym (before ∙ ap (λ (l : List (List ℕ)). parts ++ parts_from l (drop k sources) (drop k wholes) (drop k ss)) (drop_all k names (omega arith)) ∙ append-nil parts)
