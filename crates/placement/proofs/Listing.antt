-- Lists that are made of partitions, one after another.
use Rattle.std.proofs.Common.{◌≡◌, ℕ, suc, ◌+◌, ◌<◌, ◌≤◌, List, [], ◌∷◌, ◌++◌, length, get_or, drop, Bool, true, false, refl, sym, ap, ◌∙◌, arith, append_assoc, drop-cons}
use Rattle.std.proofs.lemmas.List.{append-nil, drop-drop, drop_all}
use Rattle.std.specs.Prelude.{if◌then◌else◌}
use Rattle.conf_keys.specs.declared.conf.PartitionSection.{PartitionSection}
use Rattle.placement.specs.Layouts.{entries_for}
use Rattle.placement_rules.specs.Places.{Stood}

-- those of the first k, and what the rest gives
abbrev pub EntriesBy : {A : Type 0} → (Stood → Bool) → (PartitionSection → Stood → A) → List PartitionSection → List Stood → ℕ → List A → Type 0
EntriesBy test entry parts ss k es = entries_for test entry parts ss ≡ es ++ entries_for test entry (drop k parts) (drop k ss)

next : (k : ℕ) → suc k ≡ k + 1
next k = omega arith

entries_left : {A : Type 0} (test : Stood → Bool) (entry : PartitionSection → Stood → A) (parts : List PartitionSection) (ss : List Stood) (k : ℕ) (p : PartitionSection) (s : Stood) → k < length parts → k < length ss → entries_for test entry (drop k parts) (drop k ss) ≡ (if test (get_or ss k s) then entry (get_or parts k p) (get_or ss k s) ∷ entries_for test entry (drop (k + 1) parts) (drop (k + 1) ss) else entries_for test entry (drop (k + 1) parts) (drop (k + 1) ss))
entries_left {A} test entry parts ss k p s below below' =
    ap (λ (l : List PartitionSection). entries_for test entry l (drop k ss)) (drop-cons parts k p below)
    ∙ ap (λ (l : List Stood). entries_for test entry (get_or parts k p ∷ drop (suc k) parts) l) (drop-cons ss k s below')
    ∙ ap (λ (n : ℕ). if test (get_or ss k s) then entry (get_or parts k p) (get_or ss k s) ∷ entries_for test entry (drop n parts) (drop n ss) else entries_for test entry (drop n parts) (drop n ss)) (next k)

skip_one : {A : Type 0} (test : Stood → Bool) (entry : PartitionSection → Stood → A) (parts : List PartitionSection) (s : Stood) (ss : List Stood) → test s ≡ false → entries_for test entry parts (s ∷ ss) ≡ entries_for test entry (drop 1 parts) ss
skip_one test entry [] s ss off = refl
skip_one {A} test entry (p ∷ parts) s ss off = ap (λ (b : Bool). if b then entry p s ∷ entries_for test entry parts ss else entries_for test entry parts ss) off

pub entries_skip : {A : Type 0} (test : Stood → Bool) (entry : PartitionSection → Stood → A) (parts : List PartitionSection) (ss : List Stood) (k : ℕ) (s : Stood) (es : List A) → k < length ss → EntriesBy test entry parts ss k es → test (get_or ss k s) ≡ false → EntriesBy test entry parts ss (k + 1) es
entries_skip {A} test entry parts ss k s es below before off =
    let on : drop 1 (drop k parts) ≡ drop (k + 1) parts = drop-drop 1 k parts ∙ ap (λ (n : ℕ). drop n parts) (omega arith) in
    before
    ∙ ap (λ (l : List Stood). es ++ entries_for test entry (drop k parts) l) (drop-cons ss k s below)
    ∙ ap (λ (l : List A). es ++ l) (skip_one test entry (drop k parts) (get_or ss k s) (drop (suc k) ss) off)
    ∙ ap (λ (l : List PartitionSection). es ++ entries_for test entry l (drop (suc k) ss)) on
    ∙ ap (λ (n : ℕ). es ++ entries_for test entry (drop (k + 1) parts) (drop n ss)) (next k)

pub entries_take : {A : Type 0} (test : Stood → Bool) (entry : PartitionSection → Stood → A) (parts : List PartitionSection) (ss : List Stood) (k : ℕ) (p : PartitionSection) (s : Stood) (es new : List A) (e : A) → k < length parts → k < length ss → EntriesBy test entry parts ss k es → test (get_or ss k s) ≡ true → new ≡ es ++ e ∷ [] → e ≡ entry (get_or parts k p) (get_or ss k s) → EntriesBy test entry parts ss (k + 1) new
entries_take {A} test entry parts ss k p s es new e below below' before on is one =
    let rest : List A = entries_for test entry (drop (k + 1) parts) (drop (k + 1) ss) in
    let own : A = entry (get_or parts k p) (get_or ss k s) in
    before
    ∙ ap (λ (l : List A). es ++ l) (entries_left test entry parts ss k p s below below')
    ∙ ap (λ (b : Bool). es ++ (if b then own ∷ rest else rest)) on
    ∙ sym (append_assoc es (own ∷ []) rest)
    ∙ ap (λ (l : List A). l ++ rest) (sym (is ∙ ap (λ (x : A). es ++ x ∷ []) one))

pub entries_all : {A : Type 0} (test : Stood → Bool) (entry : PartitionSection → Stood → A) (parts : List PartitionSection) (ss : List Stood) (k : ℕ) (es : List A) → length ss ≡ length parts → length ss ≤ k → EntriesBy test entry parts ss k es → es ≡ entries_for test entry parts ss
entries_all {A} test entry parts ss k es same past before =
    sym (before ∙ ap (λ (l : List PartitionSection). es ++ entries_for test entry l (drop k ss)) (drop_all k parts (omega arith)) ∙ append-nil es)
