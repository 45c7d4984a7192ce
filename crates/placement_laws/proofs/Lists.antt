-- Partitions in their order, each by those before it.
use Rattle.std.specs.Prelude.{◌≡◌, ℕ, zero, suc, ◌<◌, ◌≤◌, All, List, [], ◌∷◌, ◌++◌, length, map, take}
use Rattle.std.proofs.Common.{refl, ap, sym, subst, ◌∙◌, append_assoc, arith, get_or}
use Rattle.std.proofs.lemmas.List.{append-nil}
use Rattle.std.proofs.lemmas.List.Elements.{All-head, All-tail}
use Rattle.conf_values.specs.declared.values.Hole.{Hole}
use Rattle.placement_rules.specs.Places.{Stood, stood_from, stood_of}
use Rattle.placement_rules.specs.declared.terms.Frame.{Frame}
use Rattle.placement_rules.specs.declared.terms.Terms.{Terms}
use Rattle.placement_laws.specs.Placed.{IsPlaced}
use Rattle.placement_laws.proofs.Spots.{placed_is, stood_placed}

-- each of these is placed by the ones in front, and by those of the list before it
abbrev pub EachPlaced : Frame → List Stood → List Stood → Type 0
EachPlaced frame front ss =
    (k : ℕ) (d : Stood) → k < length ss → IsPlaced frame (front ++ take k ss) (get_or ss k d)

-- ---- one list

pub listed : (frame : Frame) (front ss : List Stood) → All (λ s. 1 ≤ s.terms.align) ss → EachPlaced frame front ss → ss ≡ stood_from frame front (map (λ s. s.terms) ss) (map (λ s. s.holes) ss)
listed frame front [] aligns each = refl
listed frame front (s ∷ ss) aligns each =
    let here : Stood = stood_of frame front s.terms s.holes in
    let first : s ≡ stood_of frame front s.terms s.holes =
    placed_is frame front s (All-head (λ (x : Stood). 1 ≤ x.terms.align) s ss aligns) (subst (λ (b : List Stood). IsPlaced frame b s) (append-nil front) (each 0 s (omega arith))) in
    let rest : ss ≡ stood_from frame (front ++ s ∷ []) (map (λ x. x.terms) ss) (map (λ x. x.holes) ss) =
    listed frame (front ++ s ∷ []) ss (All-tail (λ (x : Stood). 1 ≤ x.terms.align) s ss aligns) (λ k d below.
    subst (λ (b : List Stood). IsPlaced frame b (get_or ss k d)) (sym (append_assoc front (s ∷ []) (take k ss))) (each (suc k) d (omega arith))) in
    ap (λ x. x ∷ ss) first
    ∙ ap (λ xs. here ∷ xs) rest
    ∙ ap (λ x. here ∷ stood_from frame (front ++ x ∷ []) (map (λ y. y.terms) ss) (map (λ y. y.holes) ss)) first

-- ---- it is one

pub record Listed (frame : Frame) (front : List Stood) (ts : List Terms) (hs : List (List Hole)) (ss : List Stood) : Type 0 where
  pub terms : map (λ s. s.terms) ss ≡ ts
  pub holes : map (λ s. s.holes) ss ≡ hs
  pub each : EachPlaced frame front ss

each_cons : (frame : Frame) (front : List Stood) (s : Stood) (ss : List Stood) → IsPlaced frame front s → EachPlaced frame (front ++ s ∷ []) ss → EachPlaced frame front (s ∷ ss)
each_cons frame front s ss first rest zero d below = subst (λ (b : List Stood). IsPlaced frame b s) (sym (append-nil front)) first
each_cons frame front s ss first rest (suc k) d below =
    subst (λ (b : List Stood). IsPlaced frame b (get_or ss k d)) (append_assoc front (s ∷ []) (take k ss)) (rest k d (omega arith))

pub stood_listed : (frame : Frame) (front : List Stood) (ts : List Terms) (hs : List (List Hole)) → length hs ≡ length ts → All (λ t. 1 ≤ t.align) ts → Listed frame front ts hs (stood_from frame front ts hs)
stood_listed frame front [] [] count aligns = record { terms = refl; holes = refl; each = λ k d below. absurd (omega arith) }
stood_listed frame front [] (h ∷ hs) count aligns = absurd (omega arith)
stood_listed frame front (t ∷ ts) [] count aligns = absurd (omega arith)
stood_listed frame front (t ∷ ts) (h ∷ hs) count aligns =
    let s : Stood = stood_of frame front t h in
    let rest = stood_listed frame (front ++ stood_of frame front t h ∷ []) ts hs (omega arith) (All-tail (λ (x : Terms). 1 ≤ x.align) t ts aligns) in
    record {
      terms = ap (λ xs. t ∷ xs) rest.terms;
      holes = ap (λ xs. h ∷ xs) rest.holes;
      each = each_cons frame front s (stood_from frame (front ++ stood_of frame front t h ∷ []) ts hs) (stood_placed frame front t h (All-head (λ (x : Terms). 1 ≤ x.align) t ts aligns)) rest.each;
    }
