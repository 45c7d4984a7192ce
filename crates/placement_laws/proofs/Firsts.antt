-- The first refusal of a partition.
use Rattle.std.specs.Prelude.{◌≡◌, ℕ, zero, suc, ◌+◌, ◌<◌, List, [], ◌∷◌, ◌++◌, Option, Some, None, length, option_map, take}
use Rattle.std.specs.Option.{option_or}
use Rattle.std.proofs.Common.{refl, ap, sym, subst, ◌∙◌, append_assoc, arith, get_or}
use Rattle.std.proofs.lemmas.List.{append-nil, length_push}
use Rattle.std.proofs.lemmas.Option.{some_pair_parts}
use Rattle.placement_rules.specs.Faults.{first_fault, part_fault}
use Rattle.placement_rules.specs.Places.{Stood}
use Rattle.placement_rules.specs.declared.faults.PartFault.{PartFault}
use Rattle.placement_rules.specs.declared.terms.Frame.{Frame}
use Rattle.placement_laws.specs.Firsts.{FirstsExactly, IsFirstFault}

-- the fault of number k of these, behind those in front of them all
abbrev fault_behind : Frame → List Stood → List Stood → ℕ → Stood → Option PartFault
fault_behind frame front ss k d = part_fault frame (front ++ take k ss) (get_or ss k d)

record First (frame : Frame) (front ss : List Stood) (k : ℕ) (fault : PartFault) : Type 0 where
  there : k < length ss
  has : (d : Stood) → fault_behind frame front ss k d ≡ Some fault
  first : (j : ℕ) (d : Stood) → j < k → fault_behind frame front ss j d ≡ None

abbrev NoFault : Frame → List Stood → List Stood → Type 0
NoFault frame front ss = (k : ℕ) (d : Stood) → k < length ss → fault_behind frame front ss k d ≡ None

-- ---- one step

at_front : (frame : Frame) (front ss : List Stood) (s d : Stood) → fault_behind frame front (s ∷ ss) zero d ≡ part_fault frame front s
at_front frame front ss s d = ap (λ b. part_fault frame b s) (append-nil front)

at_next : (frame : Frame) (front ss : List Stood) (s d : Stood) (k : ℕ) → fault_behind frame front (s ∷ ss) (suc k) d ≡ fault_behind frame (front ++ s ∷ []) ss k d
at_next frame front ss s d k = ap (λ b. part_fault frame b (get_or ss k d)) (sym (append_assoc front (s ∷ []) (take k ss)))

here_first : (frame : Frame) (front ss : List Stood) (s : Stood) (fault : PartFault) → part_fault frame front s ≡ Some fault → First frame front (s ∷ ss) zero fault
here_first frame front ss s fault h = record { there = omega arith; has = λ d. at_front frame front ss s d ∙ h; first = λ j d below. absurd (omega arith) }

later_none : (frame : Frame) (front ss : List Stood) (s : Stood) (n : ℕ) → part_fault frame front s ≡ None → ((j : ℕ) (d : Stood) → j < n → fault_behind frame (front ++ s ∷ []) ss j d ≡ None) → (j : ℕ) (d : Stood) → j < suc n → fault_behind frame front (s ∷ ss) j d ≡ None
later_none frame front ss s n none rest zero d below = at_front frame front ss s d ∙ none
later_none frame front ss s n none rest (suc j) d below = at_next frame front ss s d j ∙ rest j d (omega arith)

next_first : (frame : Frame) (front ss : List Stood) (s : Stood) (k : ℕ) (fault : PartFault) → part_fault frame front s ≡ None → First frame (front ++ s ∷ []) ss k fault → First frame front (s ∷ ss) (suc k) fault
next_first frame front ss s k fault none rest = record {
  there = omega (arith, rest.there);
  has = λ d. at_next frame front ss s d k ∙ rest.has d;
  first = later_none frame front ss s k none rest.first;
}

-- ---- what is found is the first

-- a number behind those in front, with its fault
record Found (frame : Frame) (front ss : List Stood) (n : ℕ) (fault : PartFault) : Type 0 where
  k : ℕ
  is : n ≡ length front + k
  first : First frame front ss k fault

found_case : (frame : Frame) (front ss : List Stood) (s : Stood) (n : ℕ) (fault : PartFault) (o : Option PartFault) → part_fault frame front s ≡ o → option_or (option_map (λ f. (length front, f)) o) (first_fault frame (front ++ s ∷ []) ss) ≡ Some (n, fault) → (first_fault frame (front ++ s ∷ []) ss ≡ Some (n, fault) → Found frame (front ++ s ∷ []) ss n fault) → Found frame front (s ∷ ss) n fault
found_case frame front ss s n fault (Some g) own h rest =
    let parts : (length front ≡ n) × (g ≡ fault) = some_pair_parts (length front) n g fault h in
    record { k = zero; is = omega (arith, parts.0); first = here_first frame front ss s fault (own ∙ ap (λ x. Some x) parts.1) }
found_case frame front ss s n fault None own h rest =
    let found = rest h in
    let long : length (front ++ s ∷ []) ≡ length front + 1 = length_push front s in
    record { k = suc found.k; is = omega (arith, found.is); first = next_first frame front ss s found.k fault own found.first }

found : (frame : Frame) (front ss : List Stood) (n : ℕ) (fault : PartFault) → first_fault frame front ss ≡ Some (n, fault) → Found frame front ss n fault
found frame front [] n fault h = cc
found frame front (s ∷ ss) n fault h = found_case frame front ss s n fault (part_fault frame front s) refl h (found frame (front ++ s ∷ []) ss n fault)

-- ---- and the first is found

first_found : (frame : Frame) (front ss : List Stood) (k : ℕ) (fault : PartFault) → First frame front ss k fault → first_fault frame front ss ≡ Some (length front + k, fault)
first_found frame front [] k fault is = absurd (omega (arith, is.there))
first_found frame front (s ∷ ss) zero fault is =
    let own : part_fault frame front s ≡ Some fault = sym (at_front frame front ss s s) ∙ is.has s in
    let number : length front ≡ length front + 0 = omega arith in
    ap (λ o. option_or (option_map (λ f. (length front, f)) o) (first_fault frame (front ++ s ∷ []) ss)) own ∙ numbered fault (length front) (length front + 0) number
  where
    numbered : (f : PartFault) (m n : ℕ) → m ≡ n → ◌≡◌ {A = Option (ℕ × PartFault)} (Some (m, f)) (Some (n, f))
    numbered f m n same = cc
first_found frame front (s ∷ ss) (suc k) fault is =
    let own : part_fault frame front s ≡ None = sym (at_front frame front ss s s) ∙ is.first zero s (omega arith) in
    let rest : First frame (front ++ s ∷ []) ss k fault = record {
      there = omega (arith, is.there);
      has = λ d. sym (at_next frame front ss s d k) ∙ is.has d;
      first = λ j d below. sym (at_next frame front ss s d j) ∙ is.first (suc j) d (omega arith);
    } in
    let number : length (front ++ s ∷ []) + k ≡ length front + suc k = omega (arith, length_push front s) in
    ap (λ o. option_or (option_map (λ f. (length front, f)) o) (first_fault frame (front ++ s ∷ []) ss)) own
    ∙ first_found frame (front ++ s ∷ []) ss k fault rest
    ∙ numbered fault (length (front ++ s ∷ []) + k) (length front + suc k) number
  where
    numbered : (f : PartFault) (m n : ℕ) → m ≡ n → ◌≡◌ {A = Option (ℕ × PartFault)} (Some (m, f)) (Some (n, f))
    numbered f m n same = cc

-- ---- none

none_case : (frame : Frame) (front ss : List Stood) (s : Stood) (o : Option PartFault) → part_fault frame front s ≡ o → option_or (option_map (λ f. (length front, f)) o) (first_fault frame (front ++ s ∷ []) ss) ≡ None → (first_fault frame (front ++ s ∷ []) ss ≡ None → NoFault frame (front ++ s ∷ []) ss) → NoFault frame front (s ∷ ss)
none_case frame front ss s (Some g) own h rest = cc
none_case frame front ss s None own h rest = λ k d below.
    later_none frame front ss s (length ss) own (rest h) k d below

none_found : (frame : Frame) (front ss : List Stood) → first_fault frame front ss ≡ None → NoFault frame front ss
none_found frame front [] h = λ k d below. absurd (omega arith)
none_found frame front (s ∷ ss) h = none_case frame front ss s (part_fault frame front s) refl h (none_found frame (front ++ s ∷ []) ss)

found_none : (frame : Frame) (front ss : List Stood) → NoFault frame front ss → first_fault frame front ss ≡ None
found_none frame front [] h = refl
found_none frame front (s ∷ ss) h =
    let own : part_fault frame front s ≡ None = sym (at_front frame front ss s s) ∙ h zero s (omega arith) in
    ap (λ o. option_or (option_map (λ f. (length front, f)) o) (first_fault frame (front ++ s ∷ []) ss)) own
    ∙ found_none frame (front ++ s ∷ []) ss (λ k d below. sym (at_next frame front ss s d k) ∙ h (suc k) d (omega arith))

-- ---- both

pub firsts_exactly : FirstsExactly
firsts_exactly = record {
  some = λ frame ss k fault. (
    λ h. (let it = found frame [] ss k fault h in
        let same : k ≡ it.k = omega (arith, it.is) in
        subst (λ (n : ℕ). IsFirstFault frame ss n fault) (sym same) (record { there = it.first.there; has = it.first.has; first = it.first.first })),
    λ is. first_found frame [] ss k fault (record { there = is.there; has = is.has; first = is.first }) ∙ counted k fault,
  );
  none = λ frame ss. (none_found frame [] ss, found_none frame [] ss);
}
  where
    counted : (k : ℕ) (f : PartFault) → ◌≡◌ {A = Option (ℕ × PartFault)} (Some (0 + k, f)) (Some (k, f))
    counted k f = let same : 0 + k ≡ k = omega arith in cc
