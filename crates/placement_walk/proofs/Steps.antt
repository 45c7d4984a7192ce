-- One partition more that stands, and all of them.
use Rattle.std.proofs.Common.{◌≡◌, ℕ, suc, ◌+◌, ◌<◌, ◌≤◌, List, [], ◌∷◌, ◌++◌, length, get_or, drop, refl, sym, ap, ◌∙◌, arith, append_assoc, drop-cons, length-append, Option, Some, None, Ok, Err}
use Rattle.std.proofs.lemmas.List.{append-nil, drop_all}
use Rattle.std.proofs.lemmas.List.Elements.{All-append}
use Rattle.std.specs.Prelude.{All, IfSome, option_map}
use Rattle.conf_values.specs.declared.values.Hole.{Hole}
use Rattle.placement_claims.specs.Held.{IsHeld, in_place}
use Rattle.placement_rules.specs.Bounds.{IsStanding}
use Rattle.placement_rules.specs.Faults.{◌or◌, first_fault, overlap, own_fault, part_fault, stand_said, unless}
use Rattle.placement_rules.specs.Places.{Stood, stood_from, stood_of}
use Rattle.placement_rules.specs.declared.faults.PartFault.{PartFault}
use Rattle.placement_rules.specs.declared.terms.Frame.{Frame}
use Rattle.placement_rules.specs.declared.terms.Place.{Place}
use Rattle.placement_rules.specs.declared.terms.Terms.{Terms}
use Rattle.placement_walk.specs.Walked.{AreWalked, IsBehind, IsHeldAt, Stands}

-- ---- one partition

head_below : (head : Option ℕ) (align at : ℕ) → IfSome head (λ h. h + align ≡ at) → IfSome head (λ h. h ≤ at)
head_below None align at h = tt
head_below (Some x) align at h = omega (arith, h)

pub held_from : (frame : Frame) (t : Terms) (holes : List Hole) (p : Place) → IsStanding frame t p → IsHeld (in_place t holes p)
held_from frame t holes p h = record {
  end = h.end;
  head = head_below p.head t.align p.at h.head;
}

unless_ok : (fault : Option PartFault) (p q : Place) → Ok q ≡ unless fault p → (fault ≡ None) × (p ≡ q)
unless_ok None p q h = (refl, cc)
unless_ok (Some f) p q h = cc

pub unless_err : (fault : Option PartFault) (p : Place) (f : PartFault) → Err f ≡ unless fault p → fault ≡ Some f
unless_err None p f h = cc
unless_err (Some g) p f h = cc

pub held_at : (frame : Frame) (s claim : Stood) (p : Place) → Ok p ≡ stand_said frame s → claim ≡ in_place s.terms s.holes p → IsStanding frame s.terms p → IsHeldAt frame s claim
held_at frame s claim p said is stands =
    let both : (own_fault frame s ≡ None) × (s.place ≡ p) = unless_ok (own_fault frame s) s.place p said in
    record {
      same = is ∙ ap (in_place s.terms s.holes) (sym both.1);
      fine = both.0;
      stands = rw both.1 stands;
    }

-- ---- behind others

no_part_fault : (frame : Frame) (before : List Stood) (s : Stood) → own_fault frame s ≡ None → overlap frame before s ≡ None → part_fault frame before s ≡ None
no_part_fault frame before s own none = ap (λ (f : Option PartFault). f or overlap frame before s) own ∙ none

pub behind : (frame : Frame) (before : List Stood) (s claim : Stood) (after : List Stood) → IsHeldAt frame s claim → overlap frame before claim ≡ None → after ≡ before ++ claim ∷ [] → IsBehind frame before s after
behind frame before s claim after held none is = record {
  same = is ∙ ap (λ (c : Stood). before ++ c ∷ []) held.same;
  fine = no_part_fault frame before s held.fine (ap (overlap frame before) (sym held.same) ∙ none);
  stands = held.stands;
}

pub own_first : (frame : Frame) (before : List Stood) (s : Stood) (f : PartFault) → own_fault frame s ≡ Some f → part_fault frame before s ≡ Some f
own_first frame before s f own = ap (λ (g : Option PartFault). g or overlap frame before s) own

pub overlap_then : (frame : Frame) (before : List Stood) (s claim : Stood) (f : PartFault) → IsHeldAt frame s claim → overlap frame before claim ≡ Some f → part_fault frame before s ≡ Some f
overlap_then frame before s claim f held said =
    ap (λ (g : Option PartFault). g or overlap frame before s) held.fine ∙ ap (overlap frame before) (sym held.same) ∙ said

-- ---- all of them

-- the first k stand, and what is left is to be put behind them
pub record IsUpTo (frame : Frame) (ts : List Terms) (hs : List (List Hole)) (k : ℕ) (before : List Stood) : Type 0 where
  pub count : length before ≡ k
  pub same : stood_from frame [] ts hs ≡ before ++ stood_from frame before (drop k ts) (drop k hs)
  pub fine : first_fault frame [] (stood_from frame [] ts hs) ≡ first_fault frame before (stood_from frame before (drop k ts) (drop k hs))
  pub stand : All (Stands frame) before

next : (k : ℕ) → suc k ≡ k + 1
next k = omega arith

left : (frame : Frame) (ts : List Terms) (hs : List (List Hole)) (k : ℕ) (t : Terms) (h : List Hole) (before : List Stood) → k < length ts → k < length hs → stood_from frame before (drop k ts) (drop k hs) ≡ stood_of frame before (get_or ts k t) (get_or hs k h) ∷ stood_from frame (before ++ stood_of frame before (get_or ts k t) (get_or hs k h) ∷ []) (drop (k + 1) ts) (drop (k + 1) hs)
left frame ts hs k t h before below below' =
    let s : Stood = stood_of frame before (get_or ts k t) (get_or hs k h) in
    ap (λ (l : List Terms). stood_from frame before l (drop k hs)) (drop-cons ts k t below)
    ∙ ap (λ (l : List (List Hole)). stood_from frame before (get_or ts k t ∷ drop (suc k) ts) l) (drop-cons hs k h below')
    ∙ ap (λ (n : ℕ). s ∷ stood_from frame (before ++ s ∷ []) (drop n ts) (drop n hs)) (next k)

one_stands : (frame : Frame) (s : Stood) → Stands frame s → All (Stands frame) (s ∷ [])
one_stands frame s h k d below = let first : k ≡ 0 = omega arith in rw first h

pub none_yet : (frame : Frame) (ts : List Terms) (hs : List (List Hole)) → IsUpTo frame ts hs 0 []
none_yet frame ts hs = record {
  count = refl;
  same = refl;
  fine = refl;
  stand = λ k d below. absurd (omega arith);
}

one_more : (frame : Frame) (ts : List Terms) (hs : List (List Hole)) (k : ℕ) (t : Terms) (h : List Hole) (before : List Stood) → k < length ts → k < length hs → IsUpTo frame ts hs k before → part_fault frame before (stood_of frame before (get_or ts k t) (get_or hs k h)) ≡ None → Stands frame (stood_of frame before (get_or ts k t) (get_or hs k h)) → IsUpTo frame ts hs (k + 1) (before ++ stood_of frame before (get_or ts k t) (get_or hs k h) ∷ [])
one_more frame ts hs k t h before below below' upto fine stands =
    let s : Stood = stood_of frame before (get_or ts k t) (get_or hs k h) in
    let rest : List Stood = stood_from frame (before ++ s ∷ []) (drop (k + 1) ts) (drop (k + 1) hs) in
    let more : stood_from frame before (drop k ts) (drop k hs) ≡ s ∷ rest = left frame ts hs k t h before below below' in
    record {
      count = omega (arith, length-append before (s ∷ []), upto.count);
      same = upto.same ∙ ap (λ (l : List Stood). before ++ l) more ∙ sym (append_assoc before (s ∷ []) rest);
      fine = upto.fine ∙ ap (first_fault frame before) more
          ∙ ap (λ (f : Option PartFault). option_map (λ g. (length before, g)) f or first_fault frame (before ++ s ∷ []) rest) fine;
      stand = All-append (Stands frame) before (s ∷ []) upto.stand (one_stands frame s stands);
    }

pub up_to_more : (frame : Frame) (ts : List Terms) (hs : List (List Hole)) (k : ℕ) (t : Terms) (h : List Hole) (before after : List Stood) → k < length ts → k < length hs → IsUpTo frame ts hs k before → IsBehind frame before (stood_of frame before (get_or ts k t) (get_or hs k h)) after → IsUpTo frame ts hs (k + 1) after
up_to_more frame ts hs k t h before after below below' upto one =
    rw one.same (one_more frame ts hs k t h before below below' upto one.fine one.stands)

pub fault_here : (frame : Frame) (ts : List Terms) (hs : List (List Hole)) (k : ℕ) (t : Terms) (h : List Hole) (before : List Stood) (f : PartFault) → k < length ts → k < length hs → IsUpTo frame ts hs k before → part_fault frame before (stood_of frame before (get_or ts k t) (get_or hs k h)) ≡ Some f → first_fault frame [] (stood_from frame [] ts hs) ≡ Some (k, f)
fault_here frame ts hs k t h before f below below' upto said =
    let s : Stood = stood_of frame before (get_or ts k t) (get_or hs k h) in
    let rest : List Stood = stood_from frame (before ++ s ∷ []) (drop (k + 1) ts) (drop (k + 1) hs) in
    upto.fine ∙ ap (first_fault frame before) (left frame ts hs k t h before below below')
    ∙ ap (λ (g : Option PartFault). option_map (λ x. (length before, x)) g or first_fault frame (before ++ s ∷ []) rest) said
    ∙ ap (λ (n : ℕ). Some (n, f)) upto.count

pub all_stand : (frame : Frame) (ts : List Terms) (hs : List (List Hole)) (k : ℕ) (ss : List Stood) → length ts ≤ k → IsUpTo frame ts hs k ss → AreWalked frame (stood_from frame [] ts hs) ss
all_stand frame ts hs k ss past upto =
    let none : stood_from frame ss (drop k ts) (drop k hs) ≡ [] = ap (λ (l : List Terms). stood_from frame ss l (drop k hs)) (drop_all k ts past) in
    record {
      same = sym (upto.same ∙ ap (λ (l : List Stood). ss ++ l) none ∙ append-nil ss);
      fine = upto.fine ∙ ap (first_fault frame ss) none;
      stand = upto.stand;
    }
