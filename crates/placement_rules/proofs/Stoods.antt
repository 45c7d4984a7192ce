-- Partitions in their places: how many there are, those in front and those behind, and the next one.
use Rattle.std.specs.Prelude.{◌≡◌, ℕ, ◌+◌, ◌<◌, List, [], ◌∷◌, ◌++◌, drop, length, take}
use Rattle.std.proofs.Common.{refl, ap, sym, ◌∙◌, append_assoc, arith, get_or, length-take}
use Rattle.std.proofs.lemmas.List.{append-nil, at_drop_more, take_more}
use Rattle.conf_values.specs.declared.values.Hole.{Hole}
use Rattle.placement_rules.specs.Places.{Stood, stood_from, stood_of}
use Rattle.placement_rules.specs.declared.terms.Frame.{Frame}
use Rattle.placement_rules.specs.declared.terms.Terms.{Terms}

pub stood_length : (frame : Frame) (before : List Stood) (ts : List Terms) (hs : List (List Hole)) → length hs ≡ length ts → length (stood_from frame before ts hs) ≡ length ts
stood_length frame before [] hs same = refl
stood_length frame before (t ∷ ts) [] same = absurd (omega arith)
stood_length frame before (t ∷ ts) (h ∷ hs) same =
    let more : length (stood_from frame (before ++ stood_of frame before t h ∷ []) ts hs) ≡ length ts =
    stood_length frame (before ++ stood_of frame before t h ∷ []) ts hs (omega arith) in
    omega arith

-- those in front, and the others behind them
pub stood-append : (frame : Frame) (before : List Stood) (ts us : List Terms) (hs is : List (List Hole)) → length hs ≡ length ts → stood_from frame before (ts ++ us) (hs ++ is) ≡ stood_from frame before ts hs ++ stood_from frame (before ++ stood_from frame before ts hs) us is
stood-append frame before [] us [] is same = ap (λ (ss : List Stood). stood_from frame ss us is) (sym (append-nil before))
stood-append frame before [] us (h ∷ hs) is same = absurd (omega arith)
stood-append frame before (t ∷ ts) us [] is same = absurd (omega arith)
stood-append frame before (t ∷ ts) us (h ∷ hs) is same =
    let s : Stood = stood_of frame before t h in
    let rest : List Stood = stood_from frame (before ++ s ∷ []) ts hs in
    ap (λ (ss : List Stood). s ∷ ss) (stood-append frame (before ++ s ∷ []) ts us hs is (omega arith))
    ∙ ap (λ (ss : List Stood). s ∷ rest ++ stood_from frame ss us is) (append_assoc before (s ∷ []) rest)

-- one more behind all
pub stood_from_snoc : (frame : Frame) (before : List Stood) (ts : List Terms) (hs : List (List Hole)) (t : Terms) (h : List Hole) → length hs ≡ length ts → stood_from frame before (ts ++ t ∷ []) (hs ++ h ∷ []) ≡ stood_from frame before ts hs ++ stood_of frame (before ++ stood_from frame before ts hs) t h ∷ []
stood_from_snoc frame before ts hs t h same = stood-append frame before ts (t ∷ []) hs (h ∷ []) same

-- the first k, and the first k + 1
pub stood_next : (frame : Frame) (ts : List Terms) (hs : List (List Hole)) (k : ℕ) (t : Terms) (h : List Hole) → k < length ts → k < length hs → stood_from frame [] (take (k + 1) ts) (take (k + 1) hs) ≡ stood_from frame [] (take k ts) (take k hs) ++ stood_of frame (stood_from frame [] (take k ts) (take k hs)) (get_or ts k t) (get_or hs k h) ∷ []
stood_next frame ts hs k t h first second =
    ap (λ (us : List Terms). stood_from frame [] us (take (k + 1) hs)) (take_more ts k t first)
    ∙ ap (λ (is : List (List Hole)). stood_from frame [] (take k ts ++ get_or ts k t ∷ []) is) (take_more hs k h second)
    ∙ stood_from_snoc frame [] (take k ts) (take k hs) (get_or ts k t) (get_or hs k h) (omega (arith, length-take k hs, length-take k ts))

-- those from number k on, behind any others
pub stood_left : (frame : Frame) (before : List Stood) (ts : List Terms) (hs : List (List Hole)) (k : ℕ) (t : Terms) (h : List Hole) → k < length ts → k < length hs → stood_from frame before (drop k ts) (drop k hs) ≡ stood_of frame before (get_or ts k t) (get_or hs k h) ∷ stood_from frame (before ++ stood_of frame before (get_or ts k t) (get_or hs k h) ∷ []) (drop (k + 1) ts) (drop (k + 1) hs)
stood_left frame before ts hs k t h first second =
    at_drop_more (λ (us : List Terms). stood_from frame before us (drop k hs)) ts k t first
    ∙ at_drop_more (λ (is : List (List Hole)). stood_from frame before (get_or ts k t ∷ drop (k + 1) ts) is) hs k h second
