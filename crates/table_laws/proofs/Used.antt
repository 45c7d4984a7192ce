-- The entries in use are the same where the slots are.
use Rattle.std.specs.Prelude.{◌≡◌, ℕ, zero, suc, ◌<◌, List, [], ◌∷◌, ◌++◌, map, Bool, true, false, if◌then◌else◌}
use Rattle.std.proofs.Common.{refl, ap, sym, ◌∙◌, arith}
use Rattle.std.proofs.lemmas.List.{map-append}
use Rattle.gpt_table.specs.declared.entry.GptEntry.{GptEntry}
use Rattle.gpt_reading.specs.Used.{is_used, used_below}

abbrev AreSame : (ℕ → GptEntry) → (ℕ → GptEntry) → ℕ → Type 0
AreSame slot other n = (k : ℕ) → k < n → slot k ≡ other k

-- the number of a slot where it is in use
abbrev if_used : GptEntry → ℕ → List ℕ
if_used e k = if is_used e then k ∷ [] else []

pub used_same : (slot other : ℕ → GptEntry) (n : ℕ) → AreSame slot other n → used_below slot n ≡ used_below other n
unfolding used_below
used_same slot other zero same = refl
used_same slot other (suc k) same =
    let rest = used_same slot other k (λ j h. same j (omega (arith, h))) in
    let last = same k (omega arith) in
    ap (λ (xs : List ℕ). xs ++ if_used (slot k) k) rest ∙ ap (λ (e : GptEntry). used_below other k ++ if_used e k) last

one_mapped : (slot other : ℕ → GptEntry) (used : Bool) (k : ℕ) → slot k ≡ other k →
    map slot (if used then k ∷ [] else []) ≡ map other (if used then k ∷ [] else [])
one_mapped slot other true k same = ap (λ (e : GptEntry). e ∷ []) same
one_mapped slot other false k same = refl

pub entries_same : (slot other : ℕ → GptEntry) (n : ℕ) → AreSame slot other n →
    map slot (used_below slot n) ≡ map other (used_below other n)
unfolding used_below
entries_same slot other zero same = refl
entries_same slot other (suc k) same =
    let rest = entries_same slot other k (λ j h. same j (omega (arith, h))) in
    let last = same k (omega arith) in
    map-append slot (used_below slot k) (if_used (slot k) k)
    ∙ ap (λ (es : List GptEntry). es ++ map slot (if_used (slot k) k)) rest
    ∙ ap (λ (es : List GptEntry). map other (used_below other k) ++ es)
    (one_mapped slot other (is_used (slot k)) k last)
    ∙ ap (λ (e : GptEntry). map other (used_below other k) ++ map other (if_used e k)) last
    ∙ sym (map-append other (used_below other k) (if_used (other k) k))
