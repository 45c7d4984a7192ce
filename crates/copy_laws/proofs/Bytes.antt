-- Spans of bytes of two images of the target.
use Rattle.std.proofs.Common.{◌≡◌, ℕ, suc, ◌+◌, ◌-◌, ◌<◌, ◌≤◌, min, List, [], ◌∷◌, ◌++◌, length, get_or, drop, sym, ap, refl, ◌∙◌, arith, length-take}
use Rattle.std.proofs.lemmas.Grind.{same_number_lists}
use Rattle.std.proofs.lemmas.List.{get_or-drop, get_or-take, length-drop}
use Rattle.std.proofs.lemmas.Option.{slice_get-get_or}
use Rattle.std.specs.Prelude.{Some, slice_get, slice_index}
use Rattle.base_fields.specs.declared.spans.Span.{Span}
use Rattle.block_map.specs.Maps.{part_of, parts_of}
use Rattle.copy_states.specs.Jobs.{SameIn}

part_length : (u : Span) (xs : List ℕ) → length (part_of u xs) ≡ min u.len (length xs - u.at)
part_length u xs = length-take u.len (drop u.at xs) ∙ ap (λ (n : ℕ). min u.len n) (length-drop u.at xs)

pub part_byte : (u : Span) (xs : List ℕ) (k : ℕ) → k < u.len → get_or (part_of u xs) k 0 ≡ slice_index xs (u.at + k)
part_byte u xs k h = get_or-take u.len (drop u.at xs) k 0 h ∙ get_or-drop u.at xs k 0

-- a span has the same bytes on both, where each of its bytes is
pub same_in : (u : Span) (t new : List ℕ) → length new ≡ length t → ((o : ℕ) → u.at ≤ o → o < u.at + u.len → slice_index new o ≡ slice_index t o) → SameIn u t new
same_in u t new size same =
    same_number_lists (part_of u new) (part_of u t) (part_length u new ∙ ap (λ (n : ℕ). min u.len (n - u.at)) size ∙ sym (part_length u t))
    (λ k h.
    let inside : k < u.len = omega (arith, part_length u new) in
    part_byte u new k inside ∙ same (u.at + k) (omega arith) (omega arith) ∙ sym (part_byte u t k inside))

-- spans joined have the same bytes, where each has
pub same_parts : (us : List Span) (t new : List ℕ) → ((i : ℕ) (u : Span) → slice_get us i ≡ Some u → SameIn u t new) → parts_of us new ≡ parts_of us t
same_parts [] t new same = refl
same_parts (u ∷ us) t new same =
    ap (λ (l : List ℕ). l ++ parts_of us new) (same 0 u refl)
    ∙ ap (λ (l : List ℕ). part_of u t ++ l) (same_parts us t new (λ i v is. same (suc i) v is))

-- a byte of a span is the other's, where the span has the other's bytes, which are all there
pub byte_of_part : (u : Span) (s t : List ℕ) (o : ℕ) → u.at ≤ o → o < u.at + u.len → u.at + u.len ≤ length s → SameIn u s t → slice_get t o ≡ slice_get s o
byte_of_part u s t o low high there same =
    let k : ℕ = o - u.at in
    let place : u.at + k ≡ o = omega arith in
    let long : length (part_of u t) ≡ length (part_of u s) = ap (λ (l : List ℕ). length l) same in
    let in_t : o < length t = omega (arith, part_length u t, part_length u s) in
    let in_s : o < length s = omega arith in
    let byte : slice_index t o ≡ slice_index s o =
    ap (λ (n : ℕ). slice_index t n) (sym place) ∙ sym (part_byte u t k (omega arith)) ∙ ap (λ (l : List ℕ). get_or l k 0) same
    ∙ part_byte u s k (omega arith) ∙ ap (λ (n : ℕ). slice_index s n) place in
    slice_get-get_or t o 0 in_t ∙ ap (λ (n : ℕ). Some n) byte ∙ sym (slice_get-get_or s o 0 in_s)
