-- The units of a name: there are 36, and each is a byte of the text or zero.
use Rattle.std.specs.Prelude.{◌≡◌, ℕ, suc, ◌+◌, ◌-◌, ◌^◌, ◌<◌, ◌≤◌, List, ◌∷◌, [], ◌++◌, length, take, replicate, slice_index, slice_set}
use Rattle.std.proofs.Common.{◌∙◌, sym, ap, arith, append_assoc}
use Rattle.std.proofs.lemmas.Grind.{common_steps}
use Rattle.std.proofs.lemmas.List.{length-take-le, set_at}
use Rattle.gpt_table.specs.Names.{name_units}
use Rattle.gpt_table.proofs.Headers.{zeros_behind}

pub length-name_units : (text : List ℕ) → length text ≤ 36 → length (name_units text) ≡ 36
length-name_units text short = grind (arith, common_steps)

-- each unit is the text's byte, or zero behind it
pub name_units-at : (text : List ℕ) (i : ℕ) → slice_index (name_units text) i ≡ slice_index text i
name_units-at text i = zeros_behind text (36 - length text) i

-- units are of 16 bits where the bytes are
pub name_units-fit : (text : List ℕ) → ((i : ℕ) → slice_index text i < 2 ^ 16) → (i : ℕ) → slice_index (name_units text) i < 2 ^ 16
name_units-fit text fit i = rw (name_units-at text i) (fit i)

-- one more byte of those that are written
pub units_next : (text : List ℕ) (k : ℕ) (units : List ℕ) (b : ℕ) → k < length text → length text ≤ 36 → units ≡ take k text ++ replicate (36 - k) 0 → take (k + 1) text ≡ take k text ++ b ∷ [] → slice_set units k b ≡ take (k + 1) text ++ replicate (36 - (k + 1)) 0
units_next text k units b inside short before more =
    let left : 36 - k ≡ suc (36 - (k + 1)) = omega arith in
    let behind : List ℕ = replicate (36 - (k + 1)) 0 in
    let front : length (take k text) ≡ k = length-take-le k text (omega arith) in
    ap (λ (us : List ℕ). slice_set us k b) before
    ∙ ap (λ (n : ℕ). slice_set (take k text ++ replicate n 0) k b) left
    ∙ set_at (take k text) 0 behind b k front
    ∙ sym (append_assoc (take k text) (b ∷ []) behind)
    ∙ ap (λ (xs : List ℕ). xs ++ behind) (sym more)
