-- Bytes and units of a list, read as an image.
use Rattle.std.specs.Prelude.{◌≡◌, ℕ, zero, suc, ◌+◌, ◌-◌, ◌*◌, ◌<◌, ◌≤◌, List, [], ◌∷◌, ◌++◌, length, map, take, drop, get_or, slice_index, true, false}
use Rattle.std.proofs.Common.{refl, ap, sym, ◌∙◌, add-one, arith}
use Rattle.std.proofs.Math.Seq.{drop-cons}
use Rattle.std.proofs.lemmas.List.{get_or-drop, get_or-take}
use Rattle.byteorder.specs.Endian.{little_number}
use Rattle.base_fields.proofs.Images.{number_listed}
use Rattle.base_fields.specs.Fields.{number_at}
use Rattle.base_fields.specs.Numbers.{guid_order}
use Rattle.gpt_table.specs.Reading.{guid_at, units_at}
use Rattle.gpt_table.specs.Span.{bytes_at}

-- so many bytes of a list
pub bytes_here : (xs : List ℕ) (o n : ℕ) → o + n ≤ length xs → take n (drop o xs) ≡ bytes_at (λ k. slice_index xs k) o n
unfolding bytes_at
bytes_here xs o zero within = refl
bytes_here xs o (suc n) within =
    let inside : o < length xs = omega arith in
    let rest : take n (drop (o + 1) xs) ≡ bytes_at (λ k. slice_index xs k) (o + 1) n = bytes_here xs (o + 1) n (omega arith) in
    let first : drop o xs ≡ slice_index xs o ∷ drop (o + 1) xs = rw add-one (drop-cons xs o 0 inside) in
    rw first (ap (λ (ys : List ℕ). slice_index xs o ∷ ys) rest)

pub guid_here : (xs : List ℕ) (o : ℕ) → o + 16 ≤ length xs → guid_order (take (o + 16 - o) (drop o xs)) ≡ guid_at (λ k. slice_index xs k) o
guid_here xs o within =
    let n : o + 16 - o ≡ 16 = omega arith in
    rw n (ap guid_order (bytes_here xs o 16 within))

-- the units of a name, one by one
units_listed : (image : ℕ → ℕ) (us : List ℕ) (o n : ℕ) → length us ≡ n → ((k : ℕ) → k < n → slice_index us k ≡ number_at image (o + 2 * k) 2) → us ≡ units_at image o n
unfolding units_at
units_listed image [] o zero long same = refl
units_listed image [] o (suc n) long same = absurd (cc)
units_listed image (u ∷ us) o zero long same = absurd (cc)
units_listed image (u ∷ us) o (suc n) long same =
    let first : u ≡ number_at image o 2 = same 0 (omega arith) ∙ ap (λ (p : ℕ). number_at image p 2) (omega arith) in
    let rest : us ≡ units_at image (o + 2) n =
    units_listed image us (o + 2) n (omega arith) (λ k h. same (suc k) (omega arith) ∙ ap (λ (p : ℕ). number_at image p 2) (omega arith)) in
    ap (λ (x : ℕ). x ∷ us) first ∙ ap (λ (ys : List ℕ). number_at image o 2 ∷ ys) rest

-- a number within a part of a list
number_in_part : (xs : List ℕ) (o n k : ℕ) → 2 * k + 2 ≤ n → little_number 2 (drop (2 * k) (take n (drop o xs))) ≡ number_at (λ j. slice_index xs j) (o + 2 * k) 2
number_in_part xs o n k within =
    sym (number_listed (λ j. slice_index xs j) (o + 2 * k) (2 * k) 2 (take n (drop o xs))
    (λ j h. let there : o + 2 * k + j ≡ o + (2 * k + j) = omega arith in
    ap (λ (p : ℕ). slice_index xs p) there ∙ sym (get_or-take n (drop o xs) (2 * k + j) 0 (omega arith) ∙ get_or-drop o xs (2 * k + j) 0)))

pub units_here : (xs us : List ℕ) (o : ℕ) → length us ≡ 36 → ((k : ℕ) → k < length us → slice_index us k ≡ little_number 2 (drop (2 * k) (take (o + 72 - o) (drop o xs)))) → us ≡ units_at (λ k. slice_index xs k) o 36
units_here xs us o long same =
    let n : o + 72 - o ≡ 72 = omega arith in
    units_listed (λ j. slice_index xs j) us o 36 long
    (λ k h. same k (omega arith) ∙ number_in_part xs o (o + 72 - o) k (omega arith))
