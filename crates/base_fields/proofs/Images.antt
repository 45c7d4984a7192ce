-- Which bytes an image has from an offset on, and the numbers that they read as.
use Rattle.std.specs.Prelude.{◌≡◌, ℕ, zero, suc, ◌+◌, ◌^◌, ◌<◌, ◌≤◌, List, [], ◌++◌, length, drop, get_or, slice_index}
use Rattle.std.proofs.Common.{refl, ◌∙◌, sym, ap, arith, append-nil}
use Rattle.std.proofs.lemmas.Grind.{common_steps}
use Rattle.std.proofs.lemmas.List.{get_or_append_left, get_or-append-add, get_or-drop, length-append}
use Rattle.byteorder.specs.Endian.{little_bytes, little_from, little_number}
use Rattle.byteorder.specs.Numbers.{little_number-reads_back, length-bytes_low_first}
use Rattle.base_fields.specs.Fields.{number_at}

-- an image that has these bytes from an offset on
abbrev pub Has : (ℕ → ℕ) → ℕ → List ℕ → Type 0
Has image o bytes = (i : ℕ) → i < length bytes → image (o + i) ≡ get_or bytes i 0

-- the front and the rest of bytes that an image has
pub front_of : (image : ℕ → ℕ) (o : ℕ) (xs ys : List ℕ) → Has image o (xs ++ ys) → Has image o xs
front_of image o xs ys has i h =
    let both = length-append xs ys in
    has i (omega arith) ∙ get_or_append_left xs ys 0 i h

pub rest_of : (image : ℕ → ℕ) (o n : ℕ) (xs ys : List ℕ) → length xs ≡ n → Has image o (xs ++ ys) → Has image (o + n) ys
rest_of image o n xs ys len has i h =
    let both = length-append xs ys in
    let there : o + n + i ≡ o + (length xs + i) = omega arith in
    ap image there ∙ (has (length xs + i) (omega arith) ∙ get_or-append-add xs ys i 0)

-- a part of bytes that an image has
pub part_of : (image : ℕ → ℕ) (o : ℕ) (before part after : List ℕ) → Has image o (before ++ (part ++ after)) → Has image (o + length before) part
part_of image o before part after has i h =
    let moved : o + length before + i ≡ o + (length before + i) = omega arith in
    let inside : length before + i < length (before ++ (part ++ after)) = grind (arith, common_steps) in
    rw moved (has (length before + i) inside ∙ get_or-append-add before (part ++ after) i 0 ∙ get_or_append_left part after 0 i h)

-- a number from a place of a list on
number_from : (image : ℕ → ℕ) (o i n : ℕ) (xs : List ℕ) → ((j : ℕ) → j < n → image (o + j) ≡ get_or xs (i + j) 0) → number_at image o n ≡ little_from i n xs
number_from image o i zero xs same = refl
number_from image o i (suc n) xs same =
    let first : image o ≡ slice_index xs i = ap image (omega arith) ∙ (same 0 (omega arith) ∙ ap (λ (j : ℕ). get_or xs j 0) (omega arith)) in
    let rest : number_at image (o + 1) n ≡ little_from (suc i) n xs =
    number_from image (o + 1) (suc i) n xs (λ j h. ap image (omega arith) ∙ (same (suc j) (omega arith) ∙ ap (λ (k : ℕ). get_or xs k 0) (omega arith))) in
    rw (first, rest) refl

-- the bytes of a number read as it
pub number_reads : (image : ℕ → ℕ) (o n x : ℕ) → x < 256 ^ n → Has image o (little_bytes n x) → number_at image o n ≡ x
number_reads image o n x fits has =
    let long = length-bytes_low_first 0 n x in
    number_from image o 0 n (little_bytes n x) (λ j h. has j (omega arith) ∙ ap (λ (k : ℕ). get_or (little_bytes n x) k 0) (omega arith))
    ∙ (ap (little_from 0 n) (sym (append-nil (little_bytes n x))) ∙ little_number-reads_back n x [] fits)

-- a number of an image is that of a list which has the same bytes from a place on
pub number_listed : (image : ℕ → ℕ) (o i n : ℕ) (xs : List ℕ) → ((j : ℕ) → j < n → image (o + j) ≡ get_or xs (i + j) 0) → number_at image o n ≡ little_number n (drop i xs)
number_listed image o i n xs same =
    number_from image o 0 n (drop i xs) (λ j h. let place : j ≡ 0 + j = omega arith in same j h ∙ (sym (get_or-drop i xs j 0) ∙ ap (λ (k : ℕ). get_or (drop i xs) k 0) place))

-- the same in an image that has the bytes of a list
pub number_held : (image : ℕ → ℕ) (o i n : ℕ) (xs : List ℕ) → Has image o xs → i + n ≤ length xs → number_at image (o + i) n ≡ little_number n (drop i xs)
number_held image o i n xs has within =
    number_listed image (o + i) i n xs (λ j h. let there : o + i + j ≡ o + (i + j) = omega arith in ap image there ∙ has (i + j) (omega arith))

-- a list read as an image
pub number_of_list : (xs : List ℕ) (o n : ℕ) → number_at (λ k. slice_index xs k) o n ≡ little_number n (drop o xs)
number_of_list xs o n = number_listed (λ k. slice_index xs k) o o n xs (λ j h. refl)

-- two images that have the same bytes from two offsets on
pub same_number : (image other : ℕ → ℕ) (o p n : ℕ) → ((j : ℕ) → j < n → image (o + j) ≡ other (p + j)) → number_at image o n ≡ number_at other p n
same_number image other o p zero same = refl
same_number image other o p (suc n) same =
    let first : image o ≡ other p = ap image (omega arith) ∙ (same 0 (omega arith) ∙ ap other (omega arith)) in
    let rest : number_at image (o + 1) n ≡ number_at other (p + 1) n =
    same_number image other (o + 1) (p + 1) n (λ j h. ap image (omega arith) ∙ (same (suc j) (omega arith) ∙ ap other (omega arith))) in
    rw (first, rest) refl
