-- A CRC-32 has 32 bits.
use Rattle.std.specs.Prelude.{◌≡◌, ℕ, zero, suc, ◌*◌, ◌-◌, ◌/◌, ◌^◌, ◌<◌, List, [], ◌∷◌, ◌++◌, Bool, true, false, not, length, map, replicate, flat_map}
use Rattle.std.proofs.Common.{refl, ◌∙◌, arith}
use Rattle.std.proofs.Math.Nat.{pow-suc}
use Rattle.std.proofs.lemmas.List.{length-append, length-map}
use Rattle.base_fields.specs.Crc.{bits, number_of, message_of, generator, add, divide, crc32_of}

number_of-fits : (bs : List Bool) → number_of bs < 2 ^ length bs
unfolding number_of
number_of-fits [] = omega arith
number_of-fits (true ∷ bs) = let more = number_of-fits bs in rw (pow-suc 2 (length bs)) (omega arith)
number_of-fits (false ∷ bs) = let more = number_of-fits bs in rw (pow-suc 2 (length bs)) (omega arith)

length-bits : (k n : ℕ) → length (bits k n) ≡ k
unfolding bits
length-bits zero n = refl
length-bits (suc k) n = let more = length-bits k (n / 2) in omega arith

length-message : (bytes : List ℕ) → length (message_of bytes) ≡ 8 * length bytes
unfolding message_of
length-message [] = refl
length-message (b ∷ bytes) =
    let more = length-message bytes in
    let one = length-bits 8 b in
    length-append (bits 8 b) (flat_map (bits 8) bytes) ∙ omega arith

length-add : (p q : List Bool) → length (add p q) ≡ length q
unfolding add
length-add [] q = refl
length-add (a ∷ p) [] = refl
length-add (a ∷ p) (b ∷ q) = let more = length-add p q in omega arith

length-divide : (steps : ℕ) (rest : List Bool) → length (divide steps rest) ≡ length rest - steps
unfolding divide
length-divide zero rest = omega arith
length-divide (suc steps) [] = omega arith
length-divide (suc steps) (true ∷ rest) =
    let more = length-divide steps (add generator rest) in
    let same = length-add generator rest in
    omega arith
length-divide (suc steps) (false ∷ rest) = let more = length-divide steps rest in omega arith

pub crc32_of-fits : (bytes : List ℕ) → crc32_of bytes < 2 ^ 32
unfolding crc32_of
crc32_of-fits bytes =
    let message = message_of bytes ++ replicate 32 false in
    let start = add (replicate 32 true) message in
    let rest = divide (8 * length bytes) start in
    let size = length-divide (8 * length bytes) start in
    let begun = length-add (replicate 32 true) message in
    let whole = length-append (message_of bytes) (replicate 32 false) in
    let bytes_long = length-message bytes in
    let turned = length-map rest not in
    let thirty_two : length (map not rest) ≡ 32 = omega arith in
    let fits = number_of-fits (map not rest) in
    rw thirty_two at fits
