-- The shift register, which holds the first 32 coefficients as a number, does the long division.
use Rattle.std.proofs.Common.{◌≡◌, ℕ, zero, suc, ◌+◌, ◌-◌, ◌*◌, ◌/◌, ◌%◌, ◌^◌, ◌<◌, ◌≤◌, ◌≢◌, ◌⊎◌, inl, inr, List, [], ◌∷◌, ◌++◌, length, map, replicate, Bool, true, false, not, refl, sym, ap, ◌∙◌, arith, append_assoc, get_or, drop, drop-cons, add-one}
use mathlib.Core.Bool.{xor}
use Rattle.std.specs.Bool.{if◌then◌else◌}
use Rattle.std.specs.Prelude.{bit_xor, ◌==◌}
use Rattle.std.proofs.lemmas.Nat.{xor_shr, xor_mod, xor_lt, xor_comm}
use lib.Bits.{xor_zero_r}
use Rattle.base_fields.specs.Crc.{bits, number_of, message_of, generator, add, divide, crc32_of, crc_step}

binary : (r : ℕ) → r < 2 → (r ≡ 0) ⊎ (r ≡ 1)
binary zero h = inl refl
binary (suc zero) h = inr refl
binary (suc (suc r)) h = absurd (omega arith)

pub parity : (n : ℕ) → (n % 2 ≡ 0) ⊎ (n % 2 ≡ 1)
parity n = binary (n % 2) (omega arith)

-- the lowest bit of `a ^ b`
low_xor : (a b : ℕ) → xor (a % 2 == 1) (b % 2 == 1) ≡ (bit_xor a b % 2 == 1)
unfolding xor
low_xor a b =
    rw (xor_mod a b 1)
    (elim (parity a) [
      | inl p ↦ elim (parity b) [ inl q ↦ rw (p, q) refl | inr q ↦ rw (p, q) refl ]
      | inr p ↦ elim (parity b) [ inl q ↦ rw (p, q) refl | inr q ↦ rw (p, q) refl ]
    ])

half_xor : (a b : ℕ) → bit_xor (a / 2) (b / 2) ≡ bit_xor a b / 2
half_xor a b = sym (xor_shr a b 1)

xor_thrice : (a b c : Bool) → xor a (xor b c) ≡ xor (xor a b) c
unfolding xor
xor_thrice true true true = refl
xor_thrice true true false = refl
xor_thrice true false true = refl
xor_thrice true false false = refl
xor_thrice false true true = refl
xor_thrice false true false = refl
xor_thrice false false true = refl
xor_thrice false false false = refl

xor-false : (a : Bool) → xor a false ≡ a
unfolding xor
xor-false true = refl
xor-false false = refl

false-xor : (a : Bool) → xor false a ≡ a
unfolding xor
false-xor true = refl
false-xor false = refl

-- the sum of two registers over a rest is that of one
add-add : (k a b : ℕ) (rest : List Bool) → add (bits k a) (add (bits k b) rest) ≡ add (bits k (bit_xor a b)) rest
unfolding bits add
add-add zero a b rest = refl
add-add (suc k) a b [] = refl
add-add (suc k) a b (c ∷ rest) =
    let tail : add (bits k (a / 2)) (add (bits k (b / 2)) rest) ≡ add (bits k (bit_xor a b / 2)) rest = rw (← half_xor a b) (add-add k (a / 2) (b / 2) rest) in
    rw (xor_thrice (a % 2 == 1) (b % 2 == 1) c, low_xor a b, tail) refl

-- a register with one more coefficient above, which is 0
add_longer : (k n : ℕ) (rest : List Bool) → n < 2 ^ k → add (bits k n) rest ≡ add (bits (suc k) n) rest
unfolding bits add
add_longer zero n [] h = refl
add_longer zero n (c ∷ rest) h = let z : n ≡ 0 = omega arith in rw z (ap (λ (b : Bool). b ∷ rest) (sym (false-xor c)))
add_longer (suc k) n [] h = refl
add_longer (suc k) n (c ∷ rest) h = ap (λ (q : List Bool). xor (n % 2 == 1) c ∷ q) (add_longer k (n / 2) rest (omega arith))

add_zeros : (k n : ℕ) → add (bits k n) (replicate k false) ≡ bits k n
unfolding bits add
add_zeros zero n = refl
add_zeros (suc k) n = rw (xor-false (n % 2 == 1), add_zeros k (n / 2)) refl

-- a register over a rest that begins with some number's bits
add_bits : (k m r b : ℕ) (rest : List Bool) → b < 2 ^ k → k ≤ m → add (bits m r) (bits k b ++ rest) ≡ add (bits m (bit_xor r b)) (bits k 0 ++ rest)
unfolding bits add
add_bits zero m r b rest h fits = let z : b ≡ 0 = omega arith in rw (z, xor_zero_r r) refl
add_bits (suc k) zero r b rest h fits = absurd (omega arith)
add_bits (suc k) (suc m) r b rest h fits =
    let tail : add (bits m (r / 2)) (bits k (b / 2) ++ rest) ≡ add (bits m (bit_xor r b / 2)) (bits k 0 ++ rest) = rw (← half_xor r b) (add_bits k m (r / 2) (b / 2) rest (omega arith) (omega arith)) in
    rw (low_xor r b, xor-false (bit_xor r b % 2 == 1), tail) refl

number_of-bits : (k n : ℕ) → n < 2 ^ k → number_of (bits k n) ≡ n
unfolding bits number_of
number_of-bits zero n h = omega arith
number_of-bits (suc k) n h = rw (number_of-bits k (n / 2) (omega arith)) (elim (parity n) [ inl p ↦ rw p (omega arith) | inr p ↦ rw p (omega arith) ])

complement : (k n : ℕ) → n < 2 ^ k → number_of (map not (bits k n)) + n + 1 ≡ 2 ^ k
unfolding bits number_of
complement zero n h = omega arith
complement (suc k) n h =
    let rest : number_of (map not (bits k (n / 2))) + n / 2 + 1 ≡ 2 ^ k = complement k (n / 2) (omega arith) in
    elim (parity n) [ inl p ↦ rw p (omega arith) | inr p ↦ rw p (omega arith) ]

-- one step of the division on a register that begins a polynomial: the bit that is shifted out decides
unfoldable pub half_step : ℕ → ℕ
half_step r = if r % 2 == 1 then bit_xor (r / 2) 0xEDB88320 else r / 2

unfoldable pub rounds : ℕ → ℕ → ℕ
rounds zero r = r
rounds (suc k) r = rounds k (half_step r)

generator-bits : generator ≡ bits 32 0xEDB88320
unfolding generator bits
generator-bits = refl

half_step_fits : (r : ℕ) → r < 2 ^ 32 → half_step r < 2 ^ 32
unfolding half_step
half_step_fits r h = elim (r % 2 == 1) as (λ b. (if b then bit_xor (r / 2) 0xEDB88320 else r / 2) < 2 ^ 32) [ true ↦ xor_lt 32 (r / 2) 0xEDB88320 (omega arith) (omega arith) | false ↦ omega arith ]

pub rounds_fits : (k r : ℕ) → r < 2 ^ 32 → rounds k r < 2 ^ 32
unfolding rounds
rounds_fits zero r h = h
rounds_fits (suc k) r h = rounds_fits k (half_step r) (half_step_fits r h)

-- what the division's step leaves of a register whose first coefficient is taken away
reduced : (r : ℕ) (rest : List Bool) → r < 2 ^ 32 → (if r % 2 == 1 then add generator (add (bits 31 (r / 2)) rest) else add (bits 31 (r / 2)) rest) ≡ add (bits 32 (half_step r)) rest
unfolding half_step
reduced r rest h =
    let longer : add (bits 31 (r / 2)) rest ≡ add (bits 32 (r / 2)) rest = add_longer 31 (r / 2) rest (omega arith) in
    rw (longer, generator-bits, add-add 32 0xEDB88320 (r / 2) rest, xor_comm 0xEDB88320 (r / 2))
    (elim (r % 2 == 1) as (λ b. (if b then add (bits 32 (bit_xor (r / 2) 0xEDB88320)) rest else add (bits 32 (r / 2)) rest) ≡ add (bits 32 (if b then bit_xor (r / 2) 0xEDB88320 else r / 2)) rest) [ true ↦ refl | false ↦ refl ])

register : (r : ℕ) → bits 32 r ≡ (r % 2 == 1) ∷ bits 31 (r / 2)
unfolding bits
register r = refl

divide_once : (n r : ℕ) (rest : List Bool) → r < 2 ^ 32 → divide (suc n) (add (bits 32 r) (false ∷ rest)) ≡ divide n (add (bits 32 (half_step r)) rest)
unfolding divide add
divide_once n r rest h = rw (register r, xor-false (r % 2 == 1), reduced r rest h) refl

-- so many steps and then the others
abbrev more : ℕ → ℕ → ℕ
more zero n = n
more (suc k) n = suc (more k n)

zeros_first : (k : ℕ) → bits (suc k) 0 ≡ false ∷ bits k 0
unfolding bits
zeros_first k = refl

divide_rounds : (k n r : ℕ) (rest : List Bool) → r < 2 ^ 32 → divide (more k n) (add (bits 32 r) (bits k 0 ++ rest)) ≡ divide n (add (bits 32 (rounds k r)) rest)
unfolding rounds
divide_rounds zero n r rest h = unfold bits in refl
divide_rounds (suc k) n r rest h =
    rw (zeros_first k) (divide_once (more k n) r (bits k 0 ++ rest) h ∙ divide_rounds k n (half_step r) rest (half_step_fits r h))

-- a byte of the message: eight steps on the register that it is added to
divide_byte : (n r b : ℕ) (rest : List Bool) → r < 2 ^ 32 → b < 2 ^ 8 → divide (more 8 n) (add (bits 32 r) (bits 8 b ++ rest)) ≡ divide n (add (bits 32 (rounds 8 (bit_xor r b))) rest)
divide_byte n r b rest h small =
    rw (add_bits 8 32 r b rest small (omega arith)) (divide_rounds 8 n (bit_xor r b) rest (xor_lt 32 r b h (omega arith)))

pub crc_step-rounds : (r b : ℕ) → r < 2 ^ 32 → b < 2 ^ 8 → crc_step r b ≡ rounds 8 (bit_xor r b)
unfolding crc_step divide
crc_step-rounds r b h small =
    rw (divide_byte 0 r b (replicate 32 false) h small, add_zeros 32 (rounds 8 (bit_xor r b)))
    (number_of-bits 32 (rounds 8 (bit_xor r b)) (rounds_fits 8 (bit_xor r b) (xor_lt 32 r b h (omega arith))))

-- what the division of the rest of the message leaves, after a remainder
unfoldable pub remains : ℕ → List ℕ → List Bool
remains r bytes = divide (8 * length bytes) (add (bits 32 r) (message_of bytes ++ replicate 32 false))

pub remains_more : (r b : ℕ) (bytes : List ℕ) → r < 2 ^ 32 → b < 2 ^ 8 → remains r (b ∷ bytes) ≡ remains (crc_step r b) bytes
unfolding remains message_of
remains_more r b bytes h small =
    let steps : 8 * suc (length bytes) ≡ more 8 (8 * length bytes) = omega arith in
    rw (crc_step-rounds r b h small, steps, append_assoc)
    (divide_byte (8 * length bytes) r b (message_of bytes ++ replicate 32 false) h small)

pub remains_none : (r : ℕ) → remains r [] ≡ bits 32 r
unfolding remains message_of divide
remains_none r = add_zeros 32 r

ones_register : bits 32 0xFFFFFFFF ≡ replicate 32 true
unfolding bits
ones_register = refl

begins : (bytes : List ℕ) → remains 0xFFFFFFFF bytes ≡ divide (8 * length bytes) (add (replicate 32 true) (message_of bytes ++ replicate 32 false))
unfolding remains
begins bytes = rw ones_register refl

-- the register when all bytes are in, complemented
pub crc32_of-complement : (r : ℕ) (bytes : List ℕ) → r < 2 ^ 32 → remains 0xFFFFFFFF bytes ≡ remains r [] → crc32_of bytes ≡ 2 ^ 32 - 1 - r
unfolding crc32_of
crc32_of-complement r bytes h same =
    rw (← begins bytes, same, remains_none r) (omega (arith, complement 32 r h))

-- the next byte of a message
pub remains_next : (r i : ℕ) (bytes : List ℕ) → i < length bytes → r < 2 ^ 32 → get_or bytes i 0 < 2 ^ 8 → remains r (drop i bytes) ≡ remains (crc_step r (get_or bytes i 0)) (drop (i + 1) bytes)
remains_next r i bytes below h small =
    rw (drop-cons bytes i 0 below, ← add-one i) (remains_more r (get_or bytes i 0) (drop (i + 1) bytes) h small)

pub half_step-odd : (r : ℕ) → r % 2 ≡ 1 → half_step r ≡ bit_xor (r / 2) 0xEDB88320
unfolding half_step
half_step-odd r odd = rw odd refl

pub half_step-even : (r : ℕ) → r % 2 ≢ 1 → half_step r ≡ r / 2
unfolding half_step
half_step-even r even = let zero_bit : r % 2 ≡ 0 = omega arith in rw zero_bit refl

-- one round of those that are left
pub rounds_next : (done r : ℕ) → done < 8 → rounds (8 - done) r ≡ rounds (8 - (done + 1)) (half_step r)
unfolding rounds
rounds_next done r h = let left : 8 - done ≡ suc (8 - (done + 1)) = omega arith in rw left refl

pub rounds_none : (done r : ℕ) → 8 ≤ done → rounds (8 - done) r ≡ r
unfolding rounds
rounds_none done r h = let left : 8 - done ≡ 0 = omega arith in rw left refl
