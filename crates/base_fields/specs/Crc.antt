-- CRC-32 as the standards give it: the remainder of a division of polynomials whose coefficients are 0 or 1 and add
-- modulo 2 (ISO/IEC 3309; ITU-T V.42 8.1.1.6.2; UEFI 2.10 5.3). A polynomial is the list of its coefficients, true for
-- 1, the highest power first.
use Rattle.std.specs.Prelude.{ℕ, zero, suc, ◌+◌, ◌*◌, ◌/◌, ◌%◌, ◌==◌, List, [], ◌∷◌, ◌++◌, length, map, replicate, flat_map, Bool, true, false, not, if◌then◌else◌}
use Rattle.std.specs.Bool.{xor}

-- so many bits of a number, the lowest first
unfoldable pub bits : ℕ → ℕ → List Bool
bits zero n = []
bits (suc k) n = (n % 2 == 1) ∷ bits k (n / 2)

-- the number that has these bits, the lowest first
unfoldable pub number_of : List Bool → ℕ
number_of [] = 0
number_of (b ∷ bs) = (if b then 1 else 0) + 2 * number_of bs

-- a message: its bytes in order, each with its lowest bit first
unfoldable pub message_of : List ℕ → List Bool
message_of bytes = flat_map (bits 8) bytes

-- the generator x^32 + x^26 + x^23 + x^22 + x^16 + x^12 + x^11 + x^10 + x^8 + x^7 + x^5 + x^4 + x^2 + x + 1, without
-- its first coefficient
unfoldable pub generator : List Bool
generator = false ∷ false ∷ false ∷ false ∷ false ∷ true ∷ false ∷ false ∷
    true ∷ true ∷ false ∷ false ∷ false ∷ false ∷ false ∷ true ∷
    false ∷ false ∷ false ∷ true ∷ true ∷ true ∷ false ∷ true ∷
    true ∷ false ∷ true ∷ true ∷ false ∷ true ∷ true ∷ true ∷ []

-- the sum of a polynomial and of another that begins at the same power, as far as the second goes
unfoldable pub add : List Bool → List Bool → List Bool
add [] q = q
add (a ∷ p) [] = []
add (a ∷ p) (b ∷ q) = xor a b ∷ add p q

-- what is left after so many steps of the long division by the generator, each of which takes the first coefficient away
unfoldable pub divide : ℕ → List Bool → List Bool
divide zero rest = rest
divide (suc steps) [] = []
divide (suc steps) (first ∷ rest) = divide steps (if first then add generator rest else rest)

-- the message times x^32, its first 32 coefficients complemented, is divided; the remainder's complement is the check,
-- its first coefficient the lowest bit
unfoldable pub crc32_of : List ℕ → ℕ
crc32_of bytes = number_of (map not (divide (8 * length bytes) (add (replicate 32 true) (message_of bytes ++ replicate 32 false))))

-- what remains of a remainder of 32 bits and one more byte of the message
unfoldable pub crc_step : ℕ → ℕ → ℕ
crc_step remainder byte = number_of (divide 8 (add (bits 32 remainder) (bits 8 byte ++ replicate 32 false)))
