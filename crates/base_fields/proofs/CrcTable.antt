-- A step over a whole byte is a look-up: steps are linear, and zeros below are only shifted out.
use Rattle.std.proofs.Common.{◌≡◌, ℕ, zero, suc, ◌+◌, ◌*◌, ◌/◌, ◌%◌, ◌^◌, ◌<◌, inl, inr, List, [], ◌∷◌, get_or, refl, sym, ap, ◌∙◌, arith}
use Rattle.std.specs.Prelude.{bit_xor}
use Rattle.std.proofs.lemmas.Nat.{xor_shr, xor_mod, xor_comm}
use lib.Bits.{xor_zero_l, xor_zero_r, xor_assoc, xor_self, xor_shifted}
use Rattle.base_fields.specs.Crc.{crc_step}
use Rattle.base_fields.specs.declared.checksum.TheConstants.{REMAINDERS}
use Rattle.base_fields.proofs.Crc.{crc_step-rounds, half_step, half_step-odd, half_step-even, parity, rounds}

-- sums of four terms, in the orders that the steps give
front : (a b p : ℕ) → bit_xor (bit_xor a b) p ≡ bit_xor (bit_xor a p) b
front a b p = xor_assoc a b p ∙ ap (bit_xor a) (xor_comm b p) ∙ sym (xor_assoc a p b)

twice : (a b p : ℕ) → bit_xor (bit_xor a p) (bit_xor b p) ≡ bit_xor a b
twice a b p =
    xor_assoc a p (bit_xor b p) ∙ ap (λ (x : ℕ). bit_xor a (bit_xor p x)) (xor_comm b p)
    ∙ ap (bit_xor a) (sym (xor_assoc p p b) ∙ ap (λ (x : ℕ). bit_xor x b) (xor_self p) ∙ xor_zero_l b)

half_step-xor : (a b : ℕ) → half_step (bit_xor a b) ≡ bit_xor (half_step a) (half_step b)
half_step-xor a b =
    let half : bit_xor a b / 2 ≡ bit_xor (a / 2) (b / 2) = xor_shr a b 1 in
    let low : bit_xor a b % 2 ≡ bit_xor (a % 2) (b % 2) = xor_mod a b 1 in
    elim (parity a) [
      | inl p ↦ elim (parity b) [
        | inl q ↦ let s : bit_xor a b % 2 ≡ 0 = low ∙ rw (p, q) refl in
            rw (half_step-even (bit_xor a b) (omega arith), half_step-even a (omega arith), half_step-even b (omega arith)) half
        | inr q ↦ let s : bit_xor a b % 2 ≡ 1 = low ∙ rw (p, q) refl in
            rw (half_step-odd (bit_xor a b) s, half_step-even a (omega arith), half_step-odd b q, half) (xor_assoc (a / 2) (b / 2) 0xEDB88320)
      ]
      | inr p ↦ elim (parity b) [
        | inl q ↦ let s : bit_xor a b % 2 ≡ 1 = low ∙ rw (p, q) refl in
            rw (half_step-odd (bit_xor a b) s, half_step-odd a p, half_step-even b (omega arith), half) (front (a / 2) (b / 2) 0xEDB88320)
        | inr q ↦ let s : bit_xor a b % 2 ≡ 0 = low ∙ rw (p, q) refl in
            rw (half_step-even (bit_xor a b) (omega arith), half_step-odd a p, half_step-odd b q, half) (sym (twice (a / 2) (b / 2) 0xEDB88320))
      ]
    ]

rounds-xor : (k a b : ℕ) → rounds k (bit_xor a b) ≡ bit_xor (rounds k a) (rounds k b)
unfolding rounds
rounds-xor zero a b = refl
rounds-xor (suc k) a b = rw (half_step-xor a b) (rounds-xor k (half_step a) (half_step b))

-- a number with so many zeros below
abbrev raised : ℕ → ℕ → ℕ
raised zero n = n
raised (suc k) n = 2 * raised k n

rounds-raised : (k n : ℕ) → rounds k (raised k n) ≡ n
unfolding rounds
rounds-raised zero n = refl
rounds-raised (suc k) n =
    let shift : half_step (2 * raised k n) ≡ raised k n = half_step-even (2 * raised k n) (omega arith) ∙ omega arith in
    rw shift (rounds-raised k n)

rounds-split : (n : ℕ) → rounds 8 n ≡ bit_xor (rounds 8 (n % 256)) (n / 256)
rounds-split n =
    let high : raised 8 (n / 256) ≡ n / 256 * 2 ^ 8 = omega arith in
    let parts : bit_xor (n % 256) (raised 8 (n / 256)) ≡ n =
    ap (bit_xor (n % 256)) high ∙ xor_comm (n % 256) (n / 256 * 2 ^ 8) ∙ xor_shifted (n / 256) 8 (n % 256) (omega arith) ∙ omega arith in
    ap (rounds 8) (sym parts) ∙ rounds-xor 8 (n % 256) (raised 8 (n / 256)) ∙ ap (bit_xor (rounds 8 (n % 256))) (rounds-raised 8 (n / 256))

-- the table of so many numbers from one on
unfoldable table : ℕ → ℕ → List ℕ
table zero from = []
table (suc k) from = rounds 8 from ∷ table k (suc from)

table_at : (k from i : ℕ) → i < k → get_or (table k from) i 0 ≡ rounds 8 (from + i)
unfolding table
table_at zero from i h = absurd (omega arith)
table_at (suc k) from zero h = ap (rounds 8) (omega arith)
table_at (suc k) from (suc i) h = table_at k (suc from) i (omega arith) ∙ ap (rounds 8) (omega arith)

remainders : REMAINDERS ≡ table 256 0
unfolding table rounds half_step
remainders = refl

-- the byte's step by the table
pub crc_step-table : (r b : ℕ) → r < 2 ^ 32 → b < 2 ^ 8 → crc_step r b ≡ bit_xor (get_or REMAINDERS (bit_xor r b % 256) 0) (r / 256)
crc_step-table r b h small =
    let entry : get_or REMAINDERS (bit_xor r b % 256) 0 ≡ rounds 8 (bit_xor r b % 256) =
    ap (λ (t : List ℕ). get_or t (bit_xor r b % 256) 0) remainders ∙ table_at 256 0 (bit_xor r b % 256) (omega arith) ∙ ap (rounds 8) (omega arith) in
    let none : b / 256 ≡ 0 = omega arith in
    let high : bit_xor r b / 256 ≡ r / 256 = xor_shr r b 8 ∙ ap (bit_xor (r / 256)) none ∙ xor_zero_r (r / 256) in
    crc_step-rounds r b h small ∙ rounds-split (bit_xor r b) ∙ ap (λ (x : ℕ). bit_xor x (bit_xor r b / 256)) (sym entry) ∙ ap (bit_xor (get_or REMAINDERS (bit_xor r b % 256) 0)) high
