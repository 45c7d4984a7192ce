-- A power of two from 4 on is a block size.
use Rattle.std.proofs.Common.{◌≡◌, ℕ, ◌/◌, ◌%◌, ◌<◌, ◌≤◌, count_ones, true, arith, inl, inr}
use Rattle.std.proofs.lemmas.Bool.{cases_lt, eqb-true}
use Rattle.std.proofs.lemmas.Bool.Decides.{nat_tests}
use Rattle.std.proofs.lemmas.Nat.{zero_from_ones}
use Rattle.std.specs.Bool.{IsTrue}
use Rattle.std.specs.Int.{is_power_of_two}
use Rattle.std.specs.Int.Count.{ones_step}
use Rattle.base_fields.specs.Numbers.{IsPowerBetween}
use Rattle.sparse_reader.specs.Header.{is_block}

-- one set digit, and not among the two lowest
multiple_of_4 : (n : ℕ) → 4 ≤ n → IsTrue (is_power_of_two n) → n % 4 ≡ 0
multiple_of_4 n above power =
    let one : count_ones n ≡ 1 = eqb-true (count_ones n) 1 power in
    let low = ones_step n in
    let next = ones_step (n / 2) in
    elim (cases_lt 0 (count_ones (n / 2 / 2))) [
      | inl some ↦ omega (arith, one, low, next, some)
      | inr none ↦
          let quarter = zero_from_ones (n / 2 / 2) (omega (arith, none)) in
          absurd (omega (arith, quarter, above))
    ]

block_passes : (n : ℕ) → 0 < n → n % 4 ≡ 0 → is_block n ≡ true
block_passes n some whole = grind (arith, nat_tests)

pub is_a_block : (block : ℕ) → IsPowerBetween 4096 1048576 block → is_block block ≡ true
is_a_block block h =
    let above = h.not_below in
    block_passes block (omega (arith, above)) (multiple_of_4 block (omega (arith, above)) h.power)
