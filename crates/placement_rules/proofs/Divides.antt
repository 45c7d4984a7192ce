-- Multiples of multiples.
use Rattle.std.proofs.Common.{◌≡◌, ℕ, ◌-◌, ◌%◌}
use Rattle.std.proofs.Math.Nat.{dvd-sub}
use Rattle.std.proofs.lemmas.Nat.Gcd.{dvd_of_mod-eq-zero, dvd_trans, mod-eq-zero_of_dvd}

-- a multiple of a multiple
pub whole_again : (a b c : ℕ) → a % b ≡ 0 → b % c ≡ 0 → a % c ≡ 0
whole_again a b c first second = mod-eq-zero_of_dvd c (dvd_trans c (dvd_of_mod-eq-zero c second) (dvd_of_mod-eq-zero b first))

-- what lies between two multiples, or nothing
pub whole_between : (a b c : ℕ) → a % c ≡ 0 → b % c ≡ 0 → (a - b) % c ≡ 0
whole_between a b c end start = mod-eq-zero_of_dvd c (dvd-sub c (dvd_of_mod-eq-zero c end) (dvd_of_mod-eq-zero c start))
