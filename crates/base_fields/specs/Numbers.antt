-- Multiples, numbers between two others, and the two orders of a GUID's bytes.
use Rattle.std.specs.Prelude.{◌≡◌, ℕ, ◌%◌, ◌≤◌, Bool, IsTrue, ◌&&◌, nat_le, List, ◌++◌, take, drop, reverse}
use Rattle.std.specs.Int.{is_power_of_two}

-- the least multiple of a number that isn't below n
pub record IsLeastMultiple (n to r : ℕ) : Type 0 where
  pub multiple : r % to ≡ 0
  pub not_below : n ≤ r
  pub least : (m : ℕ) → m % to ≡ 0 → n ≤ m → r ≤ m

-- a number between two others, which may be either
abbrev pub is_between : ℕ → ℕ → ℕ → Bool
is_between least most n = nat_le least n && nat_le n most

abbrev pub IsBetween : ℕ → ℕ → ℕ → Type 0
IsBetween least most n = (least ≤ n) × (n ≤ most)

-- a power of two between two numbers, which may be either
abbrev pub is_power_between : ℕ → ℕ → ℕ → Bool
is_power_between least most n = is_power_of_two n && is_between least most n

pub record IsPowerBetween (least most n : ℕ) : Type 0 where
  pub power : IsTrue (is_power_of_two n)
  pub not_below : least ≤ n
  pub not_above : n ≤ most

-- a GUID's 16 bytes in the other of its two orders, that of RFC 9562 or that of UEFI (UEFI 2.10, appendix A): the first
-- three fields, of 4, 2 and 2 bytes, are turned round
abbrev pub guid_order : List ℕ → List ℕ
guid_order id = reverse (take 4 id) ++ reverse (take 2 (drop 4 id)) ++ reverse (take 2 (drop 6 id)) ++ drop 8 id
