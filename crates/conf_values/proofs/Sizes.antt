-- What a value that is read has passed; a size of a text is at most 2^43.
use Rattle.std.proofs.Common.{◌≡◌, ℕ, ◌-◌, ◌*◌, ◌^◌, ◌≤◌, ◌&&◌, Bool, cond, true, false, List, length, take, Option, Some, None, refl, leb-true}
use Rattle.std.specs.Prelude.{IfSome, slice_index, nat_le, option_and_then}
use Rattle.base_fields.specs.Results.{passing}
use Rattle.conf_values.specs.Values.{number_of, size_of, size_with, bytes_of, unit_of}

-- what passes has passed the test
pub passing_gives : (test : ℕ → Bool) (P : ℕ → Type 0) → ((n : ℕ) → test n ≡ true → P n) → (n : ℕ) → IfSome (passing test n) P
passing_gives test P gives n = at (test n) refl
  where
    at : (b : Bool) → test n ≡ b → IfSome (cond b (Some n) None) P
    at true e = gives n e
    at false e = tt

pub then_gives : {A B : Type 0} (f : A → Option B) (P : B → Type 0) → ((a : A) → IfSome (f a) P) → (o : Option A) → IfSome (option_and_then f o) P
then_gives f P gives None = tt
then_gives f P gives (Some a) = gives a

bytes_small : (unit count : ℕ) → IfSome (bytes_of unit count) (λ n. n ≤ 2 ^ 43)
bytes_small unit count = passing_gives (λ n. nat_le n (2 ^ 43)) (λ n. n ≤ 2 ^ 43) (λ n e. leb-true n (2 ^ 43) e) (count * unit)

size_with_small : (text : List ℕ) (unit : Option ℕ) → IfSome (size_with text unit) (λ n. n ≤ 2 ^ 43)
size_with_small text None = then_gives (bytes_of 1) (λ n. n ≤ 2 ^ 43) (bytes_small 1) (number_of text)
size_with_small text (Some unit) = then_gives (bytes_of unit) (λ n. n ≤ 2 ^ 43) (bytes_small unit) (number_of (take (length text - 1) text))

pub size_small : (text : List ℕ) → IfSome (size_of text) (λ n. n ≤ 2 ^ 43)
size_small text = size_with_small text (unit_of (slice_index text (length text - 1)))
