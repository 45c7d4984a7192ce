-- A GUID's bytes one by one.
use Rattle.std.proofs.Common.{◌≡◌, ℕ, List, [], ◌∷◌, length, get_or, refl, arith}
use Rattle.base_fields.specs.Numbers.{guid_order}

pub bytes_of : (x : List ℕ) → length x ≡ 16 → get_or x 0 0 ∷ get_or x 1 0 ∷ get_or x 2 0 ∷ get_or x 3 0 ∷ get_or x 4 0 ∷ get_or x 5 0 ∷ get_or x 6 0 ∷ get_or x 7 0 ∷ get_or x 8 0 ∷ get_or x 9 0 ∷ get_or x 10 0 ∷ get_or x 11 0 ∷ get_or x 12 0 ∷ get_or x 13 0 ∷ get_or x 14 0 ∷ get_or x 15 0 ∷ [] ≡ x
bytes_of (a ∷ b ∷ c ∷ d ∷ e ∷ f ∷ g ∷ h ∷ i ∷ j ∷ k ∷ l ∷ m ∷ n ∷ o ∷ p ∷ []) sixteen = refl
bytes_of _ sixteen = absurd (omega arith)

pub turned_bytes : (x : List ℕ) → length x ≡ 16 → get_or x 3 0 ∷ get_or x 2 0 ∷ get_or x 1 0 ∷ get_or x 0 0 ∷ get_or x 5 0 ∷ get_or x 4 0 ∷ get_or x 7 0 ∷ get_or x 6 0 ∷ get_or x 8 0 ∷ get_or x 9 0 ∷ get_or x 10 0 ∷ get_or x 11 0 ∷ get_or x 12 0 ∷ get_or x 13 0 ∷ get_or x 14 0 ∷ get_or x 15 0 ∷ [] ≡ guid_order x
turned_bytes (a ∷ b ∷ c ∷ d ∷ e ∷ f ∷ g ∷ h ∷ i ∷ j ∷ k ∷ l ∷ m ∷ n ∷ o ∷ p ∷ []) sixteen = refl
turned_bytes _ sixteen = absurd (omega arith)
