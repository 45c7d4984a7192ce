-- The bytes of an image in order, an image being the byte at each offset.
use Rattle.std.specs.Prelude.{ℕ, zero, suc, ◌+◌, List, [], ◌∷◌}

-- so many bytes from an offset on
unfoldable pub bytes_at : (ℕ → ℕ) → ℕ → ℕ → List ℕ
bytes_at image o zero = []
bytes_at image o (suc n) = image o ∷ bytes_at image (o + 1) n
