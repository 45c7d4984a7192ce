-- Sets of images as the bits of a number, and which chains they tell of.
use Rattle.std.specs.Prelude.{◌≡◌, ℕ, zero, suc, ◌<◌, ◌==◌, ◌||◌, ◌&&◌, nat_eq, Bool, List, length, slice_index, if◌then◌else◌}
use Rattle.std.specs.Int.{bit_at}
use Rattle.std.specs.Int.RustNames.{bit_or}
use Rattle.image_order.specs.Chains.{children}
use Rattle.image_order.specs.Order.{is_placed}

-- the bit of that number is set
abbrev pub has : ℕ → ℕ → Bool
has set image = bit_at set image == 1

-- the numbers below 64 of a list
abbrev pub IsSetOf : List ℕ → ℕ → Type 0
IsSetOf images set = (image : ℕ) → image < 64 → has set image ≡ is_placed images image

-- the set with one more number, where it is below 64
abbrev pub IsAdded : ℕ → ℕ → ℕ → Type 0
IsAdded set child new = (image : ℕ) → image < 64 → has new image ≡ (has set image || nat_eq image child)

-- a set with all of another, where it has the image whose set that is
abbrev pub joined : ℕ → ℕ → ℕ → ℕ
joined through middle set = if has set middle then bit_or set through else set

-- a chain leads there that goes over images below that number alone
abbrev pub leads : List (List ℕ) → ℕ → ℕ → ℕ → Bool
leads families zero from to = is_placed (children families from) to
leads families (suc middle) from to =
    leads families middle from to || leads families middle from middle && leads families middle middle to

-- the sets tell of each image to which others such a chain leads
pub record Tells (families : List (List ℕ)) (middle : ℕ) (sets : List ℕ) : Type 0 where
  pub count : length sets ≡ length families
  pub each : (from to : ℕ) → from < length families → to < 64 →
      has (slice_index sets from) to ≡ leads families middle from to
