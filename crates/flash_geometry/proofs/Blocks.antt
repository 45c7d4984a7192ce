-- Multiples of an erase block.
use Rattle.std.specs.Prelude.{◌≡◌, ℕ, ◌+◌, ◌-◌, ◌*◌, ◌/◌, ◌%◌, ◌^◌, ◌<◌, ◌≤◌, List, Option, Some, None}
use Rattle.std.proofs.Common.{arith, mul-le-mul_right}
use Rattle.std.proofs.Math.Nat.{lt_of_mul-lt-mul_right, mul-le-mul_left, mul-mod_left}
use Rattle.std.proofs.lemmas.Nat.{div-add-mod', mod_below}
use Rattle.base_fields.specs.Numbers.{IsLeastMultiple}
use Rattle.conf_keys.specs.declared.conf.FlashSection.{FlashSection}
use Rattle.conf_keys.specs.declared.conf.Kind.TheVariants.{Flash}
use Rattle.conf_keys.specs.Within.{IsFlashWithin}
use Rattle.image_specs.specs.IsSpec.{IsFlashFor}
use Rattle.placement_rules.specs.Places.{least_multiple}
use Rattle.flash_geometry.specs.Places.{IsGeometry, IsGeometryOf}
use Rattle.flash_geometry.specs.declared.geometry.Geometry.{Geometry}

-- the least multiple is the one that its definition names
pub least_is : (to n r : ℕ) → 1 ≤ to → IsLeastMultiple n to r → r ≡ least_multiple to n
least_is to n r some is =
    let q : (n + (to - 1)) / to * to + (n + (to - 1)) % to ≡ n + (to - 1) = div-add-mod' (n + (to - 1)) to in
    let rest : (n + (to - 1)) % to < to = mod_below (n + (to - 1)) to (omega arith) in
    let below : r ≤ (n + (to - 1)) / to * to = is.least ((n + (to - 1)) / to * to) (mul-mod_left ((n + (to - 1)) / to) to) (omega arith) in
    let k : r / to * to + r % to ≡ r = div-add-mod' r to in
    let whole : r % to ≡ 0 = is.multiple in
    let least : n ≤ r = is.not_below in
    let less : (n + (to - 1)) / to < r / to + 1 = lt_of_mul-lt-mul_right to (omega arith) in
    let above : (n + (to - 1)) / to * to ≤ r / to * to = mul-le-mul_right to (omega arith) in
    omega arith

-- an erase block is no longer than its device
pub block_bounded : (g : Geometry) → IsGeometry g → g.pebsize ≤ 2 ^ 43
block_bounded g is =
    let least : g.pebsize * 1 ≤ g.pebsize * g.numpebs = mul-le-mul_left g.pebsize is.numpebs in
    omega (arith, is.product)

-- the device of a flash section is one
pub geometry_is : (flashtype : Option (List ℕ)) (flash : Option FlashSection) (g : Geometry) → IsFlashFor Flash flashtype flash → IsGeometryOf flash g → IsGeometry g
geometry_is flashtype None g h own = absurd own
geometry_is flashtype (Some f) g h own =
    let within : IsFlashWithin f = h.1 in
    record { pebsize = rw own.0 within.pebsize; numpebs = rw own.1 within.numpebs; product = rw (own.0, own.1) within.product }
