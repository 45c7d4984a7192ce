-- The logical partitions of an mbr have sectors of 32 bits, behind the first sector of the disk.
use Rattle.std.proofs.Common.{suc, ◌+◌, ◌^◌, ◌<◌, ◌≤◌, List, [], ◌∷◌, length, get_or, arith}
use Rattle.std.specs.Prelude.{All}
use Rattle.extended_chain.specs.Extended.{greatest_end}
use Rattle.extended_chain.specs.declared.chain.LogicalSpec.{LogicalSpec}
use Rattle.placement.specs.Fitting.{IsChained}

all_behind : (s : LogicalSpec) (specs : List LogicalSpec) → All IsChained (s ∷ specs) → All IsChained specs
all_behind s specs h k d below = h (suc k) d (omega arith)

greatest_within : (specs : List LogicalSpec) → All IsChained specs → greatest_end specs ≤ 2 ^ 32
greatest_within [] h = omega arith
greatest_within (s ∷ specs) h =
    let first : IsChained s = h 0 s (omega arith) in
    let end : s.first + s.count ≤ 2 ^ 32 = first.end in
    omega (arith, greatest_within specs (all_behind s specs h))

pub chain_fits : (specs : List LogicalSpec) (d : LogicalSpec) → All IsChained specs → 0 < length specs → greatest_end specs < (get_or specs 0 d).head + 2 ^ 32
chain_fits specs d h some =
    let first : IsChained (get_or specs 0 d) = h 0 d some in
    let head : 1 ≤ (get_or specs 0 d).head = first.head in
    omega (arith, greatest_within specs h)

pub chain_ends : (specs : List LogicalSpec) (d : LogicalSpec) → All IsChained specs → 0 < length specs → (get_or specs 0 d).head ≤ greatest_end specs
chain_ends [] d h some = absurd (omega arith)
chain_ends (s ∷ specs) d h some =
    let first : IsChained s = h 0 s (omega arith) in
    let low : s.head ≤ s.first = first.first in
    omega arith
