-- Rows that were reckoned by hand: blocks of 4,096 bytes, a file of 3 bytes and behind it one of 1 byte at 8,192.
use Rattle.std.specs.Prelude.{◌≡◌, ℕ, List, [], ◌∷◌, Some, None}
use Rattle.std.proofs.Common.{refl}
use Rattle.base_fields.specs.declared.spans.Span.{Span}
use Rattle.conf_keys.specs.declared.conf.PartitionSection.{PartitionSection}
use Rattle.placement_rules.specs.declared.faults.PlaceFault.TheVariants as fault
use Rattle.flash_geometry.specs.Faults.{refusal_of}
use Rattle.flash_geometry.specs.Places.{last_end, places}
use Rattle.flash_geometry.specs.declared.geometry.Geometry.{Geometry}

device : ℕ → Geometry
device numpebs = record { pebsize = 4096; numpebs = numpebs }

span : ℕ → ℕ → Span
span at len = record { at = at; len = len }

-- one without an offset, and one at that offset
two : PartitionSection → PartitionSection → ℕ → List PartitionSection
two a b at = record a { offset = None; size = None } ∷ record b { offset = Some at; size = None } ∷ []

-- each on a block of its own
stand : (a b : PartitionSection) → places (device 4) (two a b 8192) (3 ∷ 1 ∷ []) ≡ span 0 4096 ∷ span 8192 4096 ∷ []
unfolding device span two
stand a b = refl

passes : (a b : PartitionSection) (name : List ℕ) → refusal_of (device 4) name None (two a b 8192) (3 ∷ 1 ∷ []) ≡ None
unfolding device two
passes a b name = refl

ends : (a b : PartitionSection) → last_end (places (device 4) (two a b 8192) (3 ∷ 1 ∷ [])) ≡ 12288
unfolding device two
ends a b = refl

-- an offset off the block
off_block : (a b : PartitionSection) (name : List ℕ) → refusal_of (device 4) name None (two a b 100) (3 ∷ 1 ∷ []) ≡ Some (fault.NotOnBlock b.name 100 4096)
unfolding device two
off_block a b name = refl

-- a device of two blocks
past : (a b : PartitionSection) (name : List ℕ) → refusal_of (device 2) name None (two a b 8192) (3 ∷ 1 ∷ []) ≡ Some (fault.PastFlash b.name 12288 8192)
unfolding device two
past a b name = refl
