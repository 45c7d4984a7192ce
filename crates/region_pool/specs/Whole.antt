-- A block's start, the owner of its bytes and the right to free it, which belong together.
use Rattle.std.specs.Prelude.{◌≡◌, ℕ, [], length}
use Rattle.region_pool.specs.declared.memory.Start.{Start}
use Rattle.region_pool.specs.declared.memory.Bytes.{Bytes}
use Rattle.region_pool.specs.declared.memory.Deed.{Deed}

module _ {A : Type 0} (start : Start) (len : ℕ) (bytes : Bytes) (deed : Deed A) (alloc : A) where
  -- len bytes of alloc's, none of which is written
  abbrev pub IsBlank : Type 0
  IsBlank = (bytes.at ≡ start.ptr) × (bytes.items ≡ []) × (bytes.spare ≡ len) × (deed.at ≡ start.ptr) × (deed.len ≡ len) × (deed.alloc ≡ alloc)

  -- len bytes of alloc's, each of which is written
  abbrev pub IsWhole : Type 0
  IsWhole = (bytes.at ≡ start.ptr) × (length bytes.items ≡ len) × (bytes.spare ≡ 0) × (deed.at ≡ start.ptr) × (deed.len ≡ len) × (deed.alloc ≡ alloc)
