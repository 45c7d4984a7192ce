-- What a clause sees of a pool of equal buffers and of a lease of one, and what each call makes of the pool.
use Rattle.std.specs.Prelude.{◌≡◌, ◌<◌, ◌≤◌, ℕ, Bool, true, false, not, List, [], length, get_or, slice_set, replicate, count_by}
use Rattle.std.specs.List.{refill}

-- a pool: its tag, the bytes of one buffer, what each slot's buffer holds, and which slots are out
pub record Buffers : Type 0 where
  pub tag : ℕ
  pub size : ℕ
  pub slots : List (List ℕ)
  pub out : List Bool

-- how many bytes a buffer may have
abbrev pub IsSize : ℕ → Type 0
IsSize bytes = (16384 ≤ bytes) × (bytes ≤ 4194304)

-- a lease: the tag of its pool, and its slot
pub record Held : Type 0 where
  pub tag : ℕ
  pub slot : ℕ

-- what the buffer of a slot holds
abbrev pub bytes_at : Buffers → ℕ → List ℕ
bytes_at p slot = get_or p.slots slot []

-- the pool has that slot, and it is not out
pub record IsFree (p : Buffers) (slot : ℕ) : Type 0 where
  pub there : slot < length p.slots
  pub free : get_or p.out slot true ≡ false

-- how many buffers are not out
abbrev pub free_of : Buffers → ℕ
free_of p = count_by not p.out

-- the lease has the tag of the pool, which has its slot, and that is out
pub record IsLeaseOf (l : Held) (p : Buffers) : Type 0 where
  pub tag : l.tag ≡ p.tag
  pub there : l.slot < length p.slots
  pub out : get_or p.out l.slot false ≡ true

-- a pool of so many buffers of so many bytes, each byte 0, with none out
abbrev pub new_pool : ℕ → ℕ → ℕ → Buffers
new_pool tag count bytes = record { tag = tag; size = bytes; slots = replicate count (replicate bytes 0); out = replicate count false }

-- the pool with that slot out, or back, and all else as it was
abbrev pub taken : Buffers → ℕ → Buffers
taken p slot = record p { out = slice_set p.out slot true }

abbrev pub given : Buffers → ℕ → Buffers
given p slot = record p { out = slice_set p.out slot false }

-- the pool with these bytes in that slot's buffer, whose length stays, and all else as it was
abbrev pub with_bytes : Buffers → ℕ → List ℕ → Buffers
with_bytes p slot bytes = record p { slots = slice_set p.slots slot (refill p.size (bytes_at p slot) bytes) }
