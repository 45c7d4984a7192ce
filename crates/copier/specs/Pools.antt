-- What a copier does to the pool of its buffer.
use Rattle.std.specs.Prelude.{◌≡◌, ◌≢◌, ℕ, ◌≤◌, length, Result, Ok, Err}
use Rattle.region_pool.specs.Buffers.{Buffers, IsFree, IsLeaseOf, bytes_at, taken}
use Rattle.copier.specs.Copiers.{Copying}
use Rattle.copier.specs.declared.faults.CopyFault.{CopyFault}

-- the copier's lease is out in this pool, whose buffers have room for a unit
pub record HasBuffer (c : Copying) (p : Buffers) : Type 0 where
  pub lease : IsLeaseOf c.lease p
  pub room : c.job.id.unit ≤ p.size

-- only this slot's bytes may differ, and the same slots are out
pub record UsesSlot (slot : ℕ) (old new : Buffers) : Type 0 where
  pub same : new ≡ record old { slots = new.slots }
  pub as_many : length new.slots ≡ length old.slots
  pub others : (other : ℕ) → other ≢ slot → bytes_at new other ≡ bytes_at old other

-- a free buffer was taken, and no byte of the pool has changed
pub record Takes (c : Copying) (old new : Buffers) : Type 0 where
  pub free : IsFree old c.lease.slot
  pub pool : new ≡ taken old c.lease.slot
  pub buffer : HasBuffer c new

-- a copier that was opened has taken its buffer; after a refusal the pool is as it was
abbrev pub OpensPool : Buffers → Buffers → Result Copying CopyFault → Type 0
OpensPool old new (Ok copier) = Takes copier old new
OpensPool old new (Err fault) = new ≡ old
