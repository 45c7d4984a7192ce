-- What a pool is after a use of it that gives back what it leased.
use Rattle.std.specs.Prelude.{◌≡◌, length}
use Rattle.region_pool.specs.Buffers.{Buffers, Held, IsLeaseOf, bytes_at}

-- the same slots are out; only the buffers of the other slots may hold other bytes
pub record IsGivenBack (old new : Buffers) : Type 0 where
  pub same : new ≡ record old { slots = new.slots }
  pub as_many : length new.slots ≡ length old.slots
  pub kept : (l : Held) → IsLeaseOf l old → bytes_at new l.slot ≡ bytes_at old l.slot
