-- What a bench counts, and what its calls cost.
use Rattle.std.specs.Prelude.{◌≡◌, ℕ, ◌+◌, ◌≤◌, List, Bool, Option, Some, IsTrue}
use Rattle.std.specs.Option.{ForSome}
use Rattle.bench.specs.declared.Dev.{Dev}
use Rattle.bench.specs.Disk.{other_of, part_of}

-- one of each device
pub record Both (A : Type 0) : Type 0 where
  pub target : A
  pub journal : A

-- that of a device
abbrev pub of_device : {A : Type 0} → Dev → Both A → A
of_device dev both = part_of dev both.target both.journal

-- The faults of each device; the work; whether each device is attached, and under which name, where it has one; the
-- room, where there is one; and whether the bench is sure.
pub record Meter : Type 0 where
  pub faults : Both ℕ
  pub work : ℕ
  pub attached : Both Bool
  pub name : Both (Option (List ℕ))
  pub room : Option ℕ
  pub sure : Bool

-- the device is attached
abbrev pub IsAttached : Meter → Dev → Type 0
IsAttached meter dev = IsTrue (of_device dev meter.attached)

-- the device has no name or this one
abbrev pub HasNoOther : Meter → Dev → List ℕ → Type 0
HasNoOther meter dev name = ForSome (of_device dev meter.name) (λ present. present ≡ name)

-- a sure bench with a room and a work not above it has counted no fault
abbrev pub FailsPastRoom : Meter → Type 0
FailsPastRoom meter = IsTrue meter.sure → ForSome meter.room (λ room. meter.work ≤ room → meter.faults ≡ record { target = 0; journal = 0 })

-- what calls cost: so much work at most, and no count falls; the room stays, and whether the bench is sure
pub record Costs (most : ℕ) (old new : Meter) : Type 0 where
  pub target : old.faults.target ≤ new.faults.target
  pub journal : old.faults.journal ≤ new.faults.journal
  pub no_less : old.work ≤ new.work
  pub work : new.work ≤ old.work + most
  pub room : new.room ≡ old.room
  pub sure : new.sure ≡ old.sure

-- what calls on one device cost: the other's faults stay
pub record CostsOn (dev : Dev) (most : ℕ) (old new : Meter) : Type 0 where
  pub none_fell : of_device dev old.faults ≤ of_device dev new.faults
  pub other : of_device (other_of dev) new.faults ≡ of_device (other_of dev) old.faults
  pub no_less : old.work ≤ new.work
  pub work : new.work ≤ old.work + most
  pub room : new.room ≡ old.room
  pub sure : new.sure ≡ old.sure

-- each device is attached as before, under its name
pub record SameNames (old new : Meter) : Type 0 where
  pub attached : new.attached ≡ old.attached
  pub name : new.name ≡ old.name

-- the device is attached under this name, and the other is as before
pub record Attaches (dev : Dev) (given : List ℕ) (old new : Meter) : Type 0 where
  pub attached : IsAttached new dev
  pub name : of_device dev new.name ≡ Some given
  pub other_attached : of_device (other_of dev) new.attached ≡ of_device (other_of dev) old.attached
  pub other_name : of_device (other_of dev) new.name ≡ of_device (other_of dev) old.name

-- one call on a device: 32 of work at most, and so much more; the other device's faults stay
pub record Bills (dev : Dev) (more : ℕ) (old new : Meter) : Type 0 where
  pub none_fell : of_device dev old.faults ≤ of_device dev new.faults
  pub other : of_device (other_of dev) new.faults ≡ of_device (other_of dev) old.faults
  pub no_less : old.work ≤ new.work
  pub work : new.work ≤ old.work + 32 + more
  pub room : new.room ≡ old.room
  pub sure : new.sure ≡ old.sure
