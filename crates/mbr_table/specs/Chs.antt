-- Where a sector lies on a disk of 255 heads and 63 sectors a track (16065 = 255 * 63 sectors a cylinder).
use Rattle.std.specs.Prelude.{ℕ, ◌+◌, ◌*◌, ◌/◌, ◌%◌, List, [], ◌∷◌, nat_lt, if◌then◌else◌}

-- the cylinder and the head from 0, and the sector in the track from 1
pub record Address : Type 0 where
  pub cylinder : ℕ
  pub head : ℕ
  pub sector : ℕ

-- what stands for each sector past cylinder 1023, in bytes FE FF FF
abbrev pub farthest : Address
farthest = record { cylinder = 1023; head = 254; sector = 63 }

-- what stands where there is no sector, in bytes 00 00 00
abbrev pub nowhere : Address
nowhere = record { cylinder = 0; head = 0; sector = 0 }

-- the address of the sector number n of the disk, from 0
abbrev pub address_of : ℕ → Address
address_of n =
    if nat_lt 1023 (n / 16065) then farthest
    else record { cylinder = n / 16065; head = n / 63 % 255; sector = n % 63 + 1 }

-- the head; the sector and above it bits 8 and 9 of the cylinder; the cylinder's low eight bits
abbrev pub chs_bytes : Address → List ℕ
chs_bytes a = a.head ∷ (a.sector + 64 * (a.cylinder / 256)) ∷ (a.cylinder % 256) ∷ []
