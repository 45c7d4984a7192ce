-- What is wrong with the 92 bytes of a header of a GUID partition table (UEFI 2.10, section 5.3.2), where it stands at a
-- given LBA: its first field at fault, in the order of the table, and then its sum.
use Rattle.std.specs.Prelude.{◌≢◌, ℕ, ◌<◌, ◌==◌, Bool, ◌||◌, not, List, [], ◌∷◌, ◌++◌, Option, None, Some, if◌then◌else◌, take, drop, replicate}
use Rattle.base_fields.specs.Crc.{crc32_of}
use Rattle.base_fields.specs.Fields.{number_at}
use Rattle.table_reading.specs.Recognised.{image_of}
use Rattle.table_reading.specs.declared.header.HeaderFault.{HeaderFault}
use Rattle.table_reading.specs.declared.header.HeaderFault.TheVariants as fault

-- the number in so many bytes at an offset
abbrev pub said : List ℕ → ℕ → ℕ → ℕ
said head at width = number_at (image_of head) at width

-- the offset of a field, and whether it is as it has to be
pub record Demand : Type 0 where
  pub at : ℕ
  pub met : Bool

abbrev pub demand : ℕ → Bool → Demand
demand at met = record { at = at; met = met }

-- `EFI PART`, as a number with the lowest byte first
abbrev pub signature : ℕ
signature = 0x5452415020494645

-- a header says where it stands; a backup names the header in front; there are 128 entries of 128 bytes somewhere
abbrev pub demands : ℕ → Bool → List ℕ → List Demand
demands own is_backup head =
    demand 0 (said head 0 8 == signature)
    ∷ demand 8 (said head 8 4 == 0x00010000)
    ∷ demand 12 (said head 12 4 == 92)
    ∷ demand 20 (said head 20 4 == 0)
    ∷ demand 24 (said head 24 8 == own)
    ∷ demand 32 (not is_backup || (said head 32 8 == 1))
    ∷ demand 72 (not (said head 72 8 == 0))
    ∷ demand 80 (said head 80 4 == 128)
    ∷ demand 84 (said head 84 4 == 128)
    ∷ []

-- the offset of the first field that isn't as it has to be
abbrev pub first_unmet : List Demand → Option ℕ
first_unmet [] = None
first_unmet (d ∷ ds) = if d.met then first_unmet ds else Some d.at

-- the sum of the header with the sum's own field zero
abbrev pub sum_of : List ℕ → ℕ
sum_of head = crc32_of (take 16 head ++ (replicate 4 0 ++ drop 20 head))

abbrev pub bad_sum : ℕ → ℕ → Option HeaderFault
bad_sum stated computed = if stated == computed then None else Some (fault.Sum stated computed)

abbrev pub or_sum : Option ℕ → List ℕ → Option HeaderFault
or_sum (Some at) head = Some (fault.Field at)
or_sum None head = bad_sum (said head 16 4) (sum_of head)

-- what is wrong with a header that stands at the LBA `own`
abbrev pub fault_of : ℕ → Bool → List ℕ → Option HeaderFault
fault_of own is_backup head = or_sum (first_unmet (demands own is_backup head)) head

-- what is wrong is a field of the header, or two sums that differ
abbrev pub IsHeaderFault : HeaderFault → Type 0
IsHeaderFault (fault.Field at) = at < 92
IsHeaderFault (fault.Sum stated computed) = stated ≢ computed
