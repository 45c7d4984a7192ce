-- The journal of a copy, over one image of it. Numbers are little-endian.
--
--   at  field
--    0  GFJRNL02; GFJRNL01 is read, too
--    8  the gate: 0x47 is open, any other byte is closed
--    9  the window, 1 to 16; without meaning behind GFJRNL01
--   10  6 zero bytes
--   16  SHA-256 of the block map's file
--   48  the image's size, u64
--   56  the size of a block, u32
--   60  the size of a unit, u32
--   64  the number of units, u64
--   72  the number of ranges, u64
--   80  one byte for each unit, then one for each range: 0x44 is recorded, any other byte isn't
--
-- What stands behind the marks has no meaning.
use Rattle.std.specs.Prelude.{◌≡◌, ◌⊎◌, ℕ, ◌+◌, ◌<◌, ◌≤◌, List, take, drop, length, slice_index, codes, nat_eq, if◌then◌else◌}
use Rattle.std.specs.List.{starts_with}
use Rattle.base_fields.specs.Numbers.{IsBetween}
use Rattle.journal_format.specs.JobFields.{fields_of}
use Rattle.journal_format.specs.declared.jobs.JobId.{JobId}

-- the magic of each version
unfoldable pub magic_1 : List ℕ
magic_1 = codes "GFJRNL01"

unfoldable pub magic_2 : List ℕ
magic_2 = codes "GFJRNL02"

-- a window
abbrev pub IsWindow : ℕ → Type 0
IsWindow w = IsBetween 1 16 w

-- the image has the first version's magic, or the second's and a window
abbrev pub HasVersion : List ℕ → Type 0
HasVersion j = (take 8 j ≡ magic_1) ⊎ ((take 8 j ≡ magic_2) × IsWindow (slice_index j 9))

-- the journal is held
pub record IsHeld (j : List ℕ) : Type 0 where
  pub long : 80 ≤ length j
  pub gate : slice_index j 8 ≡ 0x47
  pub version : HasVersion j

-- the window of a journal that is held
abbrev pub window_of : List ℕ → ℕ
window_of j = if starts_with nat_eq j magic_1 then 1 else slice_index j 9

-- the bytes that tell the job
abbrev pub fields_in : List ℕ → List ℕ
fields_in j = take 64 (drop 16 j)

-- the journal is opened for a job
pub record IsOpenedFor (id : JobId) (j : List ℕ) : Type 0 where
  pub held : IsHeld j
  pub fields : fields_in j ≡ fields_of id
  pub long : 80 + id.units + id.ranges ≤ length j

-- where the mark of a unit stands, and where that of a range
abbrev pub unit_mark : ℕ → ℕ
unit_mark k = 80 + k

abbrev pub range_mark : JobId → ℕ → ℕ
range_mark id r = 80 + id.units + r

-- a mark that is recorded
abbrev pub IsMarked : List ℕ → ℕ → Type 0
IsMarked j mark = slice_index j mark ≡ 0x44

-- what all marks of a job are: recorded; none recorded; zero
abbrev pub HasAllMarks : JobId → List ℕ → Type 0
HasAllMarks id j = (i : ℕ) → i < id.units + id.ranges → IsMarked j (80 + i)

abbrev pub HasNoMark : JobId → List ℕ → Type 0
HasNoMark id j = (i : ℕ) → i < id.units + id.ranges → ¬ IsMarked j (80 + i)

abbrev pub HasZeroMarks : JobId → List ℕ → Type 0
HasZeroMarks id j = (i : ℕ) → i < id.units + id.ranges → slice_index j (80 + i) ≡ 0
