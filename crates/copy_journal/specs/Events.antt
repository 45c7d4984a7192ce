-- Which images the calls on a copy's journal leave, and what they find.
use Rattle.std.specs.Prelude.{◌≡◌, ◌≢◌, ◌⊎◌, ℕ, ◌+◌, ◌≤◌, ◌<◌, List, Option, MatchOption, length, map, take, drop, slice_index, Contains}
use Rattle.bench.specs.declared.Dev.TheVariants.{Journal}
use Rattle.bench.specs.Disk.{Disk}
use Rattle.journal_format.specs.JobFields.{fields_of}
use Rattle.journal_format.specs.Journals.{HasNoMark, HasZeroMarks, IsHeld, IsMarked, IsOpenedFor, fields_in, magic_2, unit_mark, window_of}
use Rattle.journal_format.specs.declared.jobs.JobId.{JobId}
use Rattle.copy_journal.specs.declared.looking.Found.{Found}
use Rattle.copy_journal.specs.declared.marks.Marks.{Marks}

-- each image of the journal that a stop now may leave has P
abbrev pub EachImage : Disk → (List ℕ → Type 0) → Type 0
EachImage disk P = (image : List ℕ) → disk.leaves Journal image → P image

-- the place is that of one of these units' marks
abbrev pub IsMarkOf : List ℕ → ℕ → Type 0
IsMarkOf ks place = Contains (map unit_mark ks) place

-- the journal isn't held, or is opened for the job with no mark
abbrev pub IsClosedOrNew : JobId → List ℕ → Type 0
IsClosedOrNew id j = ¬ IsHeld j ⊎ (IsOpenedFor id j × HasNoMark id j)

-- while a journal is opened anew: an image is one from before, or it isn't held, or is opened with no mark
abbrev pub IsOpening : JobId → Disk → List ℕ → Type 0
IsOpening id old j = old.leaves Journal j ⊎ IsClosedOrNew id j

-- while a journal is forgotten: an image is one from before, or isn't held
abbrev pub IsForgetting : Disk → List ℕ → Type 0
IsForgetting old j = old.leaves Journal j ⊎ ¬ IsHeld j

-- a journal that was opened anew: each of its marks is zero
pub record IsNew (id : JobId) (w : ℕ) (j : List ℕ) : Type 0 where
  pub opened : IsOpenedFor id j
  pub window : window_of j ≡ w
  pub marks : HasZeroMarks id j

-- the same but for its gate, which may be any byte
pub record IsReady (id : JobId) (w : ℕ) (j : List ℕ) : Type 0 where
  pub long : 80 + id.units + id.ranges ≤ length j
  pub magic : take 8 j ≡ magic_2
  pub window : slice_index j 9 ≡ w
  pub fields : fields_in j ≡ fields_of id
  pub marks : HasZeroMarks id j

-- the byte of the gate is the same
abbrev pub SameGate : List ℕ → List ℕ → Type 0
SameGate old new = slice_index new 8 ≡ slice_index old 8

-- n bytes from a place on are zero
abbrev pub AreZero : ℕ → ℕ → List ℕ → Type 0
AreZero at n j = (k : ℕ) → at ≤ k → k < at + n → slice_index j k ≡ 0

-- these are the marks of a journal, and its window
pub record AreMarks (id : JobId) (j : List ℕ) (marks : Marks) : Type 0 where
  pub units : marks.units ≡ take id.units (drop 80 j)
  pub ranges : marks.ranges ≡ take id.ranges (drop (80 + id.units) j)
  pub window : marks.window ≡ window_of j

-- n marks from a place on are all recorded
abbrev pub AreMarked : ℕ → ℕ → List ℕ → Type 0
AreMarked at n j = (k : ℕ) → at ≤ k → k < at + n → IsMarked j k

-- what is found of a held journal of so many bytes
pub record IsFound (len : ℕ) (j : List ℕ) (found : Found) : Type 0 where
  pub held : IsHeld j
  pub long : found.length ≡ len
  pub window : found.held.window ≡ window_of j
  pub fields : found.held.fields ≡ fields_in j

-- what a journal of so many bytes tells: nothing exactly where it isn't held
abbrev pub Tells : ℕ → List ℕ → Option Found → Type 0
Tells len j found = MatchOption found (¬ IsHeld j) (IsFound len j)

-- the gate isn't open, or there is no byte for it
abbrev pub IsShut : List ℕ → Type 0
IsShut j = slice_index j 8 ≢ 0x47
