-- What a bench tells of its two devices, and how a stop may leave them. A stop falls before, within or after a call.
use Rattle.std.specs.Prelude.{◌≡◌, ◌⊎◌, ℕ, ◌+◌, ◌<◌, ◌≤◌, List, [], length, max, slice_index}
use Rattle.bench.specs.declared.Dev.{Dev}
use Rattle.bench.specs.declared.Dev.TheVariants.{Target, Journal}

-- the device that isn't this one
abbrev pub other_of : Dev → Dev
other_of Target = Journal
other_of Journal = Target

-- a device's part, of a part for the target and one for the journal
abbrev pub part_of : {A : Type 0} → Dev → A → A → A
part_of Target t j = t
part_of Journal t j = j

-- What each device reads; the images that a stop now may leave of it; the moment, a number that doesn't fall; and
-- the pairs of images, of the target and of the journal, that a stop from a moment on may have left.
pub record Disk : Type 1 where
  pub reads : Dev → List ℕ
  pub leaves : Dev → List ℕ → Type 0
  pub moment : ℕ
  pub left : ℕ → List ℕ → List ℕ → Type 0

-- of devices that are not known nothing is said
abbrev pub untold : Disk
untold = record { reads = λ dev. []; leaves = λ dev image. ⊥; moment = 0; left = λ m t j. ⊥ }

-- a stop now may leave this pair: an image of the target and one of the journal
abbrev pub IsPair : Disk → List ℕ → List ℕ → Type 0
IsPair disk t j = disk.leaves Target t × disk.leaves Journal j

-- each pair that a stop now may leave has P
abbrev pub EachPair : Disk → (List ℕ → List ℕ → Type 0) → Type 0
EachPair disk P = (t j : List ℕ) → IsPair disk t j → P t j

-- each pair that a stop since a moment may have left has P
abbrev pub EachSince : ℕ → Disk → (List ℕ → List ℕ → Type 0) → Type 0
EachSince m disk P = (t j : List ℕ) → disk.left m t j → P t j

-- the device's only image is what it reads
abbrev pub IsSettled : Disk → Dev → Type 0
IsSettled disk dev = (image : List ℕ) → disk.leaves dev image → image ≡ disk.reads dev

-- each image that the device could have is one that it still can have
abbrev pub StillLeaves : Dev → Disk → Disk → Type 0
StillLeaves dev old new = (image : List ℕ) → old.leaves dev image → new.leaves dev image

-- n bytes at an offset are any, and all else is the same
pub record Torn (at n : ℕ) (old new : List ℕ) : Type 0 where
  pub size : length new ≡ length old
  pub below : (k : ℕ) → k < at → slice_index new k ≡ slice_index old k
  pub above : (k : ℕ) → at + n ≤ k → slice_index new k ≡ slice_index old k

-- the bytes at places of a set are any, and all else is the same
pub record TornAt (places : ℕ → Type 0) (old new : List ℕ) : Type 0 where
  pub size : length new ≡ length old
  pub same : (k : ℕ) → ¬ places k → slice_index new k ≡ slice_index old k

-- grown to a length up to len, by zeros: past its end a list counts as zeros
pub record Grown (len : ℕ) (old new : List ℕ) : Type 0 where
  pub no_shorter : length old ≤ length new
  pub no_longer : length new ≤ max len (length old)
  pub same : (k : ℕ) → slice_index new k ≡ slice_index old k

-- a step leads to this image from one of those
abbrev pub After : (List ℕ → List ℕ → Type 0) → (List ℕ → Type 0) → List ℕ → Type 0
After step images new = (old : List ℕ) × (images old × step old new)

-- a stop since a moment, or since any before it, may have left the pair
abbrev pub IsLeftSince : ℕ → Disk → List ℕ → List ℕ → Type 0
IsLeftSince m disk t j = (n : ℕ) → n ≤ m → disk.left n t j

-- Time goes on: a pair that a stop since an earlier moment may have left was so before, or it has P and a stop since then
-- may have left it; and none that was so before is forgotten.
pub record Elapses (old new : Disk) (P : List ℕ → List ℕ → Type 0) : Type 0 where
  pub later : old.moment ≤ new.moment
  pub since : (m : ℕ) (t j : List ℕ) → m ≤ old.moment → new.left m t j → old.left m t j ⊎ (P t j × IsLeftSince old.moment new t j)
  pub kept : (m : ℕ) (t j : List ℕ) → m ≤ old.moment → old.left m t j → new.left m t j

-- nothing was written: all reads as before, each image is one from before, and so is each pair since
pub record Looked (old new : Disk) : Type 0 where
  pub reads : new.reads ≡ old.reads
  pub images : (dev : Dev) (image : List ℕ) → new.leaves dev image → old.leaves dev image
  pub time : Elapses old new (IsPair old)

-- a pair of an image of this device that has P, and one that the other could have
abbrev pub Joins : Dev → (List ℕ → Type 0) → Disk → List ℕ → List ℕ → Type 0
Joins dev P old t j = P (part_of dev t j) × old.leaves (other_of dev) (part_of (other_of dev) t j)

-- One device alone may have changed: each image of it has P, now and since. The other reads as before, and has the
-- images that it had.
pub record Changes (dev : Dev) (P : List ℕ → Type 0) (old new : Disk) : Type 0 where
  pub images : (image : List ℕ) → new.leaves dev image → P image
  pub other_reads : new.reads (other_of dev) ≡ old.reads (other_of dev)
  pub other_images : (image : List ℕ) → new.leaves (other_of dev) image → old.leaves (other_of dev) image
  pub other_stays : StillLeaves (other_of dev) old new
  pub time : Elapses old new (Joins dev P old)

-- one device took a step: so what it reads, and each image of it, now and since
pub record Steps (dev : Dev) (step : List ℕ → List ℕ → Type 0) (old new : Disk) : Type 0 where
  pub reads : step (old.reads dev) (new.reads dev)
  pub changes : Changes dev (After step (old.leaves dev)) old new

-- n bytes of one device may have changed
abbrev pub Touches : Dev → ℕ → ℕ → Disk → Disk → Type 0
Touches dev at n = Steps dev (Torn at n)

-- the journal may have grown to a length up to len
abbrev pub Grows : ℕ → Disk → Disk → Type 0
Grows len = Steps Journal (Grown len)

-- only the journal may have changed: each image of it has J, now and since
abbrev pub Moves : (List ℕ → Type 0) → Disk → Disk → Type 0
Moves J = Changes Journal J

-- each pair that a stop now may leave has P, and so has each since
pub record Runs (old new : Disk) (P : List ℕ → List ℕ → Type 0) : Type 0 where
  pub now : EachPair new P
  pub time : Elapses old new P

-- where each pair at the start has P, so has each since
abbrev pub Keeps : (List ℕ → List ℕ → Type 0) → Disk → Disk → Type 0
Keeps P old new = EachPair old P → Runs old new P

-- Up to some moment a stop left a pair of those at the start, and from then on each pair that a stop may have left has P.
pub record FromThenOn (P : List ℕ → List ℕ → Type 0) (old new : Disk) : Type 0 where
  pub moment : ℕ
  pub later : old.moment ≤ moment
  pub passed : moment ≤ new.moment
  pub before : EachSince old.moment new (λ t j. IsPair old t j ⊎ new.left moment t j)
  pub after : EachSince moment new P
