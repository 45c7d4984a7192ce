-- The calls on a bench in memory, and what the devices read and may leave after them.
use Rattle.std.specs.Prelude.{◌≡◌, ◌⊎◌, ℕ, zero, suc, ◌+◌, ◌-◌, ◌≤◌, List, [], ◌∷◌, ◌++◌, length, map, replicate, nat_le, Bool, if◌then◌else◌, Option, None, Some}
use Rattle.bench.specs.declared.Dev.{Dev}
use Rattle.bench.specs.declared.Dev.TheVariants.{Target, Journal}
use Rattle.bench.specs.Disk.{Disk, Torn, Grown, After}
use Rattle.bench.specs.Meter.{Both, of_device}

-- what a call did to its device: it wrote bytes at a place, of which a stop now finds others; it grew it to a length;
-- it put all on the disk; it attached it under a name; or it did nothing
pub data Effect : Type 0 where
  Writes : ℕ → List ℕ → List ℕ → Effect
  Grows : ℕ → Effect
  Settles : Effect
  Names : List ℕ → Effect
  Rests : Effect

-- a call on a device
pub record Call : Type 0 where
  pub dev : Dev
  pub effect : Effect

-- what a call on one device did to this one
abbrev pub effect_on : Dev → Dev → Effect → Effect
effect_on Target Target effect = effect
effect_on Target Journal effect = Rests
effect_on Journal Target effect = Rests
effect_on Journal Journal effect = effect

-- bytes over those that stand from an offset on, and none past the end
abbrev pub over : List ℕ → ℕ → List ℕ → List ℕ
over [] at bytes = []
over (x ∷ old) (suc at) bytes = x ∷ over old at bytes
over (x ∷ old) zero [] = x ∷ old
over (x ∷ old) zero (b ∷ bytes) = b ∷ over old zero bytes

-- lengthened by zeros
abbrev pub lengthened : List ℕ → ℕ → List ℕ
lengthened old len = old ++ replicate (len - length old) 0

-- what a device reads after a call
abbrev pub read_after : Effect → List ℕ → List ℕ
read_after (Writes at bytes found) old = over old at bytes
read_after (Grows len) old = lengthened old len
read_after Settles old = old
read_after (Names name) old = old
read_after Rests old = old

-- the images of a device after a call, from what it read and the images that it had
abbrev pub images_after : Effect → List ℕ → (List ℕ → Type 0) → List ℕ → Type 0
images_after (Writes at bytes found) old images image = After (Torn at (length bytes)) images image
images_after (Grows len) old images image = After (Grown len) images image
images_after Settles old images image = image ≡ old
images_after (Names name) old images image = images image
images_after Rests old images image = images image

-- what a device reads after the calls, of which the latest stands first, from what both had at first
abbrev pub reads_of : Both (List ℕ) → List Call → Dev → List ℕ
reads_of first [] dev = of_device dev first
reads_of first (call ∷ calls) dev = read_after (effect_on call.dev dev call.effect) (reads_of first calls dev)

-- the images of a device after the calls
abbrev pub images_of : Both (List ℕ) → List Call → Dev → List ℕ → Type 0
images_of first [] dev image = image ≡ of_device dev first
images_of first (call ∷ calls) dev image = images_after (effect_on call.dev dev call.effect) (reads_of first calls dev) (images_of first calls dev) image

-- the pairs of images that a stop since a moment may have left: those after so many calls, or more
abbrev pub left_of : Both (List ℕ) → List Call → ℕ → List ℕ → List ℕ → Type 0
left_of first [] m t j = (m ≤ 0) × images_of first [] Target t × images_of first [] Journal j
left_of first (call ∷ calls) m t j = ((m ≤ length (call ∷ calls)) × images_of first (call ∷ calls) Target t × images_of first (call ∷ calls) Journal j) ⊎ left_of first calls m t j

-- what the devices read and may leave after the calls
abbrev pub disk_of : Both (List ℕ) → List Call → Disk
disk_of first calls = record { reads = reads_of first calls; leaves = images_of first calls; moment = length calls; left = left_of first calls }

-- the name that a call gave
abbrev pub named : Effect → Option (List ℕ) → Option (List ℕ)
named (Writes at bytes found) old = old
named (Grows len) old = old
named Settles old = old
named (Names name) old = Some name
named Rests old = old

-- the name of a device after the calls
abbrev pub name_after : List Call → Dev → Option (List ℕ)
name_after [] dev = None
name_after (call ∷ calls) dev = named (effect_on call.dev dev call.effect) (name_after calls dev)

-- the record of calls: the calls themselves, the room that they have used, and all the room
pub record Log : Type 0 where
  pub calls : List Call
  pub used : ℕ
  pub room : ℕ

-- the record with one more call, which used so much of the room
abbrev pub logged : Log → Call → ℕ → Log
logged log call cost = record { calls = call ∷ log.calls; used = log.used + cost; room = log.room }

-- nothing was recorded, or that a call on a device did nothing, with so many bytes
abbrev pub Rested : Dev → ℕ → Log → Log → Type 0
Rested dev bytes old new = (new ≡ old) ⊎ (new ≡ logged old (record { dev = dev; effect = Rests }) (32 + bytes))

-- What a failed call with so many bytes leaves of the record, where the work was that: it took its room as if it had
-- passed, and nothing where there was none.
abbrev pub rested : Dev → ℕ → ℕ → Log → Log
rested dev bytes work old = if nat_le (work + 32 + bytes) old.room then logged old (record { dev = dev; effect = Rests }) (32 + bytes) else old

-- the work of a bench: the room that is used, or one more than the room, where a call would have passed it
abbrev pub work_of : Bool → Log → ℕ
work_of past log = if past then log.room + 1 else log.used

-- a call as the devices read it, whatever a stop finds of what it wrote
abbrev pub effect_as_read : Effect → Effect
effect_as_read (Writes at bytes found) = Writes at bytes bytes
effect_as_read (Grows len) = Grows len
effect_as_read Settles = Settles
effect_as_read (Names name) = Names name
effect_as_read Rests = Rests

abbrev pub as_read : Call → Call
as_read call = record { dev = call.dev; effect = effect_as_read call.effect }

-- the records differ in what a stop finds of writes alone
pub record ReadsAlike (old new : Log) : Type 0 where
  pub calls : map as_read new.calls ≡ map as_read old.calls
  pub used : new.used ≡ old.used
  pub room : new.room ≡ old.room
