-- Which calls on a bench in memory fail, and what it has recorded.
use Rattle.std.specs.Prelude.{◌≡◌, ◌≢◌, ◌+◌, ◌<◌, ◌≤◌, Contains, ℕ, List, [], Bool, Option, None, Some, true, IsTrue}
use Rattle.bench_devices.specs.declared.mem_bench.MemBench.{MemBench}
use Rattle.bench.specs.declared.Dev.{Dev}
use Rattle.outside.specs.Calls.{Calls, IsNext, more, one_less}
use Rattle.bench.specs.Disk.{Disk}
use Rattle.bench_devices.specs.History.{Effect, Log, disk_of, logged, rested}
use Rattle.bench_devices.specs.Leaving.{is_pending_at, kept_image, pending_of, settled_both, torn_calls}
use Rattle.bench_devices.specs.MemBench.{meter_of}
use Rattle.bench.specs.Meter.{Both, Meter, of_device}

-- the number of the next call, and those of the calls that fail
abbrev pub calls_of : MemBench → Calls
calls_of bench = bench.gate.failures

-- how many more calls pass, where that was said
abbrev pub passing_of : MemBench → Option ℕ
passing_of bench = bench.gate.passing

-- what both devices had at first, and the calls since, which say what they read and may leave
pub record Story : Type 0 where
  pub first : Both (List ℕ)
  pub log : Log

abbrev pub story_of : MemBench → Story
story_of bench = record { first = record { target = bench.first_target.items; journal = bench.first_journal.items }; log = bench.log }

-- the story of two devices that no call has met
abbrev pub untouched : List ℕ → List ℕ → ℕ → Story
untouched target journal room = record { first = record { target = target; journal = journal }; log = record { calls = []; used = 0; room = room } }

-- the story with one more call of a device, which used so much of the room
abbrev pub story_after : Story → Dev → Effect → ℕ → Story
story_after story dev effect cost = record story { log = logged story.log (record { dev = dev; effect = effect }) cost }

-- what is counted before any call
abbrev pub uncounted : ℕ → Meter
uncounted room = record {
  faults = record { target = 0; journal = 0 };
  work = 0;
  attached = record { target = true; journal = true };
  name = record { target = None; journal = None };
  room = Some room;
  sure = true;
}

-- the image of a device where the pending calls are kept whose number says so
abbrev pub kept_of : Story → List Bool → Dev → List ℕ
kept_of story keep dev = kept_image story.first keep story.log.calls dev

-- how many calls are pending
abbrev pub pending_in : Story → ℕ
pending_in story = pending_of (settled_both story.log.calls) story.log.calls

-- a place of a device lies in a pending write
abbrev pub IsPendingAt : Story → Dev → ℕ → Type 0
IsPendingAt story dev at = IsTrue (is_pending_at (settled_both story.log.calls) dev at story.log.calls)

-- the story where the last pending write that covers a place of a device is found with this byte there
abbrev pub torn_story : Story → Dev → ℕ → ℕ → Story
torn_story story dev at byte = record story { log = record story.log { calls = torn_calls (settled_both story.log.calls) dev at byte story.log.calls } }

-- what the devices read and may leave, and what is counted
abbrev pub disk_in : MemBench → Disk
disk_in bench = disk_of (story_of bench).first (story_of bench).log.calls

abbrev pub meter_in : MemBench → Meter
meter_in bench = meter_of bench.gate bench.log

-- a call with so many bytes passes: its number isn't listed, the calls that pass are not used up, and it has room
abbrev pub Passes : MemBench → ℕ → Type 0
Passes bench bytes = (¬ Contains (calls_of bench).failing (calls_of bench).next) × (passing_of bench ≢ Some 0) × ((meter_in bench).work + 32 + bytes ≤ (story_of bench).log.room)

-- A call with so many bytes, failed or not, takes its number and is one of those that pass; and where it has no room,
-- the work is the room and 1 from then on.
pub record TakesCall (bytes : ℕ) (old new : MemBench) : Type 0 where
  pub next : IsNext (calls_of old) (calls_of new)
  pub passing : passing_of new ≡ one_less (passing_of old)
  pub first : (story_of new).first ≡ (story_of old).first
  pub past : (story_of old).log.room < (meter_in old).work + 32 + bytes → (meter_in new).work ≡ (story_of old).log.room + 1

-- A call of a device with so many bytes that fails: it is counted once, and takes its room as if it had passed, or
-- nothing where there is none.
pub record FailsOnce (dev : Dev) (bytes : ℕ) (old new : MemBench) : Type 0 where
  pub fault : of_device dev (meter_in new).faults ≡ more (of_device dev (meter_in old).faults)
  pub log : (story_of new).log ≡ rested dev bytes (meter_in old).work (story_of old).log
