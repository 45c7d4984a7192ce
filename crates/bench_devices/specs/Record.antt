-- How the calls on a bench in memory are recorded.
use Rattle.std.specs.Prelude.{◌≡◌, ℕ, ◌+◌, ◌*◌, ◌≤◌, List, Option, None, Some, All, AllPairs, length, map, reverse, take, drop, slice_set, Vec, vec_capacity}
use Rattle.std.specs.Global.{Global}
use Rattle.bench_devices.specs.declared.record.Entry.{Entry}
use Rattle.bench_devices.specs.declared.record.Kind.{Kind}
use Rattle.bench_devices.specs.declared.record.Kind.TheVariants.{Wrote, Grew, Synced, Attached, Rested}
use Rattle.bench_devices.specs.History.{Effect, Writes, Grows, Settles, Names, Rests, Call}

-- what a call of a kind did, at a place or to a length, with these bytes, of which a stop finds those
abbrev pub effect_of : Kind → ℕ → List ℕ → List ℕ → Effect
effect_of Wrote at bytes found = Writes at bytes found
effect_of Grew at bytes found = Grows at
effect_of Synced at bytes found = Settles
effect_of Attached at bytes found = Names bytes
effect_of Rested at bytes found = Rests

-- the call of an entry, whose bytes stand among those of all calls
abbrev pub call_of : List ℕ → List ℕ → Entry → Call
call_of bytes found entry = record { dev = entry.dev; effect = effect_of entry.kind entry.at (take entry.len (drop entry.from bytes)) (take entry.len (drop entry.from found)) }

-- the calls of all entries, the latest first
abbrev pub calls_of : List ℕ → List ℕ → List Entry → List Call
calls_of bytes found entries = reverse (map (call_of bytes found) entries)

-- an entry's bytes are there
abbrev pub IsWithin : ℕ → Entry → Type 0
IsWithin size entry = entry.from + entry.len ≤ size

-- an entry's bytes stand before another's
abbrev pub StandsBefore : Entry → Entry → Type 0
StandsBefore one later = one.from + one.len ≤ later.from

-- the bytes of all calls with this one at a place among them, where there is one
abbrev pub put_at : Option ℕ → ℕ → List ℕ → List ℕ
put_at None byte all = all
put_at (Some place) byte all = slice_set all place byte

-- the entries and their bytes fit the room that they have used, and all the room was taken
pub record IsRecorded (entries : Vec Entry Global) (bytes found : Vec ℕ Global) (used room : ℕ) : Type 0 where
  pub within : All (IsWithin (length bytes.items)) entries.items
  pub apart : AllPairs StandsBefore entries.items
  pub found_too : length found.items ≡ length bytes.items
  pub fits : 32 * length entries.items + length bytes.items ≤ used
  pub used_room : used ≤ room
  pub entries_room : room ≤ 32 * vec_capacity entries + 31
  pub bytes_room : room ≤ vec_capacity bytes
  pub found_room : room ≤ vec_capacity found
