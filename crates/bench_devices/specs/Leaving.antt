-- What a stop leaves of a bench in memory: which pending calls there are, and the image where some of them are kept.
use Rattle.std.specs.Prelude.{ℕ, ◌+◌, List, [], ◌∷◌, length, take, max, min, nat_le, nat_lt, Bool, true, false, ◌&&◌, ◌||◌, ◌-◌, if◌then◌else◌, slice_index_or, slice_set}
use Rattle.bench.specs.declared.Dev.{Dev}
use Rattle.bench.specs.declared.Dev.TheVariants.{Target, Journal}
use Rattle.bench_devices.specs.History.{Effect, Writes, Grows, Settles, Names, Rests, Call, effect_on, over, lengthened, reads_of}
use Rattle.bench.specs.Meter.{Both, of_device}

-- how many calls there were up to the last that put all of a device on its disk
abbrev pub settled_from : Effect → ℕ → ℕ → ℕ
settled_from Settles now before = now
settled_from (Writes at bytes found) now before = before
settled_from (Grows len) now before = before
settled_from (Names name) now before = before
settled_from Rests now before = before

abbrev pub settled_of : List Call → Dev → ℕ
settled_of [] dev = 0
settled_of (call ∷ calls) dev = settled_from (effect_on call.dev dev call.effect) (length calls + 1) (settled_of calls dev)

-- for both devices
abbrev pub settled_both : List Call → Both ℕ
settled_both calls = record { target = settled_of calls Target; journal = settled_of calls Journal }

-- a write, or a growth
abbrev pub changes : Effect → Bool
changes (Writes at bytes found) = true
changes (Grows len) = true
changes Settles = false
changes (Names name) = false
changes Rests = false

-- whether the call behind these is pending: it changed its device, which no call has put on the disk since
abbrev pub is_pending : Both ℕ → Call → List Call → Bool
is_pending settled call calls = changes call.effect && nat_le (of_device call.dev settled) (length calls)

-- how many of the calls are pending
abbrev pub pending_of : Both ℕ → List Call → ℕ
pending_of settled [] = 0
pending_of settled (call ∷ calls) = if is_pending settled call calls then pending_of settled calls + 1 else pending_of settled calls

-- whether a call wrote at a place
abbrev pub wrote_at : Effect → ℕ → Bool
wrote_at (Writes from bytes found) at = nat_le from at && nat_lt at (from + length bytes)
wrote_at (Grows len) at = false
wrote_at Settles at = false
wrote_at (Names name) at = false
wrote_at Rests at = false

-- whether a place of a device lies in a pending write
abbrev pub is_pending_at : Both ℕ → Dev → ℕ → List Call → Bool
is_pending_at settled dev at [] = false
is_pending_at settled dev at (call ∷ calls) = (is_pending settled call calls && wrote_at (effect_on call.dev dev call.effect) at) || is_pending_at settled dev at calls

-- a write, found by a stop with this byte at a place of its device
abbrev pub torn_effect : Effect → ℕ → ℕ → Effect
torn_effect (Writes from bytes found) at byte = Writes from bytes (slice_set found (at - from) byte)
torn_effect (Grows len) at byte = Grows len
torn_effect Settles at byte = Settles
torn_effect (Names name) at byte = Names name
torn_effect Rests at byte = Rests

-- the calls, where the last pending write that covers a place of a device is found with this byte there
abbrev pub torn_calls : Both ℕ → Dev → ℕ → ℕ → List Call → List Call
torn_calls settled dev at byte [] = []
torn_calls settled dev at byte (call ∷ calls) =
    if is_pending settled call calls && wrote_at (effect_on call.dev dev call.effect) at
    then record { dev = call.dev; effect = torn_effect call.effect at byte } ∷ calls
    else call ∷ torn_calls settled dev at byte calls

-- whether the pending call behind these is kept: it is the one of a number that says so
abbrev pub is_kept : Both ℕ → List Bool → List Call → Bool
is_kept settled keep calls = slice_index_or keep (pending_of settled calls) false

-- the greatest length of a pending growth that is kept, and 0 where there is none
abbrev pub grown_to : Effect → Bool → ℕ → ℕ
grown_to (Grows len) kept most = if kept then max len most else most
grown_to (Writes at bytes found) kept most = most
grown_to Settles kept most = most
grown_to (Names name) kept most = most
grown_to Rests kept most = most

abbrev pub kept_length : Both ℕ → List Bool → List Call → ℕ
kept_length settled keep [] = 0
kept_length settled keep (call ∷ calls) = grown_to call.effect (is_pending settled call calls && is_kept settled keep calls) (kept_length settled keep calls)

-- One call more on an image: a write is there where it is kept, no more of it than was written and none of it past
-- the end; a growth as far as the length that is kept; and what was put on the disk is there as it reads.
abbrev pub image_after : Bool → ℕ → Effect → List ℕ → List ℕ → List ℕ
image_after kept most (Writes at bytes found) old image = if kept then over image at (take (length bytes) found) else image
image_after kept most (Grows len) old image = lengthened image (min len most)
image_after kept most Settles old image = old
image_after kept most (Names name) old image = image
image_after kept most Rests old image = image

-- the image of a device where some pending calls are kept
abbrev pub image_of : Both (List ℕ) → Both ℕ → List Bool → ℕ → Dev → List Call → List ℕ
image_of first settled keep most dev [] = of_device dev first
image_of first settled keep most dev (call ∷ calls) = image_after (is_kept settled keep calls) most (effect_on call.dev dev call.effect) (reads_of first calls dev) (image_of first settled keep most dev calls)

-- the image of a device where the pending calls are kept whose number says so
abbrev pub kept_image : Both (List ℕ) → List Bool → List Call → Dev → List ℕ
kept_image first keep calls dev = image_of first (settled_both calls) keep (kept_length (settled_both calls) keep calls) dev calls
