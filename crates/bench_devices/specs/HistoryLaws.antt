-- What holds of devices after calls.
use Rattle.std.proofs.Common.{◌≡◌, ℕ, zero, suc, ◌+◌, ◌-◌, ◌<◌, ◌≤◌, List, [], ◌∷◌, ◌++◌, length, replicate, slice_index, inl, inr, refl, ap, Bool, true, false, Some, arith}
use Rattle.std.proofs.lemmas.Grind.{common_steps}
use Rattle.bench.specs.declared.Dev.{Dev}
use Rattle.bench.specs.Disk.{IsPair, Torn, Grown}
use Rattle.bench_devices.specs.History.{Effect, Writes, Grows, Settles, Names, Rests, Call, effect_on, over, lengthened, read_after, images_after, reads_of, images_of, left_of, disk_of, Log, work_of}
use Rattle.bench.specs.Meter.{Both}

-- bytes over others leave the length
pub length-over : (old : List ℕ) (at : ℕ) (bytes : List ℕ) → length (over old at bytes) ≡ length old
length-over [] at bytes = refl
length-over (x ∷ old) (suc at) bytes = ap suc (length-over old at bytes)
length-over (x ∷ old) zero [] = refl
length-over (x ∷ old) zero (b ∷ bytes) = ap suc (length-over old zero bytes)

-- and what stands before
pub over_below : (old : List ℕ) (at : ℕ) (bytes : List ℕ) (k : ℕ) → k < at → slice_index (over old at bytes) k ≡ slice_index old k
over_below [] at bytes k below = refl
over_below (x ∷ old) (suc at) bytes zero below = refl
over_below (x ∷ old) (suc at) bytes (suc k) below = over_below old at bytes k (omega arith)
over_below (x ∷ old) zero bytes k below = absurd (omega arith)

-- and what stands behind
pub over_above : (old : List ℕ) (at : ℕ) (bytes : List ℕ) (k : ℕ) → at + length bytes ≤ k → slice_index (over old at bytes) k ≡ slice_index old k
over_above [] at bytes k above = refl
over_above (x ∷ old) (suc at) bytes zero above = absurd (omega arith)
over_above (x ∷ old) (suc at) bytes (suc k) above = over_above old at bytes k (omega arith)
over_above (x ∷ old) zero [] k above = refl
over_above (x ∷ old) zero (b ∷ bytes) zero above = absurd (omega arith)
over_above (x ∷ old) zero (b ∷ bytes) (suc k) above = over_above old zero bytes k (omega arith)

-- so it is torn there
pub over_torn : (old : List ℕ) (at : ℕ) (bytes : List ℕ) → Torn at (length bytes) old (over old at bytes)
over_torn old at bytes = record { size = length-over old at bytes; below = over_below old at bytes; above = over_above old at bytes }

-- zeros read as what is past an end
pub zeros_read : (n k : ℕ) → slice_index (replicate n 0) k ≡ 0
zeros_read zero k = refl
zeros_read (suc n) zero = refl
zeros_read (suc n) (suc k) = zeros_read n k

pub zeros_behind : (old : List ℕ) (n k : ℕ) → slice_index (old ++ replicate n 0) k ≡ slice_index old k
zeros_behind [] n k = zeros_read n k
zeros_behind (x ∷ old) n zero = refl
zeros_behind (x ∷ old) n (suc k) = zeros_behind old n k

-- lengthened by zeros is grown
pub lengthened_grown : (old : List ℕ) (len : ℕ) → Grown len old (lengthened old len)
lengthened_grown old len = record { no_shorter = search (arith, common_steps); no_longer = search (arith, common_steps); same = zeros_behind old (len - length old) }

-- a device as it reads is one of its images, after one call more
pub reads_after : (effect : Effect) (old : List ℕ) (images : List ℕ → Type 0) → images old → images_after effect old images (read_after effect old)
reads_after (Writes at bytes found) old images is = (old, (is, over_torn old at bytes))
reads_after (Grows len) old images is = (old, (is, lengthened_grown old len))
reads_after Settles old images is = refl
reads_after (Names name) old images is = is
reads_after Rests old images is = is

-- and so after all calls
pub reads_leave_of : (first : Both (List ℕ)) (calls : List Call) (dev : Dev) → images_of first calls dev (reads_of first calls dev)
reads_leave_of first [] dev = refl
reads_leave_of first (call ∷ calls) dev = reads_after (effect_on call.dev dev call.effect) (reads_of first calls dev) (images_of first calls dev) (reads_leave_of first calls dev)

-- the present counts as since any earlier moment
pub counts_now_of : (first : Both (List ℕ)) (calls : List Call) (m : ℕ) (t j : List ℕ) → m ≤ length calls → IsPair (disk_of first calls) t j → left_of first calls m t j
counts_now_of first [] m t j le pair = (le, pair.0, pair.1)
counts_now_of first (call ∷ calls) m t j le pair = inl (le, pair.0, pair.1)

-- nothing is left since a moment that is to come
none_later : (first : Both (List ℕ)) (calls : List Call) (m : ℕ) (t j : List ℕ) → length calls < m → left_of first calls m t j → ⊥
none_later first [] m t j later left = absurd (omega (arith, left.0, later))
none_later first (call ∷ calls) m t j later (inl now) = absurd (omega (arith, now.0, later))
none_later first (call ∷ calls) m t j later (inr before) = none_later first calls m t j (omega (arith, later)) before

-- since this moment there is no other
pub only_now_of : (first : Both (List ℕ)) (calls : List Call) (t j : List ℕ) → left_of first calls (length calls) t j → IsPair (disk_of first calls) t j
only_now_of first [] t j left = (left.1, left.2)
only_now_of first (call ∷ calls) t j (inl now) = (now.1, now.2)
only_now_of first (call ∷ calls) t j (inr before) = absurd (none_later first calls (length (call ∷ calls)) t j (omega arith) before)

-- a work not above the room is the room that is used
pub within_room : (past : Bool) (log : Log) (room : ℕ) (P : Type 0) → Some log.room ≡ Some room → work_of past log ≤ room → (past ≡ false → P) → P
within_room true log room P is le holds = let e : log.room ≡ room = cc in absurd (omega (arith, e, le))
within_room false log room P is le holds = holds refl
