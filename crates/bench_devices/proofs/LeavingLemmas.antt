-- What is left by a stop is among the images.
use Rattle.std.proofs.Common.{◌≡◌, ℕ, ◌≤◌, List, [], ◌∷◌, length, take, min, Bool, true, false, refl, sym, subst, arith}
use Rattle.std.proofs.lemmas.Grind.{common_steps}
use Rattle.bench.specs.declared.Dev.{Dev}
use Rattle.bench.specs.declared.Dev.TheVariants.{Target, Journal}
use Rattle.bench.specs.Disk.{Torn, Grown}
use Rattle.bench_devices.specs.History.{Effect, Writes, Grows, Settles, Names, Rests, Call, effect_on, over, lengthened, images_after, reads_of, images_of}
use Rattle.bench_devices.specs.HistoryLaws.{over_torn, zeros_behind}
use Rattle.bench_devices.specs.Leaving.{image_after, image_of, is_kept, kept_image, kept_length, settled_both}
use Rattle.bench_devices.specs.MemBenchCalls.{Story, untouched}
use Rattle.bench.specs.Meter.{Both}
use Rattle.bench.proofs.DiskLemmas.{torn_none, torn_within}

-- a growth to a length up to another
lengthened_between : (old : List ℕ) (len most : ℕ) → Grown len old (lengthened old (min len most))
lengthened_between old len most = record { no_shorter = search (arith, common_steps); no_longer = search (arith, common_steps); same = zeros_behind old _ }

-- no more bytes than were written
over_within : (old : List ℕ) (at : ℕ) (bytes found : List ℕ) → Torn at (length bytes) old (over old at (take (length bytes) found))
over_within old at bytes found =
    let few : length (take (length bytes) found) ≤ length bytes = search (arith, common_steps) in
    torn_within at (length bytes) (over_torn old at (take (length bytes) found)) (omega arith) (omega (arith, few))

-- one call more on an image is an image after it
image_among : (kept : Bool) (most : ℕ) (effect : Effect) (old image : List ℕ) (images : List ℕ → Type 0) → images image → images_after effect old images (image_after kept most effect old image)
image_among true most (Writes at bytes found) old image images is = (image, (is, over_within image at bytes found))
image_among false most (Writes at bytes found) old image images is = (image, (is, torn_none at (length bytes) image))
image_among kept most (Grows len) old image images is = (image, (is, lengthened_between image len most))
image_among kept most Settles old image images is = refl
image_among kept most (Names name) old image images is = is
image_among kept most Rests old image images is = is

-- so it is after all calls
pub image_leaves : (first : Both (List ℕ)) (settled : Both ℕ) (keep : List Bool) (most : ℕ) (dev : Dev) (calls : List Call) → images_of first calls dev (image_of first settled keep most dev calls)
image_leaves first settled keep most dev [] = refl
image_leaves first settled keep most dev (call ∷ calls) = image_among (is_kept settled keep calls) most (effect_on call.dev dev call.effect) (reads_of first calls dev) (image_of first settled keep most dev calls) (images_of first calls dev) (image_leaves first settled keep most dev calls)

-- what is left of both devices is a pair that a stop may leave
pub left_among : (first : Both (List ℕ)) (keep : List Bool) (calls : List Call) (room : ℕ) (left : Story) → left ≡ untouched (kept_image first keep calls Target) (kept_image first keep calls Journal) room → images_of first calls Target (reads_of left.first left.log.calls Target) × images_of first calls Journal (reads_of left.first left.log.calls Journal)
left_among first keep calls room left e =
    let P = λ (s : Story). images_of first calls Target (reads_of s.first s.log.calls Target) × images_of first calls Journal (reads_of s.first s.log.calls Journal) in
    let most = kept_length (settled_both calls) keep calls in
    subst P (sym e) (image_leaves first (settled_both calls) keep most Target calls, image_leaves first (settled_both calls) keep most Journal calls)
