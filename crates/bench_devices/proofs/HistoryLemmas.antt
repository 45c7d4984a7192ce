-- What one call more on a bench in memory did to its devices.
use Rattle.std.proofs.Common.{◌≡◌, ◌⊎◌, ℕ, ◌+◌, ◌≤◌, List, [], ◌∷◌, length, zero, suc, inl, inr, refl, ap, sym, subst, ◌∙◌, zero-add, arith}
use Rattle.std.proofs.Math.Path.{fun_ext}
use Rattle.base_fields.specs.Fields.{written}
use Rattle.bench.specs.declared.Dev.{Dev}
use Rattle.bench.specs.declared.Dev.TheVariants.{Target, Journal}
use Rattle.bench.specs.Disk.{Disk, IsPair, IsSettled, StillLeaves, Torn, Grown, After, Elapses, IsLeftSince, Looked, Steps, Touches, Grows as GrowsTo, other_of}
use Rattle.bench_devices.specs.History.{Effect, Writes, Grows, Settles, Names, Rests, Call, Log, logged, effect_on, over, lengthened, read_after, images_after, reads_of, images_of, left_of, disk_of}
use Rattle.bench_devices.specs.HistoryLaws.{over_torn, lengthened_grown, reads_leave_of}
use Rattle.bench.specs.Meter.{Both}
use Rattle.bench.proofs.DiskLemmas.{elapses_so}

-- time goes on by one call
goes_on : (first : Both (List ℕ)) (call : Call) (calls : List Call) → Elapses (disk_of first calls) (disk_of first (call ∷ calls)) (IsPair (disk_of first (call ∷ calls)))
goes_on first call calls = record {
  later = omega arith;
  since = since_of;
  kept = λ m t j le left. inr left;
} where
  since_of : (m : ℕ) (t j : List ℕ) → m ≤ length calls → left_of first (call ∷ calls) m t j → left_of first calls m t j ⊎ (IsPair (disk_of first (call ∷ calls)) t j × IsLeftSince (length calls) (disk_of first (call ∷ calls)) t j)
  since_of m t j le (inl now) = inr ((now.1, now.2), λ n low. inl (omega (arith, low), now.1, now.2))
  since_of m t j le (inr before) = inl before

-- a call after which each device reads as before and each image is one from before
looked_by : (first : Both (List ℕ)) (call : Call) (calls : List Call) → ((dev : Dev) → reads_of first (call ∷ calls) dev ≡ reads_of first calls dev) → ((dev : Dev) (image : List ℕ) → images_of first (call ∷ calls) dev image → images_of first calls dev image) → Looked (disk_of first calls) (disk_of first (call ∷ calls))
looked_by first call calls reads images = record {
  reads = fun_ext reads;
  images = images;
  time = elapses_so (goes_on first call calls) (λ t j pair. (images Target t pair.0, images Journal j pair.1));
}

rests_reads : (on dev : Dev) (old : List ℕ) → read_after (effect_on on dev Rests) old ≡ old
rests_reads Target Target old = refl
rests_reads Target Journal old = refl
rests_reads Journal Target old = refl
rests_reads Journal Journal old = refl

rests_images : (on dev : Dev) (old : List ℕ) (images : List ℕ → Type 0) (image : List ℕ) → images_after (effect_on on dev Rests) old images image → images image
rests_images Target Target old images image is = is
rests_images Target Journal old images image is = is
rests_images Journal Target old images image is = is
rests_images Journal Journal old images image is = is

rests_stays : (on dev : Dev) (old : List ℕ) (images : List ℕ → Type 0) (image : List ℕ) → images image → images_after (effect_on on dev Rests) old images image
rests_stays Target Target old images image is = is
rests_stays Target Journal old images image is = is
rests_stays Journal Target old images image is = is
rests_stays Journal Journal old images image is = is

-- a call that did nothing
pub rests_looked : (first : Both (List ℕ)) (dev : Dev) (cost : ℕ) (log new : Log) → new ≡ logged log (record { dev = dev; effect = Rests }) cost → Looked (disk_of first log.calls) (disk_of first new.calls)
rests_looked first dev cost log new e = subst (λ (l : Log). Looked (disk_of first log.calls) (disk_of first l.calls)) (sym e) (looked_by first (record { dev = dev; effect = Rests }) log.calls (λ each. rests_reads dev each (reads_of first log.calls each)) (λ each. rests_images dev each (reads_of first log.calls each) (images_of first log.calls each)))

pub rests_stay : (first : Both (List ℕ)) (dev : Dev) (cost : ℕ) (log new : Log) → new ≡ logged log (record { dev = dev; effect = Rests }) cost → (each : Dev) → StillLeaves each (disk_of first log.calls) (disk_of first new.calls)
rests_stay first dev cost log new e = subst (λ (l : Log). (each : Dev) → StillLeaves each (disk_of first log.calls) (disk_of first l.calls)) (sym e) (λ each. rests_stays dev each (reads_of first log.calls each) (images_of first log.calls each))

-- a bench that is the same
same_looked : (a : Disk) → Looked a a
same_looked a = record {
  reads = refl;
  images = λ dev image is. is;
  time = record { later = omega arith; since = λ m t j le left. inl left; kept = λ m t j le left. left };
}

pub unlogged_looked : (first : Both (List ℕ)) (log new : Log) → new ≡ log → Looked (disk_of first log.calls) (disk_of first new.calls)
unlogged_looked first log new e = subst (λ (l : Log). Looked (disk_of first log.calls) (disk_of first l.calls)) (sym e) (same_looked (disk_of first log.calls))

pub unlogged_stay : (first : Both (List ℕ)) (log new : Log) → new ≡ log → (each : Dev) → StillLeaves each (disk_of first log.calls) (disk_of first new.calls)
unlogged_stay first log new e = subst (λ (l : Log). (each : Dev) → StillLeaves each (disk_of first log.calls) (disk_of first l.calls)) (sym e) (λ each image is. is)

names_reads : (on dev : Dev) (name old : List ℕ) → read_after (effect_on on dev (Names name)) old ≡ old
names_reads Target Target name old = refl
names_reads Target Journal name old = refl
names_reads Journal Target name old = refl
names_reads Journal Journal name old = refl

names_images : (on dev : Dev) (name old : List ℕ) (images : List ℕ → Type 0) (image : List ℕ) → images_after (effect_on on dev (Names name)) old images image → images image
names_images Target Target name old images image is = is
names_images Target Journal name old images image is = is
names_images Journal Target name old images image is = is
names_images Journal Journal name old images image is = is

names_stays : (on dev : Dev) (name old : List ℕ) (images : List ℕ → Type 0) (image : List ℕ) → images image → images_after (effect_on on dev (Names name)) old images image
names_stays Target Target name old images image is = is
names_stays Target Journal name old images image is = is
names_stays Journal Target name old images image is = is
names_stays Journal Journal name old images image is = is

-- a call that attached a device
pub names_looked : (first : Both (List ℕ)) (dev : Dev) (name : List ℕ) (cost : ℕ) (log new : Log) → new ≡ logged log (record { dev = dev; effect = Names name }) cost → Looked (disk_of first log.calls) (disk_of first new.calls)
names_looked first dev name cost log new e = subst (λ (l : Log). Looked (disk_of first log.calls) (disk_of first l.calls)) (sym e) (looked_by first (record { dev = dev; effect = Names name }) log.calls (λ each. names_reads dev each name (reads_of first log.calls each)) (λ each. names_images dev each name (reads_of first log.calls each) (images_of first log.calls each)))

pub names_stay : (first : Both (List ℕ)) (dev : Dev) (name : List ℕ) (cost : ℕ) (log new : Log) → new ≡ logged log (record { dev = dev; effect = Names name }) cost → (each : Dev) → StillLeaves each (disk_of first log.calls) (disk_of first new.calls)
names_stay first dev name cost log new e = subst (λ (l : Log). (each : Dev) → StillLeaves each (disk_of first log.calls) (disk_of first l.calls)) (sym e) (λ each. names_stays dev each name (reads_of first log.calls each) (images_of first log.calls each))

settles_reads : (on dev : Dev) (old : List ℕ) → read_after (effect_on on dev Settles) old ≡ old
settles_reads Target Target old = refl
settles_reads Target Journal old = refl
settles_reads Journal Target old = refl
settles_reads Journal Journal old = refl

settles_images : (on dev : Dev) (old : List ℕ) (images : List ℕ → Type 0) → images old → (image : List ℕ) → images_after (effect_on on dev Settles) old images image → images image
settles_images Target Target old images reads image is = subst images (sym is) reads
settles_images Target Journal old images reads image is = is
settles_images Journal Target old images reads image is = is
settles_images Journal Journal old images reads image is = subst images (sym is) reads

-- a call that put all on the disk
pub settles_looked : (first : Both (List ℕ)) (dev : Dev) (cost : ℕ) (log new : Log) → new ≡ logged log (record { dev = dev; effect = Settles }) cost → Looked (disk_of first log.calls) (disk_of first new.calls)
settles_looked first dev cost log new e = subst (λ (l : Log). Looked (disk_of first log.calls) (disk_of first l.calls)) (sym e) (looked_by first (record { dev = dev; effect = Settles }) log.calls (λ each. settles_reads dev each (reads_of first log.calls each)) (λ each. settles_images dev each (reads_of first log.calls each) (images_of first log.calls each) (reads_leave_of first log.calls each)))

settles_is : (first : Both (List ℕ)) (dev : Dev) (calls : List Call) → IsSettled (disk_of first (record { dev = dev; effect = Settles } ∷ calls)) dev
settles_is first Target calls image is = is
settles_is first Journal calls image is = is

pub settles_settled : (first : Both (List ℕ)) (dev : Dev) (cost : ℕ) (log new : Log) → new ≡ logged log (record { dev = dev; effect = Settles }) cost → IsSettled (disk_of first new.calls) dev
settles_settled first dev cost log new e = subst (λ (l : Log). IsSettled (disk_of first l.calls) dev) (sym e) (settles_is first dev log.calls)

-- a call leaves the other device, as far as it only rests there
other_stays_of : (first : Both (List ℕ)) (dev : Dev) (effect : Effect) (calls : List Call) → StillLeaves (other_of dev) (disk_of first calls) (disk_of first (record { dev = dev; effect = effect } ∷ calls))
other_stays_of first Target effect calls image is = is
other_stays_of first Journal effect calls image is = is

pub settles_other : (first : Both (List ℕ)) (dev : Dev) (cost : ℕ) (log new : Log) → new ≡ logged log (record { dev = dev; effect = Settles }) cost → StillLeaves (other_of dev) (disk_of first log.calls) (disk_of first new.calls)
settles_other first dev cost log new e = subst (λ (l : Log). StillLeaves (other_of dev) (disk_of first log.calls) (disk_of first l.calls)) (sym e) (other_stays_of first dev Settles log.calls)

-- a step of one device
steps_of : (first : Both (List ℕ)) (dev : Dev) (effect : Effect) (step : List ℕ → List ℕ → Type 0) (calls : List Call) → ((old : List ℕ) → step old (read_after effect old)) → ((old : List ℕ) (images : List ℕ → Type 0) (image : List ℕ) → images_after effect old images image → After step images image) → Steps dev step (disk_of first calls) (disk_of first (record { dev = dev; effect = effect } ∷ calls))
steps_of first Target effect step calls reads images = record {
  reads = reads (reads_of first calls Target);
  changes = record {
    images = images (reads_of first calls Target) (images_of first calls Target);
    other_reads = refl;
    other_images = λ image is. is;
    other_stays = λ image is. is;
    time = elapses_so (goes_on first (record { dev = Target; effect = effect }) calls) (λ t j pair. (images (reads_of first calls Target) (images_of first calls Target) t pair.0, pair.1));
  };
}
steps_of first Journal effect step calls reads images = record {
  reads = reads (reads_of first calls Journal);
  changes = record {
    images = images (reads_of first calls Journal) (images_of first calls Journal);
    other_reads = refl;
    other_images = λ image is. is;
    other_stays = λ image is. is;
    time = elapses_so (goes_on first (record { dev = Journal; effect = effect }) calls) (λ t j pair. (images (reads_of first calls Journal) (images_of first calls Journal) j pair.1, pair.0));
  };
}

-- a call that wrote
pub writes_touches : (first : Both (List ℕ)) (dev : Dev) (at : ℕ) (bytes found : List ℕ) (cost : ℕ) (log new : Log) → new ≡ logged log (record { dev = dev; effect = Writes at bytes found }) cost → Touches dev at (length bytes) (disk_of first log.calls) (disk_of first new.calls)
writes_touches first dev at bytes found cost log new e = subst (λ (l : Log). Touches dev at (length bytes) (disk_of first log.calls) (disk_of first l.calls)) (sym e) (steps_of first dev (Writes at bytes found) (Torn at (length bytes)) log.calls (λ old. over_torn old at bytes) (λ old images image after. after))

writes_any : (first : Both (List ℕ)) (dev : Dev) (at : ℕ) (bytes found : List ℕ) (calls : List Call) (image : List ℕ) → After (Torn at (length bytes)) (images_of first calls dev) image → images_of first (record { dev = dev; effect = Writes at bytes found } ∷ calls) dev image
writes_any first Target at bytes found calls image after = after
writes_any first Journal at bytes found calls image after = after

pub writes_torn : (first : Both (List ℕ)) (dev : Dev) (at : ℕ) (bytes found : List ℕ) (cost : ℕ) (log new : Log) → new ≡ logged log (record { dev = dev; effect = Writes at bytes found }) cost → (image : List ℕ) → After (Torn at (length bytes)) (images_of first log.calls dev) image → images_of first new.calls dev image
writes_torn first dev at bytes found cost log new e = subst (λ (l : Log). (image : List ℕ) → After (Torn at (length bytes)) (images_of first log.calls dev) image → images_of first l.calls dev image) (sym e) (writes_any first dev at bytes found log.calls)

-- bytes over others, all of them inside
pub over_written : (old : List ℕ) (at : ℕ) (bytes : List ℕ) → at + length bytes ≤ length old → over old at bytes ≡ written old at bytes
over_written [] zero [] inside = refl
over_written [] zero (b ∷ bytes) inside = absurd (omega arith)
over_written [] (suc at) bytes inside = absurd (omega arith)
over_written (x ∷ old) (suc at) bytes inside =
    let rest = over_written old at bytes (omega arith) in
    let e : suc at + length bytes ≡ suc (at + length bytes) = omega arith in
    rw e (ap (λ (l : List ℕ). x ∷ l) rest)
over_written (x ∷ old) zero [] inside = refl
over_written (x ∷ old) zero (b ∷ bytes) inside =
    let rest = over_written old zero bytes (omega arith) in
    simp zero-add (ap (λ (l : List ℕ). b ∷ l) (simp zero-add at rest))

reads_over : (first : Both (List ℕ)) (dev : Dev) (at : ℕ) (bytes found : List ℕ) (calls : List Call) → reads_of first (record { dev = dev; effect = Writes at bytes found } ∷ calls) dev ≡ over (reads_of first calls dev) at bytes
reads_over first Target at bytes found calls = refl
reads_over first Journal at bytes found calls = refl

-- what a device reads where it was written
pub writes_reads : (first : Both (List ℕ)) (dev : Dev) (at : ℕ) (bytes found : List ℕ) (cost : ℕ) (log new : Log) → new ≡ logged log (record { dev = dev; effect = Writes at bytes found }) cost → at + length bytes ≤ length (reads_of first log.calls dev) → reads_of first new.calls dev ≡ written (reads_of first log.calls dev) at bytes
writes_reads first dev at bytes found cost log new e inside = ap (λ (l : Log). reads_of first l.calls dev) e ∙ reads_over first dev at bytes found log.calls ∙ over_written (reads_of first log.calls dev) at bytes inside

reads_other : (first : Both (List ℕ)) (dev : Dev) (effect : Effect) (calls : List Call) → reads_of first (record { dev = dev; effect = effect } ∷ calls) (other_of dev) ≡ reads_of first calls (other_of dev)
reads_other first Target effect calls = refl
reads_other first Journal effect calls = refl

-- what the other device reads
pub logged_other : (first : Both (List ℕ)) (dev : Dev) (effect : Effect) (cost : ℕ) (log new : Log) → new ≡ logged log (record { dev = dev; effect = effect }) cost → reads_of first new.calls (other_of dev) ≡ reads_of first log.calls (other_of dev)
logged_other first dev effect cost log new e = ap (λ (l : Log). reads_of first l.calls (other_of dev)) e ∙ reads_other first dev effect log.calls

-- a call that grew the journal
pub grows_grows : (first : Both (List ℕ)) (len : ℕ) (cost : ℕ) (log new : Log) → new ≡ logged log (record { dev = Journal; effect = Grows len }) cost → GrowsTo len (disk_of first log.calls) (disk_of first new.calls)
grows_grows first len cost log new e = subst (λ (l : Log). GrowsTo len (disk_of first log.calls) (disk_of first l.calls)) (sym e) (steps_of first Journal (Grows len) (Grown len) log.calls (λ old. lengthened_grown old len) (λ old images image after. after))

pub grows_between : (first : Both (List ℕ)) (len : ℕ) (cost : ℕ) (log new : Log) → new ≡ logged log (record { dev = Journal; effect = Grows len }) cost → (image : List ℕ) → After (Grown len) (images_of first log.calls Journal) image → images_of first new.calls Journal image
grows_between first len cost log new e = subst (λ (l : Log). (image : List ℕ) → After (Grown len) (images_of first log.calls Journal) image → images_of first l.calls Journal image) (sym e) (λ image after. after)

pub grows_reads : (first : Both (List ℕ)) (len : ℕ) (cost : ℕ) (log new : Log) → new ≡ logged log (record { dev = Journal; effect = Grows len }) cost → reads_of first new.calls Journal ≡ lengthened (reads_of first log.calls Journal) len
grows_reads first len cost log new e = ap (λ (l : Log). reads_of first l.calls Journal) e

-- what both read after a call that leaves that
pub rests_same : (first : Both (List ℕ)) (dev each : Dev) (cost : ℕ) (log new : Log) → new ≡ logged log (record { dev = dev; effect = Rests }) cost → reads_of first new.calls each ≡ reads_of first log.calls each
rests_same first dev each cost log new e = ap (λ (l : Log). reads_of first l.calls each) e ∙ rests_reads dev each (reads_of first log.calls each)

pub names_same : (first : Both (List ℕ)) (dev each : Dev) (name : List ℕ) (cost : ℕ) (log new : Log) → new ≡ logged log (record { dev = dev; effect = Names name }) cost → reads_of first new.calls each ≡ reads_of first log.calls each
names_same first dev each name cost log new e = ap (λ (l : Log). reads_of first l.calls each) e ∙ names_reads dev each name (reads_of first log.calls each)

pub settles_same : (first : Both (List ℕ)) (dev each : Dev) (cost : ℕ) (log new : Log) → new ≡ logged log (record { dev = dev; effect = Settles }) cost → reads_of first new.calls each ≡ reads_of first log.calls each
settles_same first dev each cost log new e = ap (λ (l : Log). reads_of first l.calls each) e ∙ settles_reads dev each (reads_of first log.calls each)
