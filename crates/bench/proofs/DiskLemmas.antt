-- How the calls on a bench follow one another.
use Rattle.std.proofs.Common.{◌≡◌, ℕ, ◌+◌, ◌<◌, ◌≤◌, List, inl, inr, ⊎_elim, ap, sym, subst, ◌∙◌, refl, arith}
use Rattle.std.proofs.lemmas.Bool.{cases_lt}
use Rattle.bench.specs.declared.Dev.{Dev}
use Rattle.bench.specs.declared.Dev.TheVariants.{Target, Journal}
use Rattle.bench.specs.Disk.{Disk, IsPair, EachPair, EachSince, IsSettled, StillLeaves, Torn, TornAt, Grown, Elapses, Looked, Changes, Steps, Touches, Runs, Keeps, other_of, part_of}

-- time goes on with less said of it
pub elapses_so : {a b : Disk} {P Q : List ℕ → List ℕ → Type 0} → Elapses a b P → ((t j : List ℕ) → P t j → Q t j) → Elapses a b Q
elapses_so {a} {b} {P} {Q} time weaker = record {
  later = time.later;
  since = λ m t j le left. ⊎_elim (λ before. inl before) (λ p. inr (weaker t j p.0, p.1)) (time.since m t j le left);
  kept = time.kept;
}

-- time goes on and on
pub elapses_then : {a b c : Disk} {P : List ℕ → List ℕ → Type 0} → Elapses a b P → Elapses b c P → Elapses a c P
elapses_then {a} {b} {c} {P} first second = record {
  later = omega (arith, first.later, second.later);
  since = λ m t j le left.
      ⊎_elim (λ before. ⊎_elim (λ b. inl b)
      (λ p. inr (p.0, λ n low. second.kept n t j (omega (arith, low, first.later)) (p.1 n low))) (first.since m t j le before))
      (λ p. inr (p.0, λ n low. p.1 n (omega (arith, low, first.later)))) (second.since m t j (omega (arith, le, first.later)) left);
  kept = λ m t j le left. second.kept m t j (omega (arith, le, first.later)) (first.kept m t j le left);
}

-- looking twice is looking
pub looked_then : {a b c : Disk} → Looked a b → Looked b c → Looked a c
looked_then {a} {b} {c} first second = record {
  reads = second.reads ∙ first.reads;
  images = λ dev image now. first.images dev image (second.images dev image now);
  time = elapses_then first.time (elapses_so second.time (λ t j pair. (first.images Target t pair.0, first.images Journal j pair.1)));
}

-- a look, as a change of one device of which each image has P already
pub looked_changes : (dev : Dev) {a b : Disk} {P : List ℕ → Type 0} → Looked a b → StillLeaves (other_of dev) a b → ((image : List ℕ) → a.leaves dev image → P image) → Changes dev P a b
looked_changes Target {a} {b} {P} looked stays each = record {
  images = λ image now. each image (looked.images Target image now);
  other_reads = ap (λ (f : Dev → List ℕ). f Journal) looked.reads;
  other_images = looked.images Journal;
  other_stays = stays;
  time = elapses_so looked.time (λ t j pair. (each t pair.0, pair.1));
}
looked_changes Journal {a} {b} {P} looked stays each = record {
  images = λ image now. each image (looked.images Journal image now);
  other_reads = ap (λ (f : Dev → List ℕ). f Target) looked.reads;
  other_images = looked.images Target;
  other_stays = stays;
  time = elapses_so looked.time (λ t j pair. (each j pair.1, pair.0));
}

-- a change with less said of it
pub changes_so : {dev : Dev} {a b : Disk} {P Q : List ℕ → Type 0} → Changes dev P a b → ((image : List ℕ) → P image → Q image) → Changes dev Q a b
changes_so {dev} {a} {b} {P} {Q} changes weaker = record {
  images = λ image now. weaker image (changes.images image now);
  other_reads = changes.other_reads;
  other_images = changes.other_images;
  other_stays = changes.other_stays;
  time = elapses_so changes.time (λ t j joined. (weaker (part_of dev t j) joined.0, joined.1));
}

-- two changes of one device are one
pub changes_then : {dev : Dev} {a b c : Disk} {P : List ℕ → Type 0} → Changes dev P a b → Changes dev P b c → Changes dev P a c
changes_then {dev} {a} {b} {c} {P} first second = record {
  images = second.images;
  other_reads = second.other_reads ∙ first.other_reads;
  other_images = λ image now. first.other_images image (second.other_images image now);
  other_stays = λ image was. second.other_stays image (first.other_stays image was);
  time = elapses_then first.time (elapses_so second.time (λ t j joined. (joined.0, first.other_images (part_of (other_of dev) t j) joined.1)));
}

-- a change, and a look
pub changes_looked : {dev : Dev} {a b c : Disk} {P : List ℕ → Type 0} → Changes dev P a b → Looked b c → StillLeaves (other_of dev) b c → Changes dev P a c
changes_looked {dev} {a} {b} {c} {P} first looked stays = changes_then first (looked_changes dev looked stays first.images)

-- a step, as a change of which each image has P
pub steps_changes : {dev : Dev} {step : List ℕ → List ℕ → Type 0} {a b : Disk} {P : List ℕ → Type 0} → Steps dev step a b → ((was now : List ℕ) → a.leaves dev was → step was now → P now) → Changes dev P a b
steps_changes {dev} {step} {a} {b} {P} steps each = changes_so steps.changes (λ image after. each after.0 image after.1.0 after.1.1)

-- a change, and a step of that device
pub changes_steps : {dev : Dev} {step : List ℕ → List ℕ → Type 0} {a b c : Disk} {P : List ℕ → Type 0} → Changes dev P a b → Steps dev step b c → ((was now : List ℕ) → P was → step was now → P now) → Changes dev P a c
changes_steps {dev} {step} {a} {b} {c} {P} first steps each = changes_then first (steps_changes steps (λ was now leaves stepped. each was now (first.images was leaves) stepped))

-- nothing is torn
pub torn_none : (at n : ℕ) (list : List ℕ) → Torn at n list list
torn_none at n list = record { size = refl; below = λ k h. refl; above = λ k h. refl }

-- torn twice in one range
pub torn_then : {at n : ℕ} {a b c : List ℕ} → Torn at n a b → Torn at n b c → Torn at n a c
torn_then {at} {n} {a} {b} {c} first second = record {
  size = second.size ∙ first.size;
  below = λ k h. second.below k h ∙ first.below k h;
  above = λ k h. second.above k h ∙ first.above k h;
}

-- torn in a range is torn in a wider one
pub torn_within : {at n : ℕ} (from len : ℕ) {a b : List ℕ} → Torn at n a b → from ≤ at → at + n ≤ from + len → Torn from len a b
torn_within {at} {n} from len {a} {b} torn low high = record {
  size = torn.size;
  below = λ k h. torn.below k (omega (arith, h, low));
  above = λ k h. torn.above k (omega (arith, h, high));
}

-- torn in a range of a set's places is torn at the set
pub torn_at : {at n : ℕ} (places : ℕ → Type 0) {a b : List ℕ} → Torn at n a b → ((k : ℕ) → at ≤ k → k < at + n → places k) → TornAt places a b
torn_at {at} {n} places {a} {b} torn inside = record {
  size = torn.size;
  same = λ k none. ⊎_elim (λ low. torn.below k low) (λ high. ⊎_elim (λ before. absurd (none (inside k high before))) (λ past. torn.above k past) (cases_lt k (at + n))) (cases_lt k at);
}

-- torn at no place
pub torn_at_none : (places : ℕ → Type 0) (list : List ℕ) → TornAt places list list
torn_at_none places list = record { size = refl; same = λ k none. refl }

-- torn at a set's places, and at a set's places
pub torn_at_then : {places : ℕ → Type 0} {a b c : List ℕ} → TornAt places a b → TornAt places b c → TornAt places a c
torn_at_then {places} {a} {b} {c} first second = record {
  size = second.size ∙ first.size;
  same = λ k none. second.same k none ∙ first.same k none;
}

-- torn at a set's places is torn at those of a wider one
pub torn_at_so : {places more : ℕ → Type 0} {a b : List ℕ} → TornAt places a b → ((k : ℕ) → places k → more k) → TornAt more a b
torn_at_so {places} {more} {a} {b} torn wider = record {
  size = torn.size;
  same = λ k none. torn.same k (λ is. none (wider k is));
}

-- grown twice, and the second time no shorter
pub grown_then : {m n : ℕ} {a b c : List ℕ} → Grown m a b → Grown n b c → m ≤ n → Grown n a c
grown_then {m} {n} {a} {b} {c} first second more = record {
  no_shorter = omega (arith, first.no_shorter, second.no_shorter);
  no_longer = omega (arith, first.no_shorter, first.no_longer, second.no_longer, more);
  same = λ k. second.same k ∙ first.same k;
}

-- two steps of one kind are one, where they are so for each list
pub steps_then : {dev : Dev} {step : List ℕ → List ℕ → Type 0} {a b c : Disk} → ((x y z : List ℕ) → step x y → step y z → step x z) → Steps dev step a b → Steps dev step b c → Steps dev step a c
steps_then {dev} {step} {a} {b} {c} joins first second = record {
  reads = joins (a.reads dev) (b.reads dev) (c.reads dev) first.reads second.reads;
  changes = changes_steps first.changes second (λ was now after stepped. (after.0, (after.1.0, joins after.0 was now after.1.1 stepped)));
}

-- a step with less said of it
pub steps_so : {dev : Dev} {step more : List ℕ → List ℕ → Type 0} {a b : Disk} → Steps dev step a b → ((x y : List ℕ) → step x y → more x y) → Steps dev more a b
steps_so {dev} {step} {more} {a} {b} steps weaker = record {
  reads = weaker (a.reads dev) (b.reads dev) steps.reads;
  changes = changes_so steps.changes (λ image after. (after.0, (after.1.0, weaker after.0 image after.1.1)));
}

-- a step, and a look
pub steps_looked : {dev : Dev} {step : List ℕ → List ℕ → Type 0} {a b c : Disk} → Steps dev step a b → Looked b c → StillLeaves (other_of dev) b c → Steps dev step a c
steps_looked {dev} {step} {a} {b} {c} steps looked stays = record {
  reads = subst (λ (f : Dev → List ℕ). step (a.reads dev) (f dev)) (sym looked.reads) steps.reads;
  changes = changes_looked steps.changes looked stays;
}

-- a look, as a step that may leave all as it is
pub looked_steps : (dev : Dev) {step : List ℕ → List ℕ → Type 0} {a b : Disk} → ((x : List ℕ) → step x x) → Looked a b → StillLeaves (other_of dev) a b → Steps dev step a b
looked_steps dev {step} {a} {b} none looked stays = record {
  reads = subst (λ (f : Dev → List ℕ). step (a.reads dev) (f dev)) (sym looked.reads) (none (a.reads dev));
  changes = looked_changes dev looked stays (λ image was. (image, (was, none image)));
}

-- bytes of one range are touched twice
pub touches_then : {dev : Dev} {at n : ℕ} {a b c : Disk} → Touches dev at n a b → Touches dev at n b c → Touches dev at n a c
touches_then {dev} {at} {n} {a} {b} {c} first second = steps_then (λ x y z one two. torn_then one two) first second

-- bytes of a range are bytes of a wider one
pub touches_within : {dev : Dev} {at n : ℕ} (from len : ℕ) {a b : Disk} → Touches dev at n a b → from ≤ at → at + n ≤ from + len → Touches dev from len a b
touches_within {dev} {at} {n} from len {a} {b} touches low high = steps_so touches (λ x y torn. torn_within from len torn low high)

-- a look touches nothing
pub looked_touches : (dev : Dev) (at n : ℕ) {a b : Disk} → Looked a b → StillLeaves (other_of dev) a b → Touches dev at n a b
looked_touches dev at n {a} {b} looked stays = looked_steps dev (torn_none at n) looked stays

-- no write yet, at any set of places
pub looked_torn : (dev : Dev) (places : ℕ → Type 0) {a b : Disk} → Looked a b → StillLeaves (other_of dev) a b → Steps dev (TornAt places) a b
looked_torn dev places {a} {b} looked stays = looked_steps dev (torn_at_none places) looked stays

-- one write more, within the places, joins those of a loop
pub torn_more : {dev : Dev} {at n : ℕ} {places : ℕ → Type 0} {a b c : Disk} → Steps dev (TornAt places) a b → Touches dev at n b c → ((k : ℕ) → at ≤ k → k < at + n → places k) → Steps dev (TornAt places) a c
torn_more {dev} {at} {n} {places} {a} {b} {c} steps wrote inside = steps_then (λ x y z one two. torn_at_then one two) steps (steps_so wrote (λ x y torn. torn_at places torn inside))

-- a run with less said of it
pub runs_so : {a b : Disk} {P Q : List ℕ → List ℕ → Type 0} → Runs a b P → ((t j : List ℕ) → P t j → Q t j) → Runs a b Q
runs_so {a} {b} {P} {Q} runs weaker = record {
  now = λ t j pair. weaker t j (runs.now t j pair);
  time = elapses_so runs.time weaker;
}

-- a run, and a run
pub runs_then : {a b c : Disk} {P : List ℕ → List ℕ → Type 0} → Runs a b P → Runs b c P → Runs a c P
runs_then {a} {b} {c} {P} first second = record { now = second.now; time = elapses_then first.time second.time }

-- a look leaves only pairs from before
pub looked_runs : {a b : Disk} {P : List ℕ → List ℕ → Type 0} → Looked a b → EachPair a P → Runs a b P
looked_runs {a} {b} {P} looked each = record {
  now = λ t j pair. each t j (looked.images Target t pair.0, looked.images Journal j pair.1);
  time = elapses_so looked.time each;
}

-- the target changed: the pairs of its images that have Q, and of those that the journal had
pub target_runs : {a b : Disk} {Q : List ℕ → Type 0} {P : List ℕ → List ℕ → Type 0} → Changes Target Q a b → ((t j : List ℕ) → Q t → a.leaves Journal j → P t j) → Runs a b P
target_runs {a} {b} {Q} {P} changes each = record {
  now = λ t j pair. each t j (changes.images t pair.0) (changes.other_images j pair.1);
  time = elapses_so changes.time (λ t j joined. each t j joined.0 joined.1);
}

-- the journal changed: the pairs of its images that have Q, and of those that the target had
pub journal_runs : {a b : Disk} {Q : List ℕ → Type 0} {P : List ℕ → List ℕ → Type 0} → Changes Journal Q a b → ((t j : List ℕ) → a.leaves Target t → Q j → P t j) → Runs a b P
journal_runs {a} {b} {Q} {P} changes each = record {
  now = λ t j pair. each t j (changes.other_images t pair.0) (changes.images j pair.1);
  time = elapses_so changes.time (λ t j joined. each t j joined.1 joined.0);
}

-- a step of the target
pub target_steps : {step : List ℕ → List ℕ → Type 0} {a b : Disk} {P : List ℕ → List ℕ → Type 0} → Steps Target step a b → ((t new j : List ℕ) → IsPair a t j → step t new → P new j) → Runs a b P
target_steps {step} {a} {b} {P} steps each = target_runs steps.changes (λ t j after leaves. each after.0 t j (after.1.0, leaves) after.1.1)

-- a step of the journal
pub journal_steps : {step : List ℕ → List ℕ → Type 0} {a b : Disk} {P : List ℕ → List ℕ → Type 0} → Steps Journal step a b → ((t j new : List ℕ) → IsPair a t j → step j new → P t new) → Runs a b P
journal_steps {step} {a} {b} {P} steps each = journal_runs steps.changes (λ t j leaves after. each t after.0 j (leaves, after.1.0) after.1.1)

-- what holds of each pair is kept, and kept again
pub keeps_then : {a b c : Disk} {P : List ℕ → List ℕ → Type 0} → Keeps P a b → Keeps P b c → Keeps P a c
keeps_then {a} {b} {c} {P} first second each = let run = first each in runs_then run (second run.now)

-- a look keeps what holds of each pair
pub looked_keeps : {a b : Disk} {P : List ℕ → List ℕ → Type 0} → Looked a b → Keeps P a b
looked_keeps {a} {b} {P} looked each = looked_runs looked each

-- a step of the target keeps what it keeps of each pair of before
pub target_keeps : {step : List ℕ → List ℕ → Type 0} {a b : Disk} {P : List ℕ → List ℕ → Type 0} → Steps Target step a b → ((t new j : List ℕ) → IsPair a t j → P t j → step t new → P new j) → Keeps P a b
target_keeps {step} {a} {b} {P} steps keeps each = target_steps steps (λ t new j pair stepped. keeps t new j pair (each t j pair) stepped)

-- a step of the journal keeps what it keeps of each pair of before
pub journal_keeps : {step : List ℕ → List ℕ → Type 0} {a b : Disk} {P : List ℕ → List ℕ → Type 0} → Steps Journal step a b → ((t j new : List ℕ) → IsPair a t j → P t j → step j new → P t new) → Keeps P a b
journal_keeps {step} {a} {b} {P} steps keeps each = journal_steps steps (λ t j new pair stepped. keeps t j new pair (each t j pair) stepped)

-- of an image of the target, where the journal is at hand as it reads
pub target_has : (a : Disk) {P : List ℕ → List ℕ → Type 0} → a.leaves Journal (a.reads Journal) → EachPair a P → (t : List ℕ) → a.leaves Target t → P t (a.reads Journal)
target_has a {P} reads each t leaves = each t (a.reads Journal) (leaves, reads)

-- of an image of the journal, where the target is at hand as it reads
pub journal_has : (a : Disk) {P : List ℕ → List ℕ → Type 0} → a.leaves Target (a.reads Target) → EachPair a P → (j : List ℕ) → a.leaves Journal j → P (a.reads Target) j
journal_has a {P} reads each j leaves = each (a.reads Target) j (reads, leaves)

-- a step of a device whose image was settled starts from what it read
pub settled_step : {dev : Dev} {step : List ℕ → List ℕ → Type 0} {a b : Disk} → IsSettled a dev → Steps dev step a b → (image : List ℕ) → b.leaves dev image → step (a.reads dev) image
settled_step {dev} {step} {a} {b} settled steps image leaves = let (was, (is, stepped)) = steps.changes.images image leaves in subst (λ (x : List ℕ). step x image) (settled was is) stepped

-- From the start on: a run of which each pair has P, where each pair at its start had it. There is no pair since the
-- start but those of the start, by the law of a bench.
pub runs_since : {a b : Disk} {P : List ℕ → List ℕ → Type 0} → ((t j : List ℕ) → a.left a.moment t j → IsPair a t j) → EachPair a P → Runs a b P → EachSince a.moment b P
runs_since {a} {b} {P} only each run t j left = ⊎_elim (λ before. each t j (only t j before)) (λ p. p.0) (run.time.since a.moment t j (omega arith) left)

-- a settled device has only what it reads among the images of a pair
pub settled_pair : (dev : Dev) (a : Disk) (t j : List ℕ) → IsSettled a dev → IsPair a t j → part_of dev t j ≡ a.reads dev
settled_pair Target a t j settled pair = settled t pair.0
settled_pair Journal a t j settled pair = settled j pair.1
