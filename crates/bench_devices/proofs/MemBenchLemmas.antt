-- What one call more on a bench in memory is in the words of a bench.
use Rattle.std.proofs.Common.{◌≡◌, ℕ, ◌+◌, ◌≤◌, List, ◌∷◌, length, refl, ap, sym, subst, ◌∙◌, inl, inr, false, Some, arith}
use Rattle.base_fields.specs.Fields.{written}
use Rattle.bench.specs.declared.Dev.{Dev}
use Rattle.bench.specs.declared.Dev.TheVariants.{Target, Journal}
use Rattle.bench_devices.specs.declared.gate.Gate.{Gate}
use Rattle.bench.specs.Disk.{Looked, StillLeaves, Touches, Grown, Grows as GrowsTo, other_of, part_of}
use Rattle.bench_devices.specs.History.{Effect, Writes, Grows, Settles, Names, Rests, Call, Log, Rested, logged, named, name_after, reads_of, disk_of, work_of}
use Rattle.bench_devices.specs.MemBench.{meter_of}
use Rattle.bench.specs.Meter.{Both, Attaches, Bills, SameNames, of_device}
use Rattle.bench.proofs.DiskLemmas.{looked_steps, looked_touches}
use Rattle.bench_devices.proofs.HistoryLemmas.{rests_looked, rests_stay, rests_same, unlogged_looked, unlogged_stay, writes_reads, logged_other}

-- a call that failed: it did nothing
pub rested_looked : (first : Both (List ℕ)) (dev : Dev) (bytes : ℕ) (log new : Log) → Rested dev bytes log new → Looked (disk_of first log.calls) (disk_of first new.calls)
rested_looked first dev bytes log new (inl e) = unlogged_looked first log new e
rested_looked first dev bytes log new (inr e) = rests_looked first dev (32 + bytes) log new e

pub rested_stay : (first : Both (List ℕ)) (dev : Dev) (bytes : ℕ) (log new : Log) → Rested dev bytes log new → (each : Dev) → StillLeaves each (disk_of first log.calls) (disk_of first new.calls)
rested_stay first dev bytes log new (inl e) = unlogged_stay first log new e
rested_stay first dev bytes log new (inr e) = rests_stay first dev (32 + bytes) log new e

pub rested_same : (first : Both (List ℕ)) (dev each : Dev) (bytes : ℕ) (log new : Log) → Rested dev bytes log new → reads_of first new.calls each ≡ reads_of first log.calls each
rested_same first dev each bytes log new (inl e) = ap (λ (l : Log). reads_of first l.calls each) e
rested_same first dev each bytes log new (inr e) = rests_same first dev each (32 + bytes) log new e

pub rested_touches : (first : Both (List ℕ)) (dev : Dev) (at n bytes : ℕ) (log new : Log) → Rested dev bytes log new → Touches dev at n (disk_of first log.calls) (disk_of first new.calls)
rested_touches first dev at n bytes log new rested = looked_touches dev at n (rested_looked first dev bytes log new rested) (rested_stay first dev bytes log new rested (other_of dev))

pub rested_grows : (first : Both (List ℕ)) (len bytes : ℕ) (log new : Log) → Rested Journal bytes log new → GrowsTo len (disk_of first log.calls) (disk_of first new.calls)
rested_grows first len bytes log new rested = looked_steps Journal (λ (x : List ℕ). let g : Grown len x x = record { no_shorter = omega arith; no_longer = omega arith; same = λ k. refl } in g) (rested_looked first Journal bytes log new rested) (rested_stay first Journal bytes log new rested Target)

-- a call gives no name, but one that attaches
IsNameless : Effect → Type 0
IsNameless effect = (old : _) → named effect old ≡ old

name_same : (on dev : Dev) (effect : Effect) (calls : List Call) → IsNameless effect → name_after (record { dev = on; effect = effect } ∷ calls) dev ≡ name_after calls dev
unfolding IsNameless
name_same Target Target effect calls none = none (name_after calls Target)
name_same Target Journal effect calls none = refl
name_same Journal Target effect calls none = refl
name_same Journal Journal effect calls none = none (name_after calls Journal)

names_by : (gate now : Gate) (log new : Log) → ((dev : Dev) → name_after new.calls dev ≡ name_after log.calls dev) → SameNames (meter_of gate log) (meter_of now new)
names_by gate now log new same = let t = same Target in let j = same Journal in record { attached = refl; name = cc }

same_names_of : (gate now : Gate) (dev : Dev) (effect : Effect) (cost : ℕ) (log new : Log) → IsNameless effect → new ≡ logged log (record { dev = dev; effect = effect }) cost → SameNames (meter_of gate log) (meter_of now new)
same_names_of gate now dev effect cost log new none e = names_by gate now log new (λ each. ap (λ (l : Log). name_after l.calls each) e ∙ name_same dev each effect log.calls none)

pub same_names_rests : (gate now : Gate) (dev : Dev) (cost : ℕ) (log new : Log) → new ≡ logged log (record { dev = dev; effect = Rests }) cost → SameNames (meter_of gate log) (meter_of now new)
unfolding IsNameless
same_names_rests gate now dev cost log new e = same_names_of gate now dev Rests cost log new (λ old. refl) e

pub same_names_settles : (gate now : Gate) (dev : Dev) (cost : ℕ) (log new : Log) → new ≡ logged log (record { dev = dev; effect = Settles }) cost → SameNames (meter_of gate log) (meter_of now new)
unfolding IsNameless
same_names_settles gate now dev cost log new e = same_names_of gate now dev Settles cost log new (λ old. refl) e

pub same_names_writes : (gate now : Gate) (dev : Dev) (at : ℕ) (bytes found : List ℕ) (cost : ℕ) (log new : Log) → new ≡ logged log (record { dev = dev; effect = Writes at bytes found }) cost → SameNames (meter_of gate log) (meter_of now new)
unfolding IsNameless
same_names_writes gate now dev at bytes found cost log new e = same_names_of gate now dev (Writes at bytes found) cost log new (λ old. refl) e

pub same_names_grows : (gate now : Gate) (len : ℕ) (cost : ℕ) (log new : Log) → new ≡ logged log (record { dev = Journal; effect = Grows len }) cost → SameNames (meter_of gate log) (meter_of now new)
unfolding IsNameless
same_names_grows gate now len cost log new e = same_names_of gate now Journal (Grows len) cost log new (λ old. refl) e

pub same_names_rested : (gate now : Gate) (dev : Dev) (bytes : ℕ) (log new : Log) → Rested dev bytes log new → SameNames (meter_of gate log) (meter_of now new)
same_names_rested gate now dev bytes log new (inl e) = names_by gate now log new (λ each. ap (λ (l : Log). name_after l.calls each) e)
same_names_rested gate now dev bytes log new (inr e) = same_names_rests gate now dev (32 + bytes) log new e

attaches_named : (gate now : Gate) (dev : Dev) (name : List ℕ) (cost : ℕ) (log : Log) → Attaches dev name (meter_of gate log) (meter_of now (logged log (record { dev = dev; effect = Names name }) cost))
attaches_named gate now Target name cost log = record { attached = refl; name = refl; other_attached = refl; other_name = refl }
attaches_named gate now Journal name cost log = record { attached = refl; name = refl; other_attached = refl; other_name = refl }

pub names_attaches : (gate now : Gate) (dev : Dev) (name : List ℕ) (cost : ℕ) (log new : Log) → new ≡ logged log (record { dev = dev; effect = Names name }) cost → Attaches dev name (meter_of gate log) (meter_of now new)
names_attaches gate now dev name cost log new e = subst (λ (l : Log). Attaches dev name (meter_of gate log) (meter_of now l)) (sym e) (attaches_named gate now dev name cost log)

-- the room that is used is the work, as long as no call would have passed the room
work_not_past : (past : _) (log : Log) → past ≡ false → work_of past log ≡ log.used
work_not_past past log e = ap (λ (p : _). work_of p log) e

-- the bill of a call that passed
pub bills_logged : (dev : Dev) (more : ℕ) (gate now : Gate) (log new : Log) (call : Call) (cost : ℕ) → new ≡ logged log call cost → cost ≤ 32 + more → gate.past ≡ false → now.past ≡ false → now.faults ≡ gate.faults → now.sure ≡ gate.sure → Bills dev more (meter_of gate log) (meter_of now new)
bills_logged dev more gate now log new call cost e le was is faults sure =
    let before = work_not_past gate.past log was in
    let after = work_not_past now.past new is in
    let used : new.used ≡ log.used + cost = ap (λ (l : Log). l.used) e in
    let room : new.room ≡ log.room = ap (λ (l : Log). l.room) e in
    let same = ap (λ (f : Both ℕ). of_device dev f) faults in
    record {
      none_fell = omega (arith, same);
      other = ap (λ (f : Both ℕ). of_device (other_of dev) f) faults;
      no_less = omega (arith, before, after, used);
      work = omega (arith, before, after, used, le);
      room = ap (λ (n : ℕ). Some n) room;
      sure = sure;
    }

-- what a device reads, of what both read
pub part_reads : (first : Both (List ℕ)) (dev : Dev) (calls : List Call) (t j : List ℕ) → t ≡ reads_of first calls Target → j ≡ reads_of first calls Journal → part_of dev t j ≡ reads_of first calls dev
part_reads first Target calls t j is_t is_j = is_t
part_reads first Journal calls t j is_t is_j = is_j

-- what both devices read after one was written
pub written_reads : (first : Both (List ℕ)) (dev : Dev) (at : ℕ) (bytes found : List ℕ) (cost : ℕ) (log new : Log) (t j t' j' : List ℕ) → t ≡ reads_of first log.calls Target → j ≡ reads_of first log.calls Journal → new ≡ logged log (record { dev = dev; effect = Writes at bytes found }) cost → at + length bytes ≤ length (part_of dev t j) → part_of dev t' j' ≡ written (part_of dev t j) at bytes → part_of (other_of dev) t' j' ≡ part_of (other_of dev) t j → (t' ≡ reads_of first new.calls Target) × (j' ≡ reads_of first new.calls Journal)
written_reads first Target at bytes found cost log new t j t' j' is_t is_j e inside here other =
    let one = writes_reads first Target at bytes found cost log new e (omega (arith, inside, ap (λ (l : List ℕ). length l) is_t)) in
    let two = logged_other first Target (Writes at bytes found) cost log new e in
    (here ∙ ap (λ (l : List ℕ). written l at bytes) is_t ∙ sym one, other ∙ is_j ∙ sym two)
written_reads first Journal at bytes found cost log new t j t' j' is_t is_j e inside here other =
    let one = writes_reads first Journal at bytes found cost log new e (omega (arith, inside, ap (λ (l : List ℕ). length l) is_j)) in
    let two = logged_other first Journal (Writes at bytes found) cost log new e in
    (other ∙ is_t ∙ sym two, here ∙ ap (λ (l : List ℕ). written l at bytes) is_j ∙ sym one)
