-- The gate of a journal, closed and opened, and the bytes around it.
use Rattle.std.proofs.Common.{◌≡◌, ◌⊎◌, ℕ, ◌+◌, ◌-◌, ◌<◌, ◌≤◌, List, [], ◌∷◌, ◌++◌, length, replicate, take, drop, slice_index, ap, subst, sym, inl, inr, ⊎_elim, ◌∙◌, refl, arith, Bool, IsTrue, Option, None, Some}
use Rattle.std.proofs.lemmas.Bool.{cases_eq, cases_lt}
use Rattle.std.proofs.lemmas.Grind.{same_number_lists}
use Rattle.std.proofs.lemmas.List.{get_or-append-add, get_or-drop, get_or-take, length-append, length-drop, length-take-le}
use Rattle.base_fields.specs.Fields.{written}
use Rattle.bench.specs.declared.Dev.{Dev}
use Rattle.bench.specs.declared.Dev.TheVariants.{Target, Journal}
use Rattle.bench.specs.Disk.{Disk, Grows, IsSettled, Looked, Moves, Steps, StillLeaves, Torn, Touches}
use Rattle.bench.proofs.DiskLemmas.{changes_so, changes_then, grown_then, looked_changes, looked_steps, looked_then, steps_changes, steps_so, steps_then}
use Rattle.journal_format.specs.JobFields.{fields_of}
use Rattle.journal_format.specs.Journals.{HasAllMarks, IsHeld, IsMarked, IsOpenedFor, IsWindow, fields_in, magic_2, window_of}
use Rattle.journal_format.specs.declared.jobs.JobId.{JobId}
use Rattle.journal_format.proofs.JournalLemmas.{front_fields, front_window, held_front, held_in_front, same_front, same_held, same_run, window_2}
use Rattle.copy_journal.proofs.PieceLemmas.{length-written, written_above, written_below, written_inside}
use Rattle.copy_journal.specs.Events.{AreMarked, AreZero, IsClosedOrNew, IsForgetting, IsFound, IsNew, IsReady, IsShut, SameGate, Tells}
use Rattle.copy_journal.specs.declared.looking.Found.{Found}

-- ---- one image, and one torn at the gate

-- where the gate reads the same nothing is torn
pub same_gate : (was now : List ℕ) → Torn 8 1 was now → slice_index now 8 ≡ slice_index was 8 → (k : ℕ) → slice_index now k ≡ slice_index was k
same_gate was now torn gate k = elim (cases_lt k 8) [
  | inl below ↦ torn.below k below
  | inr behind ↦ elim (cases_eq k 8) [
    | inl here ↦ subst (λ (n : ℕ). slice_index now n ≡ slice_index was n) (sym here) gate
    | inr other ↦ torn.above k (omega arith)
  ]
]

-- a gate that is shut
pub shut_not_held : (j : List ℕ) → IsShut j → ¬ IsHeld j
shut_not_held j shut held = shut held.gate

-- a journal with an open gate that isn't held is not held with another gate
pub closing : (was now : List ℕ) → Torn 8 1 was now → slice_index was 8 ≡ 0x47 → ¬ IsHeld was → ¬ IsHeld now
closing was now torn gate not_held held =
    let size = torn.size in
    let long = held.long in
    let same = same_gate was now torn (held.gate ∙ sym gate) in
    not_held (same_held now was (omega arith) (λ k h. sym (same k)) held)

-- a held journal that is torn at its gate is as it was, or isn't held
pub forgetting : (was now : List ℕ) → Torn 8 1 was now → IsHeld was → (now ≡ was) ⊎ ¬ IsHeld now
forgetting was now torn held = elim (cases_eq (slice_index now 8) 0x47) [
  | inl opens ↦
      let same = same_gate was now torn (opens ∙ sym held.gate) in
      inl (same_number_lists now was torn.size (λ k h. same k))
  | inr shut ↦ inr (λ h. shut h.gate)
]

-- the magic and the fields are no part of the gate
front_torn : (was now : List ℕ) → Torn 8 1 was now → 80 ≤ length was → take 8 now ≡ take 8 was
front_torn was now torn long =
    let size = torn.size in
    same_front 8 was now (omega arith) (omega arith) (λ k h. torn.below k h)

fields_torn : (was now : List ℕ) → Torn 8 1 was now → 80 ≤ length was → fields_in now ≡ fields_in was
fields_torn was now torn long =
    let size = torn.size in
    same_run 16 64 was now (omega arith) (omega arith) (λ k low high. torn.above k (omega arith))

-- a journal that is ready is a new one where its gate is open
pub ready_gate : (id : JobId) (w : ℕ) (was now : List ℕ) → IsWindow w → IsReady id w was → Torn 8 1 was now → slice_index now 8 ≡ 0x47 → IsNew id w now
ready_gate id w was now window ready torn gate =
    let size = torn.size in
    let enough = ready.long in
    let long : 80 ≤ length now = omega arith in
    let magic : take 8 now ≡ magic_2 = front_torn was now torn (omega arith) ∙ ready.magic in
    let nine : slice_index now 9 ≡ w = torn.above 9 (omega arith) ∙ ready.window in
    record {
      opened = record {
        held = record { long = long; gate = gate; version = inr (magic, subst IsWindow (sym nine) window) };
        fields = fields_torn was now torn (omega arith) ∙ ready.fields;
        long = omega arith;
      };
      window = window_2 now magic ∙ nine;
      marks = λ i h. torn.above (80 + i) (omega arith) ∙ ready.marks i h;
    }

-- whatever its gate is, it isn't held, or it is opened with no mark
pub ready_torn : (id : JobId) (w : ℕ) (was now : List ℕ) → IsWindow w → IsReady id w was → Torn 8 1 was now → IsClosedOrNew id now
ready_torn id w was now window ready torn = elim (cases_eq (slice_index now 8) 0x47) [
  | inl opens ↦ let new = ready_gate id w was now window ready torn opens in inr (new.opened, λ i h mark. let zero = new.marks i h in omega (arith, zero, mark))
  | inr shut ↦ inl (λ h. shut h.gate)
]

-- one byte that is written tears no other
pub gate_torn : (was : List ℕ) (byte : ℕ) → 9 ≤ length was → Torn 8 1 was (written was 8 (byte ∷ []))
gate_torn was byte long = record {
  size = length-written was (byte ∷ []) 8 long;
  below = λ k h. written_below was (byte ∷ []) 8 k (omega arith) h;
  above = λ k h. written_above was (byte ∷ []) 8 k (omega arith) h;
}

pub new_opened : (id : JobId) (w : ℕ) (was now : List ℕ) → IsWindow w → IsReady id w was → now ≡ written was 8 (0x47 ∷ []) → IsNew id w now
new_opened id w was now window ready is =
    let long = ready.long in
    let torn : Torn 8 1 was now = subst (Torn 8 1 was) (sym is) (gate_torn was 0x47 (omega arith)) in
    ready_gate id w was now window ready torn (ap (λ (j : List ℕ). slice_index j 8) is ∙ written_inside was (0x47 ∷ []) 8 0 (omega arith) (omega arith))

-- ---- a new journal but for its gate

-- a run of a list that has these bytes
bytes_there : (at n : ℕ) (xs bytes : List ℕ) → at + n ≤ length xs → length bytes ≡ n → ((k : ℕ) → k < n → slice_index xs (at + k) ≡ slice_index bytes k) → take n (drop at xs) ≡ bytes
bytes_there at n xs bytes inside long same =
    let len : length (take n (drop at xs)) ≡ n = length-take-le n (drop at xs) (omega (arith, length-drop at xs)) in
    same_number_lists (take n (drop at xs)) bytes (len ∙ sym long) (λ k h. let within : k < n = omega arith in get_or-take n (drop at xs) k 0 within ∙ (get_or-drop at xs k 0 ∙ same k within))

first_bytes : (n : ℕ) (xs bytes : List ℕ) → n ≤ length xs → length bytes ≡ n → ((k : ℕ) → k < n → slice_index xs k ≡ slice_index bytes k) → take n xs ≡ bytes
first_bytes n xs bytes inside long same =
    let len : length (take n xs) ≡ n = length-take-le n xs inside in
    same_number_lists (take n xs) bytes (len ∙ sym long) (λ k h. let within : k < n = omega arith in get_or-take n xs k 0 within ∙ same k within)

pub prepared : (id : JobId) (w : ℕ) (old new magic body : List ℕ) → 80 + id.units + id.ranges ≤ length old → magic ≡ magic_2 → length magic ≡ 8 → body ≡ w ∷ replicate 6 0 ++ fields_of id → length body ≡ 71 → Torn 80 (id.units + id.ranges) (written (written old 0 magic) 9 body) new → AreZero 80 (id.units + id.ranges) new → IsReady id w new
prepared id w old new magic body enough is_magic eight is_body seventy torn zero =
    let one = written old 0 magic in
    let two = written one 9 body in
    let in_one : length one ≡ length old = length-written old magic 0 (omega arith) in
    let in_two : length two ≡ length one = length-written one body 9 (omega arith) in
    let size = torn.size in
    let in_fields : length (fields_of id) ≡ 64 = let e : length body ≡ 7 + length (fields_of id) = ap length is_body ∙ length-append (w ∷ replicate 6 0) (fields_of id) in omega arith in
    let at_magic : (k : ℕ) → k < 8 → slice_index new k ≡ slice_index magic k = λ k h.
    torn.below k (omega arith) ∙ (written_below one body 9 k (omega arith) (omega arith) ∙ (ap (slice_index one) (omega arith) ∙ written_inside old magic 0 k (omega arith) (omega arith))) in
    let at_body : (k : ℕ) → k < 71 → slice_index new (9 + k) ≡ slice_index body k = λ k h.
    torn.below (9 + k) (omega arith) ∙ written_inside one body 9 k (omega arith) (omega arith) in
    let at_fields : (k : ℕ) → k < 64 → slice_index new (16 + k) ≡ slice_index (fields_of id) k = λ k h.
    let place : 16 + k ≡ 9 + (7 + k) = omega arith in
    ap (slice_index new) place ∙ (at_body (7 + k) (omega arith) ∙ (ap (λ (xs : List ℕ). slice_index xs (7 + k)) is_body ∙ get_or-append-add (w ∷ replicate 6 0) (fields_of id) k 0)) in
    record {
      long = omega arith;
      magic = first_bytes 8 new magic (omega arith) eight at_magic ∙ is_magic;
      window = at_body 0 (omega arith) ∙ ap (λ (xs : List ℕ). slice_index xs 0) is_body;
      fields = bytes_there 16 64 new (fields_of id) (omega arith) in_fields at_fields;
      marks = λ i h. zero (80 + i) (omega arith) (omega arith);
    }

-- ---- what a look finds

pub found_tells : (j head : List ℕ) (len : ℕ) (found : Option Found) → len ≡ length j → 80 ≤ length j → head ≡ take 80 j → Tells len head found → Tells (length j) j found
found_tells j head len None size long is finds = λ held. finds (subst IsHeld (sym is) (held_in_front j held))
found_tells j head len (Some f) size long is finds =
    let held : IsHeld j = held_front j long (subst IsHeld is finds.held) in
    record {
      held = held;
      long = finds.long ∙ size;
      window = finds.window ∙ (ap window_of is ∙ front_window j held);
      fields = finds.fields ∙ (ap fields_in is ∙ front_fields j long);
    }

-- ---- the devices

-- a journal that is held, settled, and closed
pub gate_forgotten : {a b c : Disk} → Looked a b → StillLeaves Target a b → IsSettled b Journal → IsHeld (a.reads Journal) → Touches Journal 8 1 b c → Moves (IsForgetting a) a c
gate_forgotten {a} {b} {c} looked stays settled held touches =
    changes_then (looked_changes Journal looked stays (λ image was. inl was))
    (steps_changes touches (λ was now leaves torn.
    let reads : b.reads Journal ≡ a.reads Journal = ap (λ (f : _). f Journal) looked.reads in
    let is : was ≡ a.reads Journal = settled was leaves ∙ reads in
    ⊎_elim (λ same. inl (subst (a.leaves Journal) (sym same) (looked.images Journal was leaves))) (λ none. inr none)
    (forgetting was now torn (subst IsHeld (sym is) held))))

-- the gate's byte stays
pub same_gate_then : {a b c : Disk} → Steps Journal SameGate a b → Steps Journal SameGate b c → Steps Journal SameGate a c
same_gate_then {a} {b} {c} first second = steps_then (λ x y z one two. two ∙ one) first second

pub grows_same_gate : {whole : ℕ} {a b : Disk} → Grows whole a b → Steps Journal SameGate a b
grows_same_gate {whole} {a} {b} grows = steps_so grows (λ x y grown. grown.same 8)

pub below_same_gate : {n : ℕ} {a b : Disk} → Touches Journal 0 n a b → n ≤ 8 → Steps Journal SameGate a b
below_same_gate {n} {a} {b} touches end = steps_so touches (λ x y torn. torn.above 8 (omega (arith, end)))

pub above_same_gate : {at n : ℕ} {a b : Disk} → Touches Journal at n a b → 8 < at → Steps Journal SameGate a b
above_same_gate {at} {n} {a} {b} touches start = steps_so touches (λ x y torn. torn.below 8 start)

-- a settled journal whose gate is shut, after its other bytes were written
pub shut_moves : {id : JobId} {a b c : Disk} → Moves (λ image. ¬ IsHeld image) a b → IsSettled b Journal → IsShut (b.reads Journal) → Steps Journal SameGate b c → Moves (IsClosedOrNew id) a c
shut_moves {id} {a} {b} {c} first settled shut steps =
    changes_then (changes_so first (λ image none. inl none))
    (steps_changes steps (λ was now leaves same.
    let is : was ≡ b.reads Journal = settled was leaves in
    inl (shut_not_held now (λ opens. shut (ap (λ (j : List ℕ). slice_index j 8) (sym is) ∙ (sym same ∙ opens))))))

-- and its gate after that
pub open_moves : {id : JobId} {w : ℕ} {a b c : Disk} → IsWindow w → Moves (IsClosedOrNew id) a b → IsReady id w (b.reads Journal) → Moves (Torn 8 1 (b.reads Journal)) b c → Moves (IsClosedOrNew id) a c
open_moves {id} {w} {a} {b} {c} window first ready second =
    changes_then first (changes_so second (λ image torn. ready_torn id w (b.reads Journal) image window ready torn))

-- a look, and a growth
pub looked_grows : {whole : ℕ} {a b c : Disk} → Looked a b → StillLeaves Target a b → Grows whole b c → Grows whole a c
looked_grows {whole} {a} {b} {c} looked stays grows =
    steps_then (λ x y z one two. grown_then one two (omega arith))
    (looked_steps Journal (λ x. record { no_shorter = omega arith; no_longer = omega arith; same = λ k. refl }) looked stays) grows

-- a settled device that is looked at is settled
pub settled_looked : {dev : Dev} {a b : Disk} → IsSettled a dev → Looked a b → IsSettled b dev
settled_looked {dev} {a} {b} settled looked = λ image now. settled image (looked.images dev image now) ∙ ap (λ (f : Dev → List ℕ). f dev) (sym looked.reads)

-- ---- what is found, and the job

pub found_opened : (id : JobId) (j : List ℕ) (found : Found) → IsFound (length j) j found → (found.held.fields ≡ fields_of id) × (80 + id.units + id.ranges ≤ found.length) → IsOpenedFor id j
found_opened id j found is matches = record {
  held = is.held;
  fields = sym is.fields ∙ matches.0;
  long = let long = is.long in let enough = matches.1 in omega arith;
}

pub opened_found : (id : JobId) (j : List ℕ) (found : Found) → IsFound (length j) j found → IsOpenedFor id j → (found.held.fields ≡ fields_of id) × (80 + id.units + id.ranges ≤ found.length)
opened_found id j found is opened = (is.fields ∙ opened.fields, let long = is.long in let enough = opened.long in omega arith)

-- all marks are recorded, where the run of them is
pub finished_is : (id : JobId) (j : List ℕ) (found : Found) (all : Bool) → IsFound (length j) j found → (found.held.fields ≡ fields_of id) × (80 + id.units + id.ranges ≤ found.length) → (IsTrue all → AreMarked 80 (id.units + id.ranges) j) × (AreMarked 80 (id.units + id.ranges) j → IsTrue all) → (IsTrue all → IsOpenedFor id j × HasAllMarks id j) × (IsOpenedFor id j × HasAllMarks id j → IsTrue all)
finished_is id j found all is matches marked = (
  λ yes. (found_opened id j found is matches, λ i h. marked.0 yes (80 + i) (omega arith) (omega arith)),
  λ both. marked.1 (λ k low high.
      let i = k - 80 in
      let place : 80 + i ≡ k = omega arith in
      subst (IsMarked j) place (both.1 i (omega arith))),
)

-- the gate's byte that was read
pub gate_read : (j buf : List ℕ) (byte : ℕ) → buf ≡ take 1 (drop 8 j) → slice_index buf 0 ≡ byte → slice_index j 8 ≡ byte
gate_read j buf byte is reads = sym (get_or-drop 8 j 0 0) ∙ (sym (get_or-take 1 (drop 8 j) 0 0 (omega arith)) ∙ (ap (λ (xs : List ℕ). slice_index xs 0) (sym is) ∙ reads))

-- what is found is a held journal
pub some_held : (j : List ℕ) (found : Option Found) (f : Found) → found ≡ Some f → Tells (length j) j found → IsHeld j
some_held j None f is tells = absurd (cc)
some_held j (Some g) f is tells = tells.held

-- a settled journal that isn't held, whose open gate was read, and closed
pub gate_closing : {a b c d : Disk} {buf : List ℕ} → IsSettled a Journal → ¬ IsHeld (a.reads Journal) → Looked a b → StillLeaves Target a b → Looked b c → StillLeaves Target b c → buf ≡ take 1 (drop 8 (b.reads Journal)) → slice_index buf 0 ≡ 0x47 → Touches Journal 8 1 c d → Moves (λ image. ¬ IsHeld image) a d
gate_closing {a} {b} {c} {d} {buf} settled not_held first first_stays second second_stays read opens touches =
    let looked = looked_then first second in
    let none : (image : List ℕ) → a.leaves Journal image → ¬ IsHeld image = λ image was. subst (λ (j : List ℕ). ¬ IsHeld j) (sym (settled image was)) not_held in
    let gate : slice_index (a.reads Journal) 8 ≡ 0x47 = ap (λ (f : Dev → List ℕ). slice_index (f Journal) 8) (sym first.reads) ∙ gate_read (b.reads Journal) buf 0x47 read opens in
    changes_then (looked_changes Journal looked (λ image was. second_stays image (first_stays image was)) none)
    (steps_changes touches (λ was now leaves torn.
    let was_before = looked.images Journal was leaves in
    closing was now torn (ap (λ (j : List ℕ). slice_index j 8) (settled was was_before) ∙ gate) (none was was_before)))
