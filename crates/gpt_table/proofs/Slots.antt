-- The slots of a table, one after another.
use Rattle.std.specs.Prelude.{◌≡◌, ℕ, zero, suc, ◌+◌, ◌-◌, ◌*◌, ◌/◌, ◌%◌, ◌<◌, List, [], ◌∷◌, ◌++◌, length, get_or, take, drop, flat_map, replicate, slice_get}
use Rattle.std.proofs.Common.{◌≤◌, refl, ◌∙◌, sym, ap, arith}
use Rattle.std.proofs.lemmas.Grind.{common_steps}
use Rattle.std.proofs.lemmas.List.{get_or_append_left, get_or-append-add, length-append, length-take-le, length_push, take_at, drop_at, drop-drop, drop-replicate, flat_map_more, append_assoc}
use Rattle.byteorder.specs.Endian.{little_bytes}
use Rattle.base_fields.specs.Fields.{byte_of, written, joined}
use Rattle.base_fields.specs.Numbers.{guid_order}
use Rattle.base_fields.specs.Crc.{crc32_of}
use Rattle.gpt_table.proofs.Spans.{bytes_at-is}
use Rattle.gpt_table.specs.Gpt.{EntryFits, HasLengths, entry_fields, entries_byte, slot_byte, slot_of, sum_of_entries}
use Rattle.gpt_table.specs.declared.entry.GptEntry.{GptEntry}
use Rattle.base_fields.proofs.FieldRuns.{IsRun, byte_of-start}

pub length-guid : (id : List ℕ) → length id ≡ 16 → length (guid_order id) ≡ 16
length-guid (a ∷ b ∷ c ∷ d ∷ e ∷ f ∷ g ∷ h ∷ i ∷ j ∷ k ∷ l ∷ m ∷ n ∷ o ∷ p ∷ []) sixteen = refl
length-guid _ sixteen = absurd (omega arith)

pub length-units : (units : List ℕ) → length (flat_map (little_bytes 2) units) ≡ 2 * length units
length-units [] = refl
length-units (u ∷ us) = let more = length-units us in omega arith

pub entry_run : (e : GptEntry) → HasLengths e → IsRun 0 (entry_fields e)
entry_run e has =
    let kind = length-guid e.kind has.kind in
    let own = length-guid e.own has.own in
    (refl, (omega arith, (omega arith, (omega arith, (omega arith, (omega arith, tt))))))

pub length-entry : (e : GptEntry) → HasLengths e → length (joined (entry_fields e)) ≡ 128
length-entry e has =
    let kind = length-guid e.kind has.kind in
    let own = length-guid e.own has.own in
    let name = length-units e.name in
    let named : length (flat_map (little_bytes 2) e.name) ≡ 72 = omega (arith, has.name) in
    grind (arith, common_steps)

-- the bytes of one slot that is used
abbrev pub slot_bytes : GptEntry → List ℕ
slot_bytes e = joined (entry_fields e)

abbrev pub Fit : List GptEntry → Type 0
Fit [] = Unit {0}
Fit (e ∷ es) = EntryFits e × Fit es

-- a room of n bytes in which these entries stand one after another, and zeros behind them
pub record IsFilled (es : List GptEntry) (n : ℕ) (room : List ℕ) : Type 0 where
  pub each : Fit es
  pub bytes : room ≡ flat_map slot_bytes es ++ replicate (n - 128 * length es) 0

fit_more : (es : List GptEntry) (e : GptEntry) → Fit es → EntryFits e → Fit (es ++ e ∷ [])
fit_more [] e each has = (has, tt)
fit_more (x ∷ es) e each has = (each.0, fit_more es e each.1 has)

length-slots : (es : List GptEntry) → Fit es → length (flat_map slot_bytes es) ≡ 128 * length es
length-slots [] each = refl
length-slots (e ∷ es) each =
    let one = length-entry e each.0.lengths in
    let more = length-slots es each.1 in
    length-append (slot_bytes e) (flat_map slot_bytes es) ∙ omega arith

pub zeros_are_zero : (n i : ℕ) → get_or {A = ℕ} (replicate n 0) i 0 ≡ 0
zeros_are_zero zero i = refl
zeros_are_zero (suc n) zero = refl
zeros_are_zero (suc n) (suc i) = zeros_are_zero n i

slot_byte_of : (e : GptEntry) (j : ℕ) → HasLengths e → get_or (slot_bytes e) j 0 ≡ byte_of (entry_fields e) j
slot_byte_of e j has =
    sym (byte_of-start (entry_fields e) j (entry_run e has))

-- the byte j of slot k
slots_byte : (es : List GptEntry) (n k j : ℕ) → Fit es → j < 128 → get_or (flat_map slot_bytes es ++ replicate n 0) (128 * k + j) 0 ≡ slot_byte (slice_get es k) j
slots_byte [] n k j each inside = zeros_are_zero n (128 * k + j)
slots_byte (e ∷ es) n zero j each inside =
    let one = length-entry e each.0.lengths in
    let here : 128 * 0 + j ≡ j = omega arith in
    let whole = append_assoc (slot_bytes e) (flat_map slot_bytes es) (replicate n 0) in
    rw (here, whole, get_or_append_left (slot_bytes e) (flat_map slot_bytes es ++ replicate n 0) 0 j (omega arith)) (slot_byte_of e j each.0.lengths)
slots_byte (e ∷ es) n (suc k) j each inside =
    let one = length-entry e each.0.lengths in
    let there : 128 * suc k + j ≡ length (slot_bytes e) + (128 * k + j) = omega arith in
    let whole = append_assoc (slot_bytes e) (flat_map slot_bytes es) (replicate n 0) in
    rw (there, whole, get_or-append-add (slot_bytes e) (flat_map slot_bytes es ++ replicate n 0) (128 * k + j) 0) (slots_byte es n k j each.1 inside)

-- which byte stands at each offset
pub filled_byte : (es : List GptEntry) (n : ℕ) (room : List ℕ) (o : ℕ) → IsFilled es n room → get_or room o 0 ≡ entries_byte es o
filled_byte es n room o is =
    let split : o ≡ 128 * (o / 128) + o % 128 = omega arith in
    ap (λ (xs : List ℕ). get_or xs o 0) is.bytes
    ∙ ap (λ (i : ℕ). get_or (flat_map slot_bytes es ++ replicate (n - 128 * length es) 0) i 0) split
    ∙ slots_byte es (n - 128 * length es) (o / 128) (o % 128) is.each (omega arith)

-- one more entry
pub filled_more : (es : List GptEntry) (e : GptEntry) (n at : ℕ) (room : List ℕ) → IsFilled es n room → EntryFits e → at ≡ 128 * length es → at + 128 ≤ n → IsFilled (es ++ e ∷ []) n (written room at (slot_bytes e))
filled_more es e n at room is has here fits =
    let front = length-slots es is.each in
    let one = length-entry e has.lengths in
    let longer = length_push es e in
    let left : n - 128 * length es - 128 ≡ n - 128 * length (es ++ e ∷ []) = omega arith in
    let cut : take at room ≡ flat_map slot_bytes es = ap (take at) is.bytes ∙ take_at (flat_map slot_bytes es) _ at (omega arith) in
    let rest : drop (at + length (slot_bytes e)) room ≡ replicate (n - 128 * length (es ++ e ∷ [])) 0 =
    ap (drop (at + length (slot_bytes e))) is.bytes
    ∙ ap (λ (m : ℕ). drop m (flat_map slot_bytes es ++ replicate (n - 128 * length es) 0)) (ap (λ (m : ℕ). at + m) one)
    ∙ sym (drop-drop 128 at (flat_map slot_bytes es ++ replicate (n - 128 * length es) 0))
    ∙ ap (drop 128) (drop_at (flat_map slot_bytes es) (replicate (n - 128 * length es) 0) at (omega arith))
    ∙ drop-replicate 128 (n - 128 * length es) 0
    ∙ ap (λ (m : ℕ). replicate m 0) left in
    record {
      each = fit_more es e is.each has;
      bytes = ap (λ (xs : List ℕ). xs ++ slot_bytes e ++ drop (at + length (slot_bytes e)) room) cut
          ∙ ap (λ (xs : List ℕ). flat_map slot_bytes es ++ slot_bytes e ++ xs) rest
          ∙ ap (λ (xs : List ℕ). xs ++ replicate (n - 128 * length (es ++ e ∷ [])) 0) (flat_map_more slot_bytes [] es e);
    }

-- one more turn of the loop that fills the room
pub filled_step : (entries : List GptEntry) (k n : ℕ) (room new : List ℕ) (e : GptEntry) → IsFilled (take k entries) n room → k < length entries → 128 * length entries ≤ n → EntryFits e → new ≡ written room (128 * k) (slot_bytes e) → take (k + 1) entries ≡ take k entries ++ e ∷ [] → IsFilled (take (k + 1) entries) n new
filled_step entries k n room new e is inside fits has wrote more =
    let len = length-take-le k entries (omega arith) in
    let place : 128 * k ≡ 128 * length (take k entries) = ap (λ (m : ℕ). 128 * m) (sym len) in
    rw (more, wrote) (filled_more (take k entries) e n (128 * k) room is has place (omega arith))

-- an entry of those in the room
pub fit_at : (es : List GptEntry) (k : ℕ) → Fit es → k < length es → EntryFits (slot_of es k)
fit_at [] k each inside = absurd (omega arith)
fit_at (e ∷ es) zero each inside = each.0
fit_at (e ∷ es) (suc k) each inside = fit_at es k each.1 (omega arith)

-- the sum over a room that has the entries' bytes
pub entries_sum_is : (entries : List GptEntry) (room : List ℕ) → length room ≡ 16384 → ((o : ℕ) → o < 16384 → get_or room o 0 ≡ entries_byte entries o) → crc32_of room ≡ sum_of_entries entries
unfolding sum_of_entries
entries_sum_is entries room long same =
    ap crc32_of (sym (bytes_at-is (entries_byte entries) 0 16384 room long (λ i h. ap (entries_byte entries) (omega arith) ∙ sym (same i h))))
