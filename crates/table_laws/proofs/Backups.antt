-- A backup is that of the table in front where a reader finds no difference, and the other way round.
use Rattle.std.specs.Prelude.{◌≡◌, ℕ, ◌+◌, ◌-◌, ◌*◌, ◌/◌, ◌%◌, ◌<◌, ◌≤◌, ◌==◌, not, nat_lt, List, [], ◌∷◌, cond, get_or, length, Bool, true, false, Option, None, Some, option_map}
use Rattle.std.specs.List.{position_or_len, zip}
use Rattle.std.proofs.Common.{refl, ap, sym, ◌∙◌, arith, inl, inr}
use Rattle.std.proofs.lemmas.Bool.{and_from, and_parts, cases_lt, eq-eqb, eqb-true, le-ltb, ltb-false}
use Rattle.std.proofs.lemmas.List.{ext_get_or}
use Rattle.base_fields.specs.Fields.{number_at}
use Rattle.base_fields.proofs.Images.{same_number}
use Rattle.gpt_table.specs.Reading.{guid_at, slot_at}
use Rattle.gpt_reading.specs.Differences.{agreements, first_unlike}
use Rattle.table_reading.specs.Header.{first_unmet, said}
use Rattle.table_reading.specs.Recognised.{image_of}
use Rattle.table_reader.specs.Halves.{Half, entries_at, or_entry, unlike}
use Rattle.table_reader.specs.declared.fault.TableFault.TheVariants.{BadGpt}
use Rattle.table_laws.specs.ReadAs.{AreBytes}
use Rattle.table_laws.proofs.Headers.{all_met, none_mapped, none_unmet, said_there}
use Rattle.table_laws.proofs.Images.{Same, guid_bytes, number_bytes, same_guid, same_slot, shifted, slot_bytes}
use Rattle.table_laws.proofs.Parts.{byte_in, length-part, part}

-- ---- the entries

-- two bytes that aren't the same
abbrev differ : ℕ × ℕ → Bool
differ both = not (both.0 == both.1)

first_alike : (same : Bool) (n rest : ℕ) → n + 1 ≤ cond (not (not same)) (1 + rest) 0 → (same ≡ true) × (n ≤ rest)
first_alike true n rest h = (refl, omega (arith, h))
first_alike false n rest h = absurd (omega (arith, h))

alike : (xs ys : List ℕ) → length xs ≡ length ys → length (zip xs ys) ≤ position_or_len differ (zip xs ys) → xs ≡ ys
alike [] [] long all = refl
alike [] (y ∷ ys) long all = absurd (omega (arith, long))
alike (x ∷ xs) [] long all = absurd (omega (arith, long))
alike (x ∷ xs) (y ∷ ys) long all =
    let one = first_alike (x == y) (length (zip xs ys)) (position_or_len differ (zip xs ys)) (omega (arith, all)) in
    let rest = alike xs ys (omega (arith, long)) one.1 in
    ap (λ (n : ℕ). n ∷ xs) (eqb-true x y one.0) ∙ ap (λ (zs : List ℕ). y ∷ zs) rest

none_passes : (below : Bool) (n : ℕ) → cond below (Some n) None ≡ None → below ≡ false
none_passes true n h = absurd cc
none_passes false n h = refl

unlike_none : (xs ys : List ℕ) → length xs ≡ length ys → first_unlike xs ys ≡ None → xs ≡ ys
unlike_none xs ys long h =
    let all = none_passes (nat_lt (position_or_len differ (zip xs ys)) (length (zip xs ys)))
    (position_or_len differ (zip xs ys)) h in
    alike xs ys long (ltb-false _ _ all)

all_alike : (xs : List ℕ) → length (zip xs xs) ≤ position_or_len differ (zip xs xs)
all_alike [] = omega arith
all_alike (x ∷ xs) =
    let same : (x == x) ≡ true = eq-eqb x x refl in
    let rest = all_alike xs in
    rw same (omega (arith, rest))

alike_none : (xs : List ℕ) → first_unlike xs xs ≡ None
alike_none xs =
    let all = all_alike xs in
    let past : nat_lt (position_or_len differ (zip xs xs)) (length (zip xs xs)) ≡ false = le-ltb _ _ all in
    rw past refl

parts_same : (bytes : List ℕ) (p q n : ℕ) → part bytes p n ≡ part bytes q n →
    Same (image_of bytes) (image_of bytes) p q n
parts_same bytes p q n same j inside =
    sym (byte_in bytes p n j inside) ∙ ap (λ (xs : List ℕ). get_or xs j 0) same ∙ byte_in bytes q n j inside

parts_alike : (bytes : List ℕ) (p q n : ℕ) → p + n ≤ length bytes → q + n ≤ length bytes →
    Same (image_of bytes) (image_of bytes) p q n → part bytes p n ≡ part bytes q n
parts_alike bytes p q n within inside same =
    let long = length-part bytes p n within in
    ext_get_or 0 (part bytes p n) (part bytes q n) (long ∙ sym (length-part bytes q n inside))
    (λ i h. let below : i < n = omega (arith, long, h) in
    byte_in bytes p n i below ∙ same i below ∙ sym (byte_in bytes q n i below))

-- entries of the same bytes have the same slots
slots_alike : (image : ℕ → ℕ) (p q k : ℕ) → k < 128 → Same image image p q 16384 →
    slot_at image (p + 128 * k) ≡ slot_at image (q + 128 * k)
slots_alike image p q k few same =
    same_slot image image (p + 128 * k) (q + 128 * k)
    (shifted image image p q 16384 (128 * k) 128 (omega (arith, few)) same)

-- and the other way round
bytes_alike : (image : ℕ → ℕ) (p q : ℕ) → ((o : ℕ) → image o < 256) →
    ((k : ℕ) → k < 128 → slot_at image (p + 128 * k) ≡ slot_at image (q + 128 * k)) → Same image image p q 16384
bytes_alike image p q small slots j inside =
    let here : p + j ≡ p + 128 * (j / 128) + j % 128 = omega arith in
    let there : q + 128 * (j / 128) + j % 128 ≡ q + j = omega arith in
    ap image here
    ∙ slot_bytes image image (p + 128 * (j / 128)) (q + 128 * (j / 128)) small small (slots (j / 128) (omega arith))
    (j % 128) (omega arith)
    ∙ ap image there

-- ---- the headers

-- the headers at two offsets say the same of the disk
pub record Agree (image : ℕ → ℕ) (front back : ℕ) : Type 0 where
  pub first_usable : number_at image (back + 40) 8 ≡ number_at image (front + 40) 8
  pub last_usable : number_at image (back + 48) 8 ≡ number_at image (front + 48) 8
  pub disk : guid_at image (back + 56) ≡ guid_at image (front + 56)

-- an identifier by two numbers
two_numbers : (image : ℕ → ℕ) (o p : ℕ) → ((k : ℕ) → image k < 256) → number_at image o 8 ≡ number_at image p 8 →
    number_at image (o + 8) 8 ≡ number_at image (p + 8) 8 → Same image image o p 16
two_numbers image o p small first second j inside = elim (cases_lt j 8) [
  | inl early ↦ number_bytes image image o p 8 small small first j early
  | inr late ↦
      let here : o + j ≡ o + 8 + (j - 8) = omega arith in
      let there : p + 8 + (j - 8) ≡ p + j = omega arith in
      ap image here ∙ number_bytes image image (o + 8) (p + 8) 8 small small second (j - 8) (omega arith)
      ∙ ap image there
]

-- a number that two headers have in the same place
abbrev heads_say : List ℕ → ℕ → ℕ → ℕ → Bool
heads_say bytes front back at = said (part bytes back 92) at 8 == said (part bytes front 92) at 8

say_found : (bytes : List ℕ) (front back at : ℕ) → at + 8 ≤ 92 → heads_say bytes front back at ≡ true →
    number_at (image_of bytes) (back + at) 8 ≡ number_at (image_of bytes) (front + at) 8
say_found bytes front back at within same =
    sym (said_there bytes back at 8 within) ∙ eqb-true _ _ same ∙ said_there bytes front at 8 within

say_there : (bytes : List ℕ) (front back at : ℕ) → at + 8 ≤ 92 →
    number_at (image_of bytes) (back + at) 8 ≡ number_at (image_of bytes) (front + at) 8 →
    heads_say bytes front back at ≡ true
say_there bytes front back at within same =
    eq-eqb _ _ (said_there bytes back at 8 within ∙ same ∙ sym (said_there bytes front at 8 within))

agree_found : (bytes : List ℕ) (front back : ℕ) → AreBytes bytes →
    first_unmet (agreements (part bytes front 92) (part bytes back 92)) ≡ None → Agree (image_of bytes) front back
agree_found bytes front back small h =
    let image = image_of bytes in
    let met = all_met (agreements (part bytes front 92) (part bytes back 92)) h in
    let disk = and_parts (heads_say bytes front back 56) (heads_say bytes front back 64) met.1.1.0 in
    let place : (o : ℕ) → o + 64 ≡ o + 56 + 8 = λ o. omega arith in
    let second : number_at image (back + 56 + 8) 8 ≡ number_at image (front + 56 + 8) 8 =
    ap (λ (o : ℕ). number_at image o 8) (sym (place back)) ∙ say_found bytes front back 64 (omega arith) disk.1
    ∙ ap (λ (o : ℕ). number_at image o 8) (place front) in
    record {
      first_usable = say_found bytes front back 40 (omega arith) met.0;
      last_usable = say_found bytes front back 48 (omega arith) met.1.0;
      disk = same_guid image image (back + 56) (front + 56)
          (two_numbers image (back + 56) (front + 56) small
          (say_found bytes front back 56 (omega arith) disk.0) second);
    }

agree_there : (bytes : List ℕ) (front back : ℕ) → Agree (image_of bytes) front back →
    first_unmet (agreements (part bytes front 92) (part bytes back 92)) ≡ None
agree_there bytes front back agree =
    let image = image_of bytes in
    let same = guid_bytes image image (back + 56) (front + 56) agree.disk in
    let first : number_at image (back + 56) 8 ≡ number_at image (front + 56) 8 =
    same_number image image (back + 56) (front + 56) 8 (λ j h. same j (omega arith)) in
    let place : (o : ℕ) → o + 56 + 8 ≡ o + 64 = λ o. omega arith in
    let second : number_at image (back + 64) 8 ≡ number_at image (front + 64) 8 =
    ap (λ (o : ℕ). number_at image o 8) (sym (place back))
    ∙ same_number image image (back + 56 + 8) (front + 56 + 8) 8
    (shifted image image (back + 56) (front + 56) 16 8 8 (omega arith) same)
    ∙ ap (λ (o : ℕ). number_at image o 8) (place front) in
    none_unmet (agreements (part bytes front 92) (part bytes back 92)) (
      say_there bytes front back 40 (omega arith) agree.first_usable,
      (
        say_there bytes front back 48 (omega arith) agree.last_usable,
        (
          and_from (heads_say bytes front back 56) (heads_say bytes front back 64)
              (say_there bytes front back 56 (omega arith) first) (say_there bytes front back 64 (omega arith) second),
          tt,
        ),
      ),
    )

-- ---- both

no_difference : (unmet : Option ℕ) (z own : ℕ) (front back : Half) → or_entry unmet z own front back ≡ None →
    (unmet ≡ None) × (first_unlike front.entries back.entries ≡ None)
no_difference None z own front back h = (
  refl,
  none_mapped (λ k. BadGpt (entries_at back.head z + k))
      (first_unlike front.entries back.entries) h,
)
no_difference (Some field) z own front back h = absurd cc

-- the halves that stand at two offsets, with their entries at two others
pub record AreAlike (image : ℕ → ℕ) (front back front_entries back_entries : ℕ) : Type 0 where
  pub agree : Agree image front back
  pub slots : (k : ℕ) → k < 128 → slot_at image (back_entries + 128 * k) ≡ slot_at image (front_entries + 128 * k)

-- the half with its header at an offset and its entries at another
abbrev pub half_by : List ℕ → ℕ → ℕ → Half
half_by bytes o place = record { head = part bytes o 92; entries = part bytes place 16384 }

pub alike_found : (bytes : List ℕ) (z own front back front_entries back_entries : ℕ) → AreBytes bytes →
    front_entries + 16384 ≤ length bytes → back_entries + 16384 ≤ length bytes →
    unlike z own (half_by bytes front front_entries) (half_by bytes back back_entries) ≡ None →
    AreAlike (image_of bytes) front back front_entries back_entries
alike_found bytes z own front back front_entries back_entries small within inside h =
    let none = no_difference (first_unmet (agreements (part bytes front 92) (part bytes back 92))) z own
    (half_by bytes front front_entries) (half_by bytes back back_entries) h in
    let long = length-part bytes front_entries 16384 within ∙ sym (length-part bytes back_entries 16384 inside) in
    let same = unlike_none (part bytes front_entries 16384) (part bytes back_entries 16384) long none.1 in
    record {
      agree = agree_found bytes front back small none.0;
      slots = λ k few. slots_alike (image_of bytes) back_entries front_entries k few
          (parts_same bytes back_entries front_entries 16384 (sym same));
    }

pub alike_there : (bytes : List ℕ) (z own front back front_entries back_entries : ℕ) → AreBytes bytes →
    front_entries + 16384 ≤ length bytes → back_entries + 16384 ≤ length bytes →
    AreAlike (image_of bytes) front back front_entries back_entries →
    unlike z own (half_by bytes front front_entries) (half_by bytes back back_entries) ≡ None
alike_there bytes z own front back front_entries back_entries small within inside alike =
    let image = image_of bytes in
    let none = agree_there bytes front back alike.agree in
    let same : part bytes back_entries 16384 ≡ part bytes front_entries 16384 =
    parts_alike bytes back_entries front_entries 16384 inside within
    (bytes_alike image back_entries front_entries small alike.slots) in
    let clear : first_unlike (part bytes front_entries 16384) (part bytes back_entries 16384) ≡ None =
    ap (λ (xs : List ℕ). first_unlike (part bytes front_entries 16384) xs) same
    ∙ alike_none (part bytes front_entries 16384) in
    ap (λ (unmet : Option ℕ). or_entry unmet z own (half_by bytes front front_entries)
    (half_by bytes back back_entries)) none
    ∙ ap (option_map (λ (k : ℕ). BadGpt (entries_at (part bytes back 92) z + k))) clear
