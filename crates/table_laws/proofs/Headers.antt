-- A header that has no fault is one that the image has, and the other way round.
use Rattle.std.specs.Prelude.{◌≡◌, ◌≢◌, ℕ, zero, suc, ◌+◌, ◌*◌, ◌<◌, ◌≤◌, ◌==◌, ◌||◌, not, List, [], ◌∷◌, ◌++◌, codes, get_or, length, replicate, take, drop, Bool, true, false, Option, None, Some, option_map, Ok, if◌then◌else◌}
use Rattle.std.proofs.Common.{refl, ap, sym, ◌∙◌, arith, lit<}
use Rattle.std.proofs.lemmas.Bool.{eq-eqb, eqb-false, eqb-true, ne_eqb, not-true, not_from_false}
use Rattle.std.proofs.lemmas.List.{get_or-drop, get_or-take, length-drop, length-take-le}
use Rattle.base_fields.specs.Crc.{crc32_of}
use Rattle.base_fields.specs.Fields.{number_at}
use Rattle.base_fields.proofs.Binds.{bind_ok}
use Rattle.base_fields.proofs.Images.{same_number}
use Rattle.gpt_table.specs.Span.{bytes_at}
use Rattle.gpt_table.proofs.Spans.{bytes_at-is, get_or-bytes_at}
use Rattle.table_reading.specs.Header.{Demand, demands, fault_of, first_unmet, or_sum, said, sum_of}
use Rattle.table_reading.specs.Recognised.{image_of}
use Rattle.table_reading.specs.declared.header.HeaderFault.TheVariants as fault
use Rattle.table_reader.specs.Halves.{header_of, refusal_at}
use Rattle.table_reader.specs.Parts.{part_of, unless}
use Rattle.table_reader.specs.declared.fault.TableFault.{TableFault}
use Rattle.table_laws.specs.ReadAs.{AreBytes}
use Rattle.table_laws.proofs.Images.{fewer, number_bytes}
use Rattle.table_laws.proofs.Parts.{byte_in, length-part, part, part_found, part_there, same_part, same_within}

-- ---- nothing is at fault

abbrev pub AllMet : List Demand → Type 0
AllMet [] = Unit {0}
AllMet (d ∷ ds) = (d.met ≡ true) × AllMet ds

met_by : (met : Bool) (at : ℕ) (rest : Option ℕ) → (if met then rest else Some at) ≡ None → (met ≡ true) × (rest ≡ None)
met_by true at rest h = (refl, h)
met_by false at rest h = absurd cc

pub all_met : (ds : List Demand) → first_unmet ds ≡ None → AllMet ds
all_met [] h = tt
all_met (d ∷ ds) h = let first = met_by d.met d.at (first_unmet ds) h in (first.0, all_met ds first.1)

pub none_unmet : (ds : List Demand) → AllMet ds → first_unmet ds ≡ None
none_unmet [] met = refl
none_unmet (d ∷ ds) met = ap (λ (b : Bool). if b then first_unmet ds else Some d.at) met.0 ∙ none_unmet ds met.1

sum_met : (same : Bool) (stated computed : ℕ) → (if same then None else Some (fault.Sum stated computed)) ≡ None →
    same ≡ true
sum_met true stated computed h = refl
sum_met false stated computed h = absurd cc

no_fault : (unmet : Option ℕ) (head : List ℕ) → or_sum unmet head ≡ None →
    (unmet ≡ None) × (said head 16 4 ≡ sum_of head)
no_fault None head h = (refl, eqb-true _ _ (sum_met (said head 16 4 == sum_of head) (said head 16 4) (sum_of head) h))
no_fault (Some at) head h = absurd cc

pub unless_ok : {A : Type 0} (refusal : Option TableFault) (x y : A) → unless refusal x ≡ Ok y →
    (refusal ≡ None) × (x ≡ y)
unless_ok None x y h = (refl, cc)
unless_ok (Some e) x y h = absurd cc

pub none_mapped : {A B : Type 0} (f : A → B) (x : Option A) → option_map f x ≡ None → x ≡ None
none_mapped f None h = refl
none_mapped f (Some a) h = absurd cc

-- ---- the bytes of a header

-- a number in the 92 bytes of a header
pub said_there : (bytes : List ℕ) (o a w : ℕ) → a + w ≤ 92 →
    said (part bytes o 92) a w ≡ number_at (image_of bytes) (o + a) w
said_there bytes o a w within = same_number (image_of (part bytes o 92)) (image_of bytes) a (o + a) w
    (same_within bytes o 92 a w within)

said_first : (bytes : List ℕ) (o : ℕ) → said (part bytes o 92) 0 8 ≡ number_at (image_of bytes) o 8
said_first bytes o =
    same_number (image_of (part bytes o 92)) (image_of bytes) 0 o 8
    (fewer (image_of (part bytes o 92)) (image_of bytes) 0 o 92 8 (omega arith) (same_part bytes o 92))

-- bytes that are read as the number that they make
text_read : (image : ℕ → ℕ) (o n : ℕ) (text : List ℕ) → ((k : ℕ) → image k < 256) → AreBytes text → length text ≡ n →
    number_at image o n ≡ number_at (image_of text) 0 n → bytes_at image o n ≡ text
text_read image o n text small fits long same =
    bytes_at-is image o n text long
    (λ i h. let here : 0 + i ≡ i = omega arith in number_bytes image (image_of text) o 0 n small fits same i h
    ∙ ap (image_of text) here)

pub text_said : (image : ℕ → ℕ) (o n : ℕ) (text : List ℕ) → bytes_at image o n ≡ text →
    number_at image o n ≡ number_at (image_of text) 0 n
text_said image o n text is =
    same_number image (image_of text) o 0 n
    (λ i h. let here : i ≡ 0 + i = omega arith in
    sym (get_or-bytes_at image o n i h) ∙ ap (λ (xs : List ℕ). get_or xs i 0) is ∙ ap (image_of text) here)

name_small : AreBytes (codes "EFI PART")
name_small zero = lit< tt
name_small (suc zero) = lit< tt
name_small (suc (suc zero)) = lit< tt
name_small (suc (suc (suc zero))) = lit< tt
name_small (suc (suc (suc (suc zero)))) = lit< tt
name_small (suc (suc (suc (suc (suc zero))))) = lit< tt
name_small (suc (suc (suc (suc (suc (suc zero)))))) = lit< tt
name_small (suc (suc (suc (suc (suc (suc (suc zero))))))) = lit< tt
name_small (suc (suc (suc (suc (suc (suc (suc (suc o)))))))) = lit< tt

abbrev version : List ℕ
version = 0 ∷ 0 ∷ 1 ∷ 0 ∷ []

version_small : AreBytes version
version_small zero = lit< tt
version_small (suc zero) = lit< tt
version_small (suc (suc zero)) = lit< tt
version_small (suc (suc (suc zero))) = lit< tt
version_small (suc (suc (suc (suc o)))) = lit< tt

-- the sum is that of the 92 bytes with its own field zero
abbrev pub sum_at : (ℕ → ℕ) → ℕ → ℕ
sum_at image o = crc32_of (bytes_at image o 16 ++ (replicate 4 0 ++ bytes_at image (o + 20) 72))

sum_there : (bytes : List ℕ) (o : ℕ) → o + 92 ≤ length bytes → sum_of (part bytes o 92) ≡ sum_at (image_of bytes) o
sum_there bytes o within =
    let image = image_of bytes in
    let head = part bytes o 92 in
    let long = length-part bytes o 92 within in
    let front : bytes_at image o 16 ≡ take 16 head =
    bytes_at-is image o 16 (take 16 head) (length-take-le 16 head (omega (arith, long)))
    (λ i h. sym (get_or-take 16 head i 0 h ∙ byte_in bytes o 92 i (omega arith))) in
    let behind : length (drop 20 head) ≡ 72 = let left = length-drop 20 head in omega (arith, left, long) in
    let back : bytes_at image (o + 20) 72 ≡ drop 20 head =
    bytes_at-is image (o + 20) 72 (drop 20 head) behind
    (λ i h. let place : o + (20 + i) ≡ o + 20 + i = omega arith in
    sym (get_or-drop 20 head i 0 ∙ byte_in bytes o 92 (20 + i) (omega arith) ∙ ap image place)) in
    ap (λ (xs : List ℕ). crc32_of (xs ++ (replicate 4 0 ++ drop 20 head))) (sym front)
    ∙ ap (λ (xs : List ℕ). crc32_of (bytes_at image o 16 ++ (replicate 4 0 ++ xs))) (sym back)

-- ---- what a right header has

-- the fields of a header that begins at an offset are as they have to be
pub record IsRight (bytes : List ℕ) (o own : ℕ) (is_backup : Bool) : Type 0 where
  pub inside : o + 92 ≤ length bytes
  pub signature : bytes_at (image_of bytes) o 8 ≡ codes "EFI PART"
  pub revision : bytes_at (image_of bytes) (o + 8) 4 ≡ 0 ∷ 0 ∷ 1 ∷ 0 ∷ []
  pub size : number_at (image_of bytes) (o + 12) 4 ≡ 92
  pub sum : number_at (image_of bytes) (o + 16) 4 ≡ sum_at (image_of bytes) o
  pub reserved : number_at (image_of bytes) (o + 20) 4 ≡ 0
  pub own_there : number_at (image_of bytes) (o + 24) 8 ≡ own
  pub other_there : is_backup ≡ true → number_at (image_of bytes) (o + 32) 8 ≡ 1
  pub has_entries : number_at (image_of bytes) (o + 72) 8 ≢ 0
  pub slot_count : number_at (image_of bytes) (o + 80) 4 ≡ 128
  pub slot_size : number_at (image_of bytes) (o + 84) 4 ≡ 128

-- a field of the head says this
field_is : (bytes : List ℕ) (o a w n : ℕ) → a + w ≤ 92 → (said (part bytes o 92) a w == n) ≡ true →
    number_at (image_of bytes) (o + a) w ≡ n
field_is bytes o a w n within test = sym (said_there bytes o a w within) ∙ eqb-true _ _ test

other_one : (b : Bool) (n : ℕ) → (not b || (n == 1)) ≡ true → b ≡ true → n ≡ 1
other_one true n h is = eqb-true _ _ h
other_one false n h is = absurd cc

not_none : (n : ℕ) → not (n == 0) ≡ true → n ≢ 0
not_none n h = eqb-false n 0 (not-true (n == 0) h)

pub right_found : (bytes : List ℕ) (o own : ℕ) (is_backup : Bool) → AreBytes bytes → o + 92 ≤ length bytes →
    fault_of own is_backup (part bytes o 92) ≡ None → IsRight bytes o own is_backup
right_found bytes o own is_backup small within h =
    let head = part bytes o 92 in
    let image = image_of bytes in
    let none = no_fault (first_unmet (demands own is_backup head)) head h in
    let met = all_met (demands own is_backup head) none.0 in
    let entries = said_there bytes o 72 8 (omega arith) in
    record {
      inside = within;
      signature = text_read image o 8 (codes "EFI PART") small name_small refl
          (sym (said_first bytes o) ∙ eqb-true _ _ met.0);
      revision = text_read image (o + 8) 4 version small version_small refl
          (field_is bytes o 8 4 0x00010000 (omega arith) met.1.0);
      size = field_is bytes o 12 4 92 (omega arith) met.1.1.0;
      sum = sym (said_there bytes o 16 4 (omega arith)) ∙ none.1 ∙ sum_there bytes o within;
      reserved = field_is bytes o 20 4 0 (omega arith) met.1.1.1.0;
      own_there = field_is bytes o 24 8 own (omega arith) met.1.1.1.1.0;
      other_there = λ is. sym (said_there bytes o 32 8 (omega arith))
          ∙ other_one is_backup (said head 32 8) met.1.1.1.1.1.0 is;
      has_entries = λ none. not_none (said head 72 8) met.1.1.1.1.1.1.0 (entries ∙ none);
      slot_count = field_is bytes o 80 4 128 (omega arith) met.1.1.1.1.1.1.1.0;
      slot_size = field_is bytes o 84 4 128 (omega arith) met.1.1.1.1.1.1.1.1.0;
    }

-- and the other way round
said_so : (bytes : List ℕ) (o a w n : ℕ) → a + w ≤ 92 → number_at (image_of bytes) (o + a) w ≡ n →
    (said (part bytes o 92) a w == n) ≡ true
said_so bytes o a w n within is = eq-eqb _ _ (said_there bytes o a w within ∙ is)

other_met : (b : Bool) (n : ℕ) → (b ≡ true → n ≡ 1) → (not b || (n == 1)) ≡ true
other_met true n h = eq-eqb _ _ (h refl)
other_met false n h = refl

pub right_there : (bytes : List ℕ) (o own : ℕ) (is_backup : Bool) → IsRight bytes o own is_backup →
    fault_of own is_backup (part bytes o 92) ≡ None
right_there bytes o own is_backup right =
    let head = part bytes o 92 in
    let image = image_of bytes in
    let entries = said_there bytes o 72 8 (omega arith) in
    let other = said_there bytes o 32 8 (omega arith) in
    let met : AllMet (demands own is_backup head) = (
      eq-eqb _ _ (said_first bytes o ∙ text_said image o 8 (codes "EFI PART") right.signature),
      (
        said_so bytes o 8 4 0x00010000 (omega arith) (text_said image (o + 8) 4 version right.revision),
        (
          said_so bytes o 12 4 92 (omega arith) right.size,
          (
            said_so bytes o 20 4 0 (omega arith) right.reserved,
            (
              said_so bytes o 24 8 own (omega arith) right.own_there,
              (
                other_met is_backup (said head 32 8) (λ is. other ∙ right.other_there is),
                (
                  not_from_false (said head 72 8 == 0) (ne_eqb _ _ (λ none. right.has_entries (sym entries ∙ none))),
                  (
                    said_so bytes o 80 4 128 (omega arith) right.slot_count,
                    (
                      said_so bytes o 84 4 128 (omega arith) right.slot_size,
                      tt,
                    ),
                  ),
                ),
              ),
            ),
          ),
        ),
      ),
    ) in
    let none = none_unmet (demands own is_backup head) met in
    let same : (said head 16 4 == sum_of head) ≡ true =
    eq-eqb _ _ (said_there bytes o 16 4 (omega arith) ∙ right.sum ∙ sym (sum_there bytes o right.inside)) in
    ap (λ (unmet : Option ℕ). or_sum unmet head) none
    ∙ ap (λ (b : Bool). if b then None else Some (fault.Sum (said head 16 4) (sum_of head))) same

-- ---- the header that a reader finds

pub header_found : (bytes head : List ℕ) (z own : ℕ) (is_backup : Bool) → AreBytes bytes →
    header_of bytes z own is_backup ≡ Ok head →
    IsRight bytes (own * z) own is_backup × (part bytes (own * z) 92 ≡ head)
header_found bytes head z own is_backup small h =
    let step = bind_ok (part_of bytes (own * z) 92)
    (λ xs. unless (option_map (refusal_at (own * z)) (fault_of own is_backup xs)) xs) head h in
    let there = part_found bytes step.0 (own * z) 92 step.1 in
    let passed = unless_ok (option_map (refusal_at (own * z)) (fault_of own is_backup step.0)) step.0 head step.2 in
    let none = none_mapped (refusal_at (own * z)) (fault_of own is_backup step.0) passed.0 in
    let right : fault_of own is_backup (part bytes (own * z) 92) ≡ None = ap (fault_of own is_backup) there.1 ∙ none in
    (right_found bytes (own * z) own is_backup small there.0 right, there.1 ∙ passed.1)

pub header_there : (bytes : List ℕ) (z own : ℕ) (is_backup : Bool) → IsRight bytes (own * z) own is_backup →
    header_of bytes z own is_backup ≡ Ok (part bytes (own * z) 92)
header_there bytes z own is_backup right =
    let there = part_there bytes (own * z) 92 right.inside in
    let none = right_there bytes (own * z) own is_backup right in
    rw (there, none) refl
