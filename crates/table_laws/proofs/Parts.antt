-- A part of a file, which reads as the file does in its place.
use Rattle.std.specs.Prelude.{◌≡◌, ℕ, ◌+◌, ◌<◌, ◌≤◌, nat_le, List, length, take, drop, Bool, true, false, Ok, Err, if◌then◌else◌}
use Rattle.std.proofs.Common.{refl, ap, sym, ◌∙◌, arith, inl, inr}
use Rattle.std.proofs.Math.ListN.{get_or-eq_default}
use Rattle.std.proofs.lemmas.Bool.{and_from, and_parts, cases_lt, eq-eqb, eqb-true, le-leb, leb-true}
use Rattle.std.proofs.lemmas.List.{get_or-drop, get_or-take, length-drop, length-take-le}
use Rattle.mbr_table.specs.Reading.{IsMarked}
use Rattle.table_reading.specs.Recognised.{image_of, is_marked}
use Rattle.table_reader.specs.Parts.{part_of}
use Rattle.table_reader.specs.declared.fault.TableFault.TheVariants.{Short}
use Rattle.table_laws.proofs.Images.{Same}

-- so many bytes of a file from an offset on
abbrev pub part : List ℕ → ℕ → ℕ → List ℕ
part bytes at n = take n (drop at bytes)

part_by : (fits : Bool) (bytes found : List ℕ) (at n : ℕ) → nat_le (at + n) (length bytes) ≡ fits →
    (if fits then Ok (part bytes at n) else Err (Short (length bytes))) ≡ Ok found →
    (at + n ≤ length bytes) × (part bytes at n ≡ found)
part_by true bytes found at n test h = (leb-true _ _ test, cc)
part_by false bytes found at n test h = absurd cc

pub part_found : (bytes found : List ℕ) (at n : ℕ) → part_of bytes at n ≡ Ok found →
    (at + n ≤ length bytes) × (part bytes at n ≡ found)
part_found bytes found at n h = part_by (nat_le (at + n) (length bytes)) bytes found at n refl h

pub part_there : (bytes : List ℕ) (at n : ℕ) → at + n ≤ length bytes → part_of bytes at n ≡ Ok (part bytes at n)
part_there bytes at n within =
    let fits : nat_le (at + n) (length bytes) ≡ true = le-leb _ _ within in
    rw fits refl

pub length-part : (bytes : List ℕ) (at n : ℕ) → at + n ≤ length bytes → length (part bytes at n) ≡ n
length-part bytes at n within =
    let left = length-drop at bytes in
    length-take-le n (drop at bytes) (omega (arith, left, within))

pub byte_in : (bytes : List ℕ) (at n o : ℕ) → o < n → image_of (part bytes at n) o ≡ image_of bytes (at + o)
byte_in bytes at n o inside = get_or-take n (drop at bytes) o 0 inside ∙ get_or-drop at bytes o 0

-- a part has the bytes of the file
pub same_part : (bytes : List ℕ) (at n : ℕ) → Same (image_of (part bytes at n)) (image_of bytes) 0 at n
same_part bytes at n j inside =
    let here : 0 + j ≡ j = omega arith in
    ap (image_of (part bytes at n)) here ∙ byte_in bytes at n j inside

-- from an offset of its own on
pub same_within : (bytes : List ℕ) (at n o w : ℕ) → o + w ≤ n →
    Same (image_of (part bytes at n)) (image_of bytes) o (at + o) w
same_within bytes at n o w within j inside =
    let there : at + (o + j) ≡ at + o + j = omega arith in
    byte_in bytes at n (o + j) (omega arith) ∙ ap (image_of bytes) there

-- what isn't zero stands in front of the end
pub stands_inside : (bytes : List ℕ) (o : ℕ) → (image_of bytes o ≡ 0 → ⊥) → o < length bytes
stands_inside bytes o some = elim (cases_lt o (length bytes)) [
  | inl inside ↦ inside
  | inr past ↦ absurd (some (get_or-eq_default bytes 0 {n = o} past))
]

-- ---- 55 AA

-- a sector that ends in 55 AA is there
pub marked_inside : (bytes : List ℕ) (o : ℕ) → IsMarked (image_of bytes) o → o + 512 ≤ length bytes
marked_inside bytes o marked =
    let last : image_of bytes (o + 511) ≡ 0xAA = marked.1 in
    let inside = stands_inside bytes (o + 511)
    (λ none. let no : 0 ≡ 0xAA = sym none ∙ last in absurd (omega (arith, no))) in
    omega (arith, inside)

pub marked_found : (bytes : List ℕ) (at : ℕ) → is_marked (part bytes at 512) ≡ true → IsMarked (image_of bytes) at
marked_found bytes at h =
    let both = and_parts _ _ h in (
      sym (byte_in bytes at 512 510 (omega arith)) ∙ eqb-true _ _ both.0,
      sym (byte_in bytes at 512 511 (omega arith))
          ∙ eqb-true _ _ both.1,
    )

pub marked_there : (bytes : List ℕ) (at : ℕ) → IsMarked (image_of bytes) at → is_marked (part bytes at 512) ≡ true
marked_there bytes at marked =
    and_from _ _ (eq-eqb _ _ (byte_in bytes at 512 510 (omega arith) ∙ marked.0))
    (eq-eqb _ _ (byte_in bytes at 512 511 (omega arith) ∙ marked.1))
