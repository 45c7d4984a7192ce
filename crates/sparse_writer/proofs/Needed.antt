-- The bytes that are needed, and those that a file has.
use Rattle.std.proofs.Common.{◌≡◌, ℕ, ◌+◌, ◌-◌, ◌*◌, ◌/◌, ◌<◌, ◌≤◌, List, [], length, take, drop, min, max, Option, None, Some, unwrap_or, Ok, Err, refl, arith, inl, inr}
use Rattle.std.proofs.Math.Nat.{add-mul, le-div_iff_mul-le}
use Rattle.std.proofs.lemmas.Bool.{cases_lt}
use Rattle.std.proofs.lemmas.Bool.Decides.{nat_tests}
use Rattle.std.proofs.lemmas.Grind.{common_steps}
use Rattle.base_fields.specs.declared.spans.Span.{Span}
use Rattle.outside.specs.Reading.{span_of}
use Rattle.outside.specs.declared.files.ComposeFault.{ComposeFault}
use Rattle.outside.specs.declared.files.ComposeFault.TheVariants.{Missing, FileFault, SourceShort, NoMemory}
use Rattle.outside.specs.declared.reading.FillFault.TheVariants as fill
use Rattle.sparse_cover.specs.Stretches.{AreMet}
use Rattle.sparse_windows.specs.Windows.{HasNeeded, ReadsWindow}
use Rattle.sparse_writer.specs.Answers.{IsRefusal}

-- ---- what a file says of a run of its bytes

pub span_there : (from : Option (List ℕ)) (at len : ℕ) (xs : List ℕ) → 0 < len → span_of from at len ≡ Ok xs →
    (from ≡ Some (unwrap_or from [])) × (at + len ≤ length (unwrap_or from [])) × (xs ≡ take len (drop at (unwrap_or from [])))
span_there None at len xs some h = absurd (grind (arith, nat_tests, common_steps))
span_there (Some bytes) at len xs some h = (refl, grind (arith, nat_tests, common_steps), grind (arith, nat_tests, common_steps))

span_missing : (from : Option (List ℕ)) (at len : ℕ) → span_of from at len ≡ Err fill.Missing → from ≡ None
span_missing None at len h = refl
span_missing (Some bytes) at len h = absurd (grind (arith, nat_tests, common_steps))

span_short : (from : Option (List ℕ)) (at len place : ℕ) → 0 < len → span_of from at len ≡ Err (fill.Short place) →
    (from ≡ Some (unwrap_or from [])) × (length (unwrap_or from []) < at + len) × (place ≡ max at (length (unwrap_or from [])))
span_short None at len place some h = absurd (grind (arith, nat_tests, common_steps))
span_short (Some bytes) at len place some h = (refl, grind (arith, nat_tests, common_steps), grind (arith, nat_tests, common_steps))

-- ---- the block of a byte

pub block_not_before : (o block first : ℕ) → 0 < block → first * block ≤ o → first ≤ o / block
block_not_before o block first some h = (le-div_iff_mul-le {k = block} {x = first} {y = o} some).1 h

pub block_before : (o block end : ℕ) → 0 < block → o < end * block → o / block < end
block_before o block end some h = elim (cases_lt (o / block) end) [
  | inl before ↦ before
  | inr past ↦
      let there = (le-div_iff_mul-le {k = block} {x = end} {y = o} some).0 past in
      absurd (omega (arith, there, h))
]

-- ---- a window that is read, or not

pub window_needed : (cover : List Span) (block size first count len : ℕ) (bytes : List ℕ) → len ≡ min (count * block) (size - first * block) →
    first * block + len ≤ length bytes → HasNeeded cover block size (first * block) bytes → HasNeeded cover block size ((first + count) * block) bytes
window_needed cover block size first count len bytes is within before o below needed = elim (cases_lt o (first * block)) [
  | inl old ↦ before o old needed
  | inr new ↦
      let inside = needed.0 in
      let parts = add-mul first count block in
      omega (arith, is, within, below, inside, new, parts)
]

pub window_refused : (cover : List Span) (block size first count len n : ℕ) (from : Option (List ℕ)) (got : List ℕ) (fault : ComposeFault) →
    0 < block → 0 < len → len ≡ min (count * block) (size - first * block) → AreMet cover block first count →
    HasNeeded cover block size (first * block) (unwrap_or from []) → ReadsWindow from (first * block) len n got (Err fault) → IsRefusal cover block size from fault
window_refused cover block size first count len n from got (Missing part) some long is met before h = span_missing from (first * block) len h
window_refused cover block size first count len n from got FileFault some long is met before h = tt
window_refused cover block size first count len n from got NoMemory some long is met before h = tt
window_refused cover block size first count len n from got (SourceShort part at) some long is met before h =
    let (there, lacks, place) = span_short from (first * block) len at long h in
    let parts = add-mul first count block in
    let below : at < first * block + len = omega (arith, place, lacks, long) in
    let inside : at < size = omega (arith, below, is) in
    let low : first * block ≤ at = omega (arith, place) in
    let high : at < (first + count) * block = omega (arith, below, is, parts) in
    let needed = met (at / block) (block_not_before at block first some low) (block_before at block (first + count) some high) in (
      there,
      record {
        lacks = omega (arith, place);
        needed = (inside, needed);
        before = λ o less need. elim (cases_lt o (first * block)) [
          | inl old ↦ before o old need
          | inr new ↦ omega (arith, less, new, place)
        ];
      },
    )
