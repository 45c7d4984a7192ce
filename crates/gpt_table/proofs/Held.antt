-- Which bytes an image has from an offset on, and what they read as.
use Rattle.std.specs.Prelude.{◌≡◌, ℕ, zero, suc, ◌+◌, ◌^◌, ◌<◌, List, [], ◌∷◌, length, slice_index, flat_map}
use Rattle.std.proofs.Common.{refl, arith}
use Rattle.byteorder.specs.Endian.{little_bytes}
use Rattle.base_fields.specs.Fields.{Field, joined, number_at}
use Rattle.gpt_table.specs.Span.{bytes_at}
use Rattle.gpt_table.specs.Reading.{units_at}
use Rattle.base_fields.proofs.FieldRuns.{IsRun}
use Rattle.base_fields.proofs.Images.{Has, front_of, rest_of, number_reads}
use Rattle.gpt_table.proofs.Spans.{bytes_at-is}

-- an image that has each of these fields, counted from an offset
abbrev pub Held : (ℕ → ℕ) → ℕ → List Field → Type 0
Held image o [] = Unit {0}
Held image o (f ∷ fs) = Has image (o + f.at) f.bytes × Held image o fs

pub held_run : (image : ℕ → ℕ) (o at : ℕ) (fs : List Field) → IsRun at fs → Has image (o + at) (joined fs) → Held image o fs
held_run image o at [] run has = tt
held_run image o at (f ∷ fs) run has =
    let first : Has image (o + at) f.bytes = front_of image (o + at) f.bytes (joined fs) has in
    let rest : Has image (o + at + length f.bytes) (joined fs) = rest_of image (o + at) (length f.bytes) f.bytes (joined fs) refl has in
    let there : o + at + length f.bytes ≡ o + (at + length f.bytes) = omega arith in
    (rw run.0 first, held_run image o (at + length f.bytes) fs run.1 (rw there at rest))

-- the bytes themselves
pub bytes_read : (image : ℕ → ℕ) (o n : ℕ) (xs : List ℕ) → length xs ≡ n → Has image o xs → bytes_at image o n ≡ xs
bytes_read image o n xs len has = bytes_at-is image o n xs len (λ i h. has i (omega arith))

-- the bytes of units read as them
pub units_read : (image : ℕ → ℕ) (o n : ℕ) (us : List ℕ) → length us ≡ n → ((i : ℕ) → slice_index us i < 2 ^ 16) → Has image o (flat_map (little_bytes 2) us) → units_at image o n ≡ us
unfolding units_at
units_read image o zero [] len fit has = refl
units_read image o zero (u ∷ us) len fit has = absurd (omega arith)
units_read image o (suc n) [] len fit has = absurd (omega arith)
units_read image o (suc n) (u ∷ us) len fit has =
    let small : u < 256 ^ 2 = fit 0 in
    let first : number_at image o 2 ≡ u = number_reads image o 2 u small (front_of image o (little_bytes 2 u) (flat_map (little_bytes 2) us) has) in
    let rest : units_at image (o + 2) n ≡ us =
    units_read image (o + 2) n us (omega arith) (λ i. fit (suc i)) (rest_of image o 2 (little_bytes 2 u) (flat_map (little_bytes 2) us) refl has) in
    rw (first, rest) refl
