-- A sector whose tail is a run of fields.
use Rattle.std.specs.Prelude.{◌≡◌, ℕ, ◌+◌, ◌-◌, ◌<◌, List, ◌++◌, length, replicate, get_or}
use Rattle.std.proofs.Common.{arith, refl, ap, ◌∙◌, sym, inl, inr}
use Rattle.std.proofs.lemmas.Bool.{cases_lt}
use Rattle.std.proofs.lemmas.List.{get_or_append_left, get_or-append_right, get_or-replicate, length-replicate, append-nil, take-replicate, drop-replicate}
use Rattle.base_fields.specs.Fields.{Field, byte_of, written, joined}
use Rattle.base_fields.proofs.FieldRuns.{IsRun, byte_of-before_run, byte_of-run}

-- bytes that are written at the end of zeros
pub zeros_then : (n m : ℕ) (xs : List ℕ) → length xs ≡ m → written (replicate (n + m) 0) n xs ≡ replicate n 0 ++ xs
zeros_then n m xs h =
    let none : n + m - (n + length xs) ≡ 0 = omega arith in
    rw (take-replicate {X = ℕ} n (n + m) 0 (omega arith), drop-replicate {X = ℕ} (n + length xs) (n + m) 0, none, append-nil) refl

-- zeros up to a run of fields, and the fields' bytes, are the bytes of the fields
pub tail_of_fields : (n : ℕ) (fs : List Field) → IsRun n fs → (o : ℕ) → get_or (replicate n 0 ++ joined fs) o 0 ≡ byte_of fs o
tail_of_fields n fs run o = elim (cases_lt o n) [
  | inl before ↦
      let front : o < length (replicate n 0) = omega (arith, length-replicate {A = ℕ} n 0) in
      get_or_append_left (replicate n 0) (joined fs) 0 o front ∙ get_or-replicate n o 0 0 before ∙ sym (byte_of-before_run fs n o run before)
  | inr past ↦
      let moved : byte_of fs o ≡ byte_of fs (n + (o - n)) = ap (byte_of fs) (omega arith) in
      get_or-append_right (replicate n 0) (joined fs) n o 0 (length-replicate n 0) past ∙ sym (moved ∙ byte_of-run fs n (o - n) run)
]
