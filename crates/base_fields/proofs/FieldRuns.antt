-- Fields that stand one after another without a gap, as one list of bytes.
use Rattle.std.specs.Prelude.{◌≡◌, ℕ, ◌+◌, ◌-◌, ◌<◌, List, [], ◌∷◌, Bool, true, false, ◌&&◌, ◌==◌, length, get_or}
use Rattle.std.proofs.Common.{◌≤◌, refl, ◌∙◌, sym, ap, arith, inl, inr}
use Rattle.std.proofs.lemmas.Bool.{cases_lt, eqb-true}
use Rattle.std.proofs.lemmas.Bool.Decides.{nat_tests}
use Rattle.std.proofs.lemmas.List.{get_or_append_left, get_or-append_right}
use Rattle.base_fields.specs.Fields.{Field, byte_of, joined, reaches}

-- each field begins where the one before it ends, and the first at this offset
abbrev pub IsRun : ℕ → List Field → Type 0
IsRun at [] = Unit {0}
IsRun at (f ∷ fs) = (f.at ≡ at) × IsRun (at + length f.bytes) fs

-- the same as a test
abbrev pub is_run : ℕ → List Field → Bool
is_run at [] = true
is_run at (f ∷ fs) = (f.at == at) && is_run (at + length f.bytes) fs

first_holds : (a b : Bool) → (a && b) ≡ true → a ≡ true
first_holds true b h = refl
first_holds false b h = h

second_holds : (a b : Bool) → (a && b) ≡ true → b ≡ true
second_holds true b h = h
second_holds false b h = cc

pub run_passes : (fs : List Field) (at : ℕ) → is_run at fs ≡ true → IsRun at fs
run_passes [] at h = tt
run_passes (f ∷ fs) at h =
    (eqb-true f.at at (first_holds _ _ h), run_passes fs (at + length f.bytes) (second_holds (f.at == at) _ h))

-- whether the test that a field has an offset holds
reached : (f : Field) (at o : ℕ) → f.at ≡ at → o < length f.bytes → reaches f (at + o) ≡ true
reached f at o e h = grind (arith, nat_tests)

missed : (f : Field) (at o : ℕ) → f.at ≡ at → length f.bytes ≤ o → reaches f (at + o) ≡ false
missed f at o e h = grind (arith, nat_tests)

missed_before : (f : Field) (at o : ℕ) → f.at ≡ at → o < at → reaches f o ≡ false
missed_before f at o e h = grind (arith, nat_tests)

-- the byte at an offset of a run is that of its list, and 0 past its end
pub byte_of-run : (fs : List Field) (at o : ℕ) → IsRun at fs → byte_of fs (at + o) ≡ get_or (joined fs) o 0
byte_of-run [] at o run = refl
byte_of-run (f ∷ fs) at o run = elim (cases_lt o (length f.bytes)) [
  | inl inside ↦
      let here : at + o - f.at ≡ o = omega (arith, run.0) in
      rw (reached f at o run.0 inside, here) (sym (get_or_append_left f.bytes (joined fs) 0 o inside))
  | inr past ↦
      let moved : at + o ≡ (at + length f.bytes) + (o - length f.bytes) = omega arith in
      rw (missed f at o run.0 past, moved) (byte_of-run fs (at + length f.bytes) (o - length f.bytes) run.1 ∙ sym (get_or-append_right f.bytes (joined fs) (length f.bytes) o 0 refl past))
]

-- the same from offset 0 on
pub byte_of-start : (fs : List Field) (o : ℕ) → IsRun 0 fs → byte_of fs o ≡ get_or (joined fs) o 0
byte_of-start fs o run =
    let at : o ≡ 0 + o = omega arith in
    ap (byte_of fs) at ∙ byte_of-run fs 0 o run

-- before a run there is nothing
pub byte_of-before_run : (fs : List Field) (at o : ℕ) → IsRun at fs → o < at → byte_of fs o ≡ 0
byte_of-before_run [] at o run before = refl
byte_of-before_run (f ∷ fs) at o run before = rw (missed_before f at o run.0 before) (byte_of-before_run fs (at + length f.bytes) o run.1 (omega arith))
