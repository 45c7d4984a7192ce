-- A backup that differs from the table in front.
use Rattle.std.specs.Prelude.{◌≡◌, ℕ, ◌==◌, Bool, true, false, List, Result, Ok, Err, if◌then◌else◌}
use Rattle.std.proofs.Common.{refl, subst, sym, arith}
use Rattle.std.proofs.lemmas.Bool.Decides.{nat_tests}
use Rattle.base_fields.specs.Results.{◌>>=◌}
use Rattle.table_reading.specs.Header.{said}
use Rattle.table_reader.specs.Answers.{IsBadGpt, Refuses}
use Rattle.table_reader.specs.Halves.{Half, backup_at, backup_of, half_of, unlike}
use Rattle.table_reader.specs.Parts.{unless}
use Rattle.table_reader.specs.declared.fault.TableFault.{TableFault}
use Rattle.table_reader.specs.declared.fault.TableFault.TheVariants.{NoTable, BadGpt, BadSum, BadChain, Short, Missing, FileFault, NoMemory}

not_one : (n : ℕ) → (n ≡ 1 → ⊥) → (n == 1) ≡ false
not_one n other = grind (arith, nat_tests)

differs_so : (bytes : List ℕ) (z own at : ℕ) (front back : Half) → own ≡ said front.head 32 8 → (own ≡ 1 → ⊥) → half_of bytes z own true ≡ Ok back → Err (BadGpt at) ≡ unless {A = Unit {0}} (unlike z own front back) tt →
    backup_of bytes z front ≡ Err (BadGpt at)
differs_so bytes z own at front back named other there wrong =
    let test : (own == 1) ≡ false = not_one own other in
    let at_own : (if own == 1 then Ok tt else backup_at bytes z own front) ≡ Err (BadGpt at) = rw (test, there) (sym wrong) in
    subst (λ (n : ℕ). (if n == 1 then Ok tt else backup_at bytes z n front) ≡ Err (BadGpt at)) named at_own

pub backup_refused : (bytes : List ℕ) (z own : ℕ) (front back : Half) (e : TableFault) → own ≡ said front.head 32 8 → (own ≡ 1 → ⊥) → half_of bytes z own true ≡ Ok back → Err e ≡ unless {A = Unit {0}} (unlike z own front back) tt → IsBadGpt e →
    Refuses (backup_of bytes z front) e
backup_refused bytes z own front back (BadGpt at) named other there wrong h = differs_so bytes z own at front back named other there wrong
backup_refused bytes z own front back (BadSum at want got) named other there wrong h = absurd h
backup_refused bytes z own front back (BadChain at) named other there wrong h = absurd h
backup_refused bytes z own front back (Short at) named other there wrong h = absurd h
backup_refused bytes z own front back NoTable named other there wrong h = absurd h
backup_refused bytes z own front back Missing named other there wrong h = absurd h
backup_refused bytes z own front back FileFault named other there wrong h = absurd h
backup_refused bytes z own front back NoMemory named other there wrong h = absurd h
