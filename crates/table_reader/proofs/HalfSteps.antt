-- The entries of a half, which have the sum that its header states or another.
use Rattle.std.specs.Prelude.{◌≡◌, ℕ, ◌+◌, ◌==◌, Bool, true, false, List, Result, Ok, Err}
use Rattle.std.proofs.Common.{refl, subst, sym, ◌∙◌, eq-eqb}
use Rattle.std.proofs.lemmas.Bool.Decides.{nat_tests}
use Rattle.std.proofs.Common.{arith}
use Rattle.base_fields.specs.Crc.{crc32_of}
use Rattle.base_fields.specs.Results.{◌>>=◌, when}
use Rattle.table_reading.specs.Header.{said}
use Rattle.table_reader.specs.Halves.{entries_at, entries_of, summed}
use Rattle.table_reader.specs.Parts.{part_of}
use Rattle.table_reader.specs.declared.fault.TableFault.{TableFault}
use Rattle.table_reader.specs.declared.fault.TableFault.TheVariants.{BadSum}

-- the same part at the same place
moved : (bytes head entries : List ℕ) (z place n : ℕ) → part_of bytes place n ≡ Ok entries → place ≡ entries_at head z → n ≡ 16384 → part_of bytes (entries_at head z) 16384 ≡ Ok entries
moved bytes head entries z place n part here long =
    subst (λ (k : ℕ). part_of bytes (entries_at head z) k ≡ Ok entries) long (subst (λ (p : ℕ). part_of bytes p n ≡ Ok entries) here part)

pub summed_right : (bytes head entries : List ℕ) (z at place n : ℕ) → part_of bytes place n ≡ Ok entries → place ≡ entries_at head z → n ≡ 16384 → said head 88 4 ≡ crc32_of entries → entries_of bytes z at head ≡ Ok entries
summed_right bytes head entries z at place n part here long same =
    let there = moved bytes head entries z place n part here long in
    let test : (said head 88 4 == crc32_of entries) ≡ true = eq-eqb _ _ same in
    rw (there, test) refl

not_same : (a b : ℕ) → (a ≡ b → ⊥) → (a == b) ≡ false
not_same a b other = grind (arith, nat_tests)

pub summed_wrong : (bytes head entries : List ℕ) (z at place n stated computed : ℕ) → part_of bytes place n ≡ Ok entries → place ≡ entries_at head z → n ≡ 16384 → stated ≡ said head 88 4 → computed ≡ crc32_of entries →
    (stated ≡ computed → ⊥) → entries_of bytes z at head ≡ Err (BadSum (at + 88) stated computed)
summed_wrong bytes head entries z at place n stated computed part here long states computes other =
    let there = moved bytes head entries z place n part here long in
    let test : (said head 88 4 == crc32_of entries) ≡ false = not_same _ _ (λ same. other (states ∙ (same ∙ sym computes))) in
    rw (there, test, states, computes) refl
