-- Whether a unit is recorded.
use Rattle.std.proofs.Common.{◌≡◌, ◌⊎◌, ℕ, ◌+◌, ◌≤◌, List, length, Bool, true, false, inl, inr, refl, ⊎_elim, arith}
use Rattle.std.proofs.lemmas.Bool.{cases_eq, cases_lt}
use Rattle.std.proofs.lemmas.Bool.Decides.{not_from_Decides}
use Rattle.std.proofs.lemmas.Slice.Eq.{bytes_eq-Decides}
use Rattle.std.specs.Bool.{Decides}
use Rattle.std.specs.Prelude.{slice_index, take}
use Rattle.journal_format.specs.JobFields.{fields_of}
use Rattle.journal_format.specs.Journals.{HasVersion, IsHeld, IsOpenedFor, IsWindow, fields_in, magic_1, magic_2, unit_mark}
use Rattle.journal_format.specs.declared.jobs.JobId.{JobId}
use Rattle.copy_states.specs.Jobs.{IsRecorded}

decided : {P : Type 0} (r : Bool) → Decides r P → P ⊎ (¬ P)
decided true d = inl (d.0 refl)
decided false d = inr (not_from_Decides false d refl)

decided_so : {P Q : Type 0} → P ⊎ (¬ P) → (P → Q) → (Q → P) → Q ⊎ (¬ Q)
decided_so it to from = ⊎_elim (λ is. inl (to is)) (λ other. inr (λ is. other (from is))) it

both : {P Q : Type 0} → P ⊎ (¬ P) → Q ⊎ (¬ Q) → (P × Q) ⊎ (¬ (P × Q))
both (inl p) (inl q) = inl (p, q)
both (inl p) (inr other) = inr (λ is. other is.1)
both (inr other) q = inr (λ is. other is.0)

either : {P Q : Type 0} → P ⊎ (¬ P) → Q ⊎ (¬ Q) → (P ⊎ Q) ⊎ (¬ (P ⊎ Q))
either (inl p) q = inl (inl p)
either (inr other) (inl q) = inl (inr q)
either (inr other) (inr too) = inr (λ is. ⊎_elim other too is)

same_or_not : (xs ys : List ℕ) → (xs ≡ ys) ⊎ (¬ (xs ≡ ys))
same_or_not xs ys = decided _ (bytes_eq-Decides xs ys)

at_most : (a b : ℕ) → (a ≤ b) ⊎ (¬ (a ≤ b))
at_most a b = elim (cases_lt b a) [
  | inl more ↦ inr (λ fine. omega (arith, more, fine))
  | inr fine ↦ inl fine
]

version_or_not : (j : List ℕ) → HasVersion j ⊎ (¬ HasVersion j)
version_or_not j =
    let window : IsWindow (slice_index j 9) ⊎ (¬ IsWindow (slice_index j 9)) = both (at_most 1 (slice_index j 9)) (at_most (slice_index j 9) 16) in
    either (same_or_not (take 8 j) magic_1) (both (same_or_not (take 8 j) magic_2) window)

held_or_not : (j : List ℕ) → IsHeld j ⊎ (¬ IsHeld j)
held_or_not j =
    decided_so (both (at_most 80 (length j)) (both (cases_eq (slice_index j 8) 0x47) (version_or_not j)))
    (λ is. record { long = is.0; gate = is.1.0; version = is.1.1 })
    (λ held. (held.long, (held.gate, held.version)))

opened_or_not : (id : JobId) (j : List ℕ) → IsOpenedFor id j ⊎ (¬ IsOpenedFor id j)
opened_or_not id j =
    decided_so (both (held_or_not j) (both (same_or_not (fields_in j) (fields_of id)) (at_most (80 + id.units + id.ranges) (length j))))
    (λ is. record { held = is.0; fields = is.1.0; long = is.1.1 })
    (λ opened. (opened.held, (opened.fields, opened.long)))

pub recorded_or_not : (id : JobId) (k : ℕ) (j : List ℕ) → IsRecorded id k j ⊎ (¬ IsRecorded id k j)
recorded_or_not id k j =
    decided_so (both (opened_or_not id j) (cases_eq (slice_index j (unit_mark k)) 0x44))
    (λ is. record { opened = is.0; mark = is.1 })
    (λ recorded. (recorded.opened, recorded.mark))
