-- A journal is held or isn't.
use Rattle.std.proofs.Common.{◌≡◌, ◌⊎◌, ℕ, Bool, true, false, List, length, take, slice_index, nat_eq, inl, inr, ⊎_elim, refl, arith}
use Rattle.std.specs.List.{starts_with}
use Rattle.std.proofs.lemmas.Bool.{cases_eq, cases_lt, false≢true}
use Rattle.journal_format.specs.Journals.{HasVersion, IsHeld, IsWindow, magic_1, magic_2}
use Rattle.journal_format.proofs.JournalLemmas.{begins}

long_1 : length magic_1 ≡ 8
unfolding magic_1
long_1 = refl

long_2 : length magic_2 ≡ 8
unfolding magic_2
long_2 = refl

magic_or_not : (r : Bool) (j magic : List ℕ) → length magic ≡ 8 → r ≡ starts_with nat_eq j magic →
    (take 8 j ≡ magic) ⊎ (¬ (take 8 j ≡ magic))
magic_or_not true j magic long e = inl ((begins true j magic long e).0 refl)
magic_or_not false j magic long e = inr (λ same. false≢true ((begins false j magic long e).1 same))

window_or_not : (w : ℕ) → IsWindow w ⊎ (¬ IsWindow w)
window_or_not w = elim (cases_lt w 1) [
  | inl low ↦ inr (λ is. let least = is.0 in omega (arith, low, least))
  | inr least ↦ elim (cases_lt 16 w) [
    | inl high ↦ inr (λ is. let most = is.1 in omega (arith, high, most))
    | inr most ↦ inl (least, most)
  ]
]

version_or_not : (j : List ℕ) → HasVersion j ⊎ (¬ HasVersion j)
version_or_not j = elim (magic_or_not (starts_with nat_eq j magic_1) j magic_1 long_1 refl) [
  | inl one ↦ inl (inl one)
  | inr not_one ↦ elim (magic_or_not (starts_with nat_eq j magic_2) j magic_2 long_2 refl) [
    | inr not_two ↦ inr (λ is. ⊎_elim (λ one. not_one one) (λ two. not_two two.0) is)
    | inl two ↦ elim (window_or_not (slice_index j 9)) [
      | inl window ↦ inl (inr (two, window))
      | inr no_window ↦ inr (λ is. ⊎_elim (λ one. not_one one) (λ both. no_window both.1) is)
    ]
  ]
]

pub held_or_not : (j : List ℕ) → IsHeld j ⊎ (¬ IsHeld j)
held_or_not j = elim (cases_lt (length j) 80) [
  | inl short ↦ inr (λ held. let long = held.long in omega (arith, short, long))
  | inr long ↦ elim (cases_eq (slice_index j 8) 0x47) [
    | inr other ↦ inr (λ held. other held.gate)
    | inl gate ↦ elim (version_or_not j) [
      | inl version ↦ inl (record { long = long; gate = gate; version = version })
      | inr none ↦ inr (λ held. none held.version)
    ]
  ]
]
