-- Mixed is one, and so is the outcome of a run.
use Rattle.std.proofs.Common.{◌≡◌, ℕ, ◌<◌, List, length, get_or, inl, inr, sym, ap, subst, ◌∙◌, arith}
use Rattle.std.proofs.lemmas.Bool.{cases_eq, cases_lt}
use Rattle.std.proofs.lemmas.Grind.{same_number_lists}
use Rattle.std.specs.Option.{unwrap_or}
use Rattle.std.specs.Prelude.{Option, Some, IfSome}
use Rattle.block_map.specs.Maps.{digest_in}
use Rattle.block_map.specs.declared.maps.BlockMap.{BlockMap}
use Rattle.block_map.specs.declared.maps.Range.{Range}
use Rattle.journal_format.specs.declared.jobs.JobId.{JobId}
use Rattle.copy_states.specs.Jobs.{IsJobOf, IsRangeAt, IsRecorded}
use Rattle.copy_states.specs.Outcomes.{EndsDiffering, EndsShort, IsFirst, Needs, Passes}
use Rattle.copy_states.specs.Starts.{HasMixed, MixedGives, Pair}
use Rattle.copy_laws.specs.Endings.{MixedIsOne, OneOutcome}
use Rattle.copy_laws.proofs.UnitBytes.{same_digest}

-- lists that can't differ are the same
same_if_not_other : (xs ys : List ℕ) → (¬ (¬ (xs ≡ ys))) → xs ≡ ys
same_if_not_other xs ys not_other =
    let long : length xs ≡ length ys = elim (cases_eq (length xs) (length ys)) [
      | inl same ↦ same
      | inr other ↦ absurd (not_other (λ e. other (ap (λ (l : List ℕ). length l) e)))
    ] in
    same_number_lists xs ys long (λ k h. elim (cases_eq (get_or xs k 0) (get_or ys k 0)) [
      | inl same ↦ same
      | inr other ↦ absurd (not_other (λ e. other (ap (λ (l : List ℕ). get_or l k 0) e)))
    ])

one_mixed : (id : JobId) (m : BlockMap) (s : List ℕ) (start : Pair) (r : ℕ) (range : Range) (a b : List ℕ) → IsJobOf id m → IsRangeAt m r range → HasMixed id m s start r a → HasMixed id m s start r b → digest_in m b range ≡ digest_in m a range
one_mixed id m s start r range a b job is in_a in_b =
    same_digest id m r range a b job is (λ k u mine at. same_if_not_other _ _ (λ other.
    let unrecorded : ¬ IsRecorded id k start.journal = λ recorded. other ((in_b.kept k u mine at recorded).same ∙ sym (in_a.kept k u mine at recorded).same) in
    other ((in_b.written k u mine at unrecorded).same ∙ sym (in_a.written k u mine at unrecorded).same)))

same_some : {X : Type 0} (a b : X) → Some a ≡ Some b → a ≡ b
same_some {X} a b e = ap (λ (o : Option X). unwrap_or o a) e

pub mixed_is_one : MixedIsOne
mixed_is_one id m s start r want got want_too got_too job one other =
    let range : one.range ≡ other.range = same_some one.range other.range (sym one.is ∙ other.is) in
    let stated : want ≡ want_too = same_some want want_too (sym one.stated ∙ ap (λ (x : Range). x.digest) range ∙ other.stated) in
    let digest : digest_in m other.image other.range ≡ digest_in m one.image other.range =
    one_mixed id m s start r other.range one.image other.image job other.is one.mixed other.mixed in
    (stated, one.computed ∙ ap (λ (x : Range). digest_in m one.image x) range ∙ sym digest ∙ sym other.computed)

-- ---- outcomes
passes_digest : (id : JobId) (m : BlockMap) (s : List ℕ) (start : Pair) (r : ℕ) (want : List ℕ) (digest : Option (List ℕ)) → digest ≡ Some want → IfSome digest (λ d. MixedGives id m s start r d d) → MixedGives id m s start r want want
passes_digest id m s start r want digest e h = subst (λ (o : Option (List ℕ)). IfSome o (λ d. MixedGives id m s start r d d)) e h

short_refuses : (id : JobId) (m : BlockMap) (s : List ℕ) (start : Pair) (at : ℕ) (short : EndsShort id m s start at) → ¬ Passes id m s start short.range
short_refuses id m s start at short passes = let less : at < length s = passes.needs at short.needed in omega (arith, short.lacks)

differing_refuses : (id : JobId) (m : BlockMap) (s : List ℕ) (start : Pair) (r : ℕ) (want got : List ℕ) → IsJobOf id m → EndsDiffering id m s start r want got → ¬ Passes id m s start r
differing_refuses id m s start r want got job ends passes =
    let same : MixedGives id m s start r want want = passes_digest id m s start r want ends.mixed.range.digest ends.mixed.stated (passes.digest ends.mixed.range ends.mixed.is) in
    let one = mixed_is_one id m s start r want want want got job same ends.mixed in
    ends.differs one.1

one_first : (id : JobId) (m : BlockMap) (s : List ℕ) (start : Pair) (r x : ℕ) → IsFirst id m s start r → IsFirst id m s start x → (¬ Passes id m s start r) → (¬ Passes id m s start x) → r ≡ x
one_first id m s start r x first other refuses refuses_too =
    let low : ¬ (r < x) = λ less. refuses (other.before r less first.left) in
    let high : ¬ (x < r) = λ less. refuses_too (first.before x less other.left) in
    elim (cases_lt r x) [
      | inl less ↦ absurd (low less)
      | inr le ↦ elim (cases_lt x r) [
        | inl less ↦ absurd (high less)
        | inr le_too ↦ omega arith
      ]
    ]

one_short : (id : JobId) (m : BlockMap) (s : List ℕ) (start : Pair) (at too : ℕ) → EndsShort id m s start at → EndsShort id m s start too → at ≡ too
one_short id m s start at too one other =
    let same : one.range ≡ other.range = one_first id m s start one.range other.range one.first other.first (short_refuses id m s start at one) (short_refuses id m s start too other) in
    let there : Needs id m start other.range at = subst (λ (n : ℕ). Needs id m start n at) same one.needed in
    let there_too : Needs id m start one.range too = subst (λ (n : ℕ). Needs id m start n too) (sym same) other.needed in
    elim (cases_lt at too) [
      | inl less ↦ let below : at < length s = other.least at there less in absurd (omega (arith, one.lacks))
      | inr le ↦ elim (cases_lt too at) [
        | inl less ↦ let below : too < length s = one.least too there_too less in absurd (omega (arith, other.lacks))
        | inr le_too ↦ omega arith
      ]
    ]

pub one_outcome : OneOutcome
one_outcome id m s start job = record {
  short = one_short id m s start;
  differing = λ r x want got want_too got_too one other.
      let same : r ≡ x = one_first id m s start r x one.first other.first (differing_refuses id m s start r want got job one) (differing_refuses id m s start x want_too got_too job other) in
      let both = mixed_is_one id m s start x want got want_too got_too job (subst (λ (n : ℕ). MixedGives id m s start n want got) same one.mixed) other.mixed in
      (same, both.0, both.1);
  short_isnt_done = λ at short done. short_refuses id m s start at short (done short.range short.first.left);
  differing_isnt_done = λ r want got ends done. differing_refuses id m s start r want got job ends (done r ends.first.left);
  short_isnt_differing = λ at r want got short ends.
      let same : short.range ≡ r = one_first id m s start short.range r short.first ends.first (short_refuses id m s start at short) (differing_refuses id m s start r want got job ends) in
      let less : at < length s = ends.needs at (subst (λ (n : ℕ). Needs id m start n at) same short.needed) in
      omega (arith, short.lacks);
}
