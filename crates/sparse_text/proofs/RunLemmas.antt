-- Lists of maximal runs.
use Rattle.std.proofs.Common.{◌≡◌, ℕ, suc, ◌+◌, ◌<◌, ◌≤◌, ◌++◌, List, [], ◌∷◌, refl, ap, subst, sym, ◌∙◌, add-zero, arith, inl, inr}
use Rattle.std.specs.List.{Any, sum_by}
use Rattle.std.proofs.lemmas.List.Sums.{sum_by-cons}
use Rattle.std.proofs.lemmas.Bool.{cases_lt}
use Rattle.sparse_text.specs.Runs.{AreRuns, Ends, IsRun, Shows}
use Rattle.sparse_text.specs.declared.runs.Content.{Content}
use Rattle.sparse_text.specs.declared.runs.Run.{Run}

module _ (has : ℕ → Content → Type 0) (most : ℕ) where
  -- ---- one list

  ends_after : (first end : ℕ) (runs : List Run) → AreRuns has most first end runs → first ≤ end
  ends_after first end [] h = omega (arith, h)
  ends_after first end (r ∷ rest) h =
      let more = ends_after (first + r.count) end rest h.2 in
      omega arith

  -- each block below an end has one content
  abbrev pub OneContent : ℕ → Type 0
  OneContent end = (b : ℕ) → b < end → (c d : Content) → has b c → has b d → c ≡ d

  -- a run is as long as another one of its content from the same block on
  not_longer : (first end : ℕ) (r s : Run) (rest : List Run) → OneContent end → AreRuns has most first end (r ∷ rest) →
      IsRun has most first s → first + s.count ≤ end → r.content ≡ s.content → s.count ≤ r.count
  not_longer first end r s [] one h is within same = let whole = h.2 in omega (arith, whole)
  not_longer first end r s (t ∷ more) one h is within same = elim (cases_lt r.count s.count) [
    | inl less ↦
        let b = first + r.count in
        let next = h.2.0 in
        let some = next.some in
        let there = next.alike b (omega arith) (omega (arith, some)) in
        let here = is.alike b (omega arith) (omega (arith, less)) in
        let alike : t.content ≡ s.content = one b (omega (arith, less, within)) t.content s.content there here in
        let cut = h.1 (same ∙ sym alike) in
        let short = is.short (sym same ∙ cut.0) in
        let full = cut.1 in
        absurd (omega (arith, less, short, full))
    | inr fits ↦ omega (arith, fits)
  ]

  abbrev run_of : ℕ → ℕ → Content → Run
  run_of first count content = record { first = first; count = count; content = content }

  same_run : (r s : Run) → r.first ≡ s.first → r.count ≡ s.count → r.content ≡ s.content → r ≡ s
  same_run r s first count content =
      ap (λ (x : ℕ). run_of x r.count r.content) first
      ∙ ap (λ (x : ℕ). run_of s.first x r.content) count
      ∙ ap (λ (x : Content). run_of s.first s.count x) content

  pub one_list : (end : ℕ) → OneContent end → (first : ℕ) (runs others : List Run) →
      AreRuns has most first end runs → AreRuns has most first end others → runs ≡ others
  one_list end one first [] [] h k = refl
  one_list end one first [] (s ∷ more) h k =
      let after = ends_after (first + s.count) end more k.2 in
      let some = k.0.some in
      absurd (omega (arith, h, after, some))
  one_list end one first (r ∷ rest) [] h k =
      let after = ends_after (first + r.count) end rest h.2 in
      let some = h.0.some in
      absurd (omega (arith, k, after, some))
  one_list end one first (r ∷ rest) (s ∷ more) h k =
      let r_after = ends_after (first + r.count) end rest h.2 in
      let s_after = ends_after (first + s.count) end more k.2 in
      let r_some = h.0.some in
      let s_some = k.0.some in
      let alike : r.content ≡ s.content =
      one first (omega (arith, r_after, r_some)) r.content s.content (h.0.alike first (omega arith) (omega (arith, r_some))) (k.0.alike first (omega arith) (omega (arith, s_some))) in
      let not_above = not_longer first end r s rest one h k.0 s_after alike in
      let not_below = not_longer first end s r more one k h.0 r_after (sym alike) in
      let count : r.count ≡ s.count = omega (arith, not_above, not_below) in
      let is = same_run r s (h.0.begins ∙ sym k.0.begins) count alike in
      let behind = subst (λ (n : ℕ). AreRuns has most (first + n) end rest) count h.2 in
      let all = one_list end one (first + s.count) rest more behind k.2 in
      ap (λ (x : Run). x ∷ rest) is ∙ ap (λ (xs : List Run). s ∷ xs) all

  -- ---- they are all the blocks

  pub all_counted : (first end : ℕ) (runs : List Run) → AreRuns has most first end runs → first + sum_by (λ r. r.count) runs ≡ end
  all_counted first end [] h = add-zero first ∙ h
  all_counted first end (r ∷ rest) h =
      let more = all_counted (first + r.count) end rest h.2 in
      let sum = sum_by-cons (λ (x : Run). x.count) r rest in
      omega (arith, more, sum)

  pub all_shown : (first end : ℕ) (runs : List Run) (b : ℕ) → AreRuns has most first end runs → first ≤ b → b < end → Any (Shows has b) runs
  all_shown first end [] b h not_before before = absurd (omega (arith, h, not_before, before))
  all_shown first end (r ∷ rest) b h not_before before = elim (cases_lt b (first + r.count)) [
    | inl inside ↦
        let begins = h.0.begins in
        (0, r, omega arith, refl, (omega (arith, begins, not_before), omega (arith, begins, inside), h.0.alike b not_before inside))
    | inr past ↦
        let there = all_shown (first + r.count) end rest b h.2 past before in
        let below = there.2 in
        (suc there.0, there.1, omega (arith, below), there.3, there.4)
  ]

  -- ---- one more run

  -- a run goes behind the last one, which ends there
  pub run_more : (first mid : ℕ) (front : List Run) (last r : Run) → AreRuns has most first mid (front ++ last ∷ []) → Ends most last r →
      IsRun has most mid r → AreRuns has most first (mid + r.count) (front ++ last ∷ r ∷ [])
  run_more first mid [] last r h ends is = (h.0, ends, (subst (λ (n : ℕ). IsRun has most n r) (sym h.2) is, tt, ap (λ (n : ℕ). n + r.count) h.2))
  run_more first mid (x ∷ []) last r h ends is = (h.0, h.1, run_more (first + x.count) mid [] last r h.2 ends is)
  run_more first mid (x ∷ y ∷ front) last r h ends is = (h.0, h.1, run_more (first + x.count) mid (y ∷ front) last r h.2 ends is)

  -- the last run takes more blocks
  pub run_longer : (first mid : ℕ) (front : List Run) (last more : Run) → AreRuns has most first mid (front ++ last ∷ []) →
      more.content ≡ last.content → IsRun has most last.first more → AreRuns has most first (last.first + more.count) (front ++ more ∷ [])
  run_longer first mid [] last more h same is = (subst (λ (n : ℕ). IsRun has most n more) h.0.begins is, tt, ap (λ (n : ℕ). n + more.count) (sym h.0.begins))
  run_longer first mid (x ∷ []) last more h same is =
      (h.0, λ alike. h.1 (alike ∙ same), run_longer (first + x.count) mid [] last more h.2 same is)
  run_longer first mid (x ∷ y ∷ front) last more h same is = (h.0, h.1, run_longer (first + x.count) mid (y ∷ front) last more h.2 same is)
