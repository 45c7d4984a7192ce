use Rattle.std.proofs.Common.{inl, inr, sym, arith}
use Rattle.span_cover.proofs.Searching.{meets_empty, meets_none, meets_test}
use Rattle.span_cover.proofs.Spans.{true≢false}
use Rattle.span_cover.proofs.places.meets.Goals as goal

pub returns-then-span-eq0 : goal.returns-then-span-eq0
returns-then-span-eq0 c = (
  λ h. absurd (true≢false (sym h)),
  λ m. elim c.then-span-eq0.either [
    | inl empty ↦ absurd (meets_empty c.args.spans.now c.args.span empty m)
    | inr last ↦ absurd (meets_none c.args.spans.now c.args.span c.ending_before-first.result c.ending_before-first.ensures.point (omega arith) m)
  ],
)

pub returns : goal.returns
returns c = meets_test c.args.spans.now c.args.span c.ending_before-first.result _ c.requires.cover c.ending_before-first.ensures.point (omega arith) (omega (arith, c.ending_before-first.ensures.bound))
