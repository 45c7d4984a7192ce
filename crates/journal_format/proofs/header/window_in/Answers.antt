use Rattle.std.proofs.Common.{◌≡◌, ℕ, IfSome, refl, sym, subst, inl, inr}
use Rattle.journal_format.specs.Journals.{magic_1, magic_2}
use Rattle.journal_format.proofs.JournalLemmas.{no_version, second_version, window_1, window_2}
use Rattle.journal_format.proofs.header.window_in.Goals as goal

pub returns-then-begins_with-clause-version : goal.returns-then-begins_with-clause-version
unfolding magic_1
returns-then-begins_with-clause-version c = (λ some. inl (c.begins_with.ensures.0 c.if-begins_with.true), λ version. refl)

pub returns-then-begins_with-clause-window : goal.returns-then-begins_with-clause-window
unfolding magic_1
returns-then-begins_with-clause-window c = sym (window_1 c.args.head.now (c.begins_with.ensures.0 c.if-begins_with.true))

pub returns-then-begins_with-2-clause-version : goal.returns-then-begins_with-2-clause-version
unfolding magic_1 magic_2
returns-then-begins_with-2-clause-version c = (
  λ some. inr (c.begins_with-2.ensures.0 c.if-begins_with-2.true, c.window_from.ensures.between.0 some),
  λ version. c.window_from.ensures.between.1 (second_version c.begins_with.result c.args.head.now c.if-begins_with.false c.begins_with.ensures.1 version),
)

pub returns-then-begins_with-2-clause-window : goal.returns-then-begins_with-2-clause-window
unfolding magic_2
returns-then-begins_with-2-clause-window c =
    let same = window_2 c.args.head.now (c.begins_with-2.ensures.0 c.if-begins_with-2.true) in
    subst (λ (x : ℕ). IfSome c.window_from.result (λ window. window ≡ x)) (sym same) c.window_from.ensures.same

pub returns-clause-version : goal.returns-clause-version
unfolding magic_1 magic_2
returns-clause-version c =
    (λ none. absurd (cc), λ version. absurd (no_version c.begins_with.result c.begins_with-2.result c.args.head.now c.if-begins_with.false c.if-begins_with-2.false c.begins_with.ensures.1 c.begins_with-2.ensures.1 version))
