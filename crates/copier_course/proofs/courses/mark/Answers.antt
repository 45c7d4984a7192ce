use Rattle.std.proofs.Common.{rules, ◌≡◌, ◌⊎◌, ℕ, ◌<◌, ◌≤◌, List, length, slice_index, slice_set, ap, inl, inr, sym, ⊎_elim, ◌∙◌, arith}
use Rattle.std.proofs.Math.Nat.{eq-or-lt_of_le}
use Rattle.std.proofs.lemmas.Grind.{get_or_default_zero}
use Rattle.std.proofs.lemmas.List.{get_or-set_other, length-set}
use Rattle.copier_course.proofs.Positions.{marked_set}
use Rattle.copier_course.proofs.courses.mark.Goals as goal

pub set-requires : goal.set-requires
set-requires c =
    let ks = c.args.ks.now in
    let at = c.loop-k.k-index in
    let inside : at < length ks = search rules in
    let below : slice_index ks at < length c.args.units.now = c.requires at 0 inside in
    omega (arith, below, c.loop-k.invariant.size)

pub loop-k-preserved : goal.loop-k-preserved
loop-k-preserved c =
    let ks = c.args.ks.now in
    let at = c.loop-k.k-index in
    let units = c.loop-k.units in
    let inside : at < length ks = search rules in
    let below : slice_index ks at < length c.args.units.now = c.requires at 0 inside in
    let room : slice_index ks at < length units = omega (arith, below, c.loop-k.invariant.size) in
    record {
      size = ap (λ (l : List ℕ). length l) c.set.ensures ∙ length-set units (slice_index ks at) 0x44 ∙ c.loop-k.invariant.size;
      marked = λ i less.
          let upto : i ≤ at = omega (arith, less) in
          let there : (slice_index ks i ≡ slice_index ks at) ⊎ (slice_index units (slice_index ks i) ≡ 0x44) = ⊎_elim (λ same. inl (ap (λ n. slice_index ks n) same)) (λ before. inr (c.loop-k.invariant.marked i before)) (eq-or-lt_of_le upto) in
          ap (λ (l : List ℕ). slice_index l (slice_index ks i)) c.set.ensures ∙ marked_set units (slice_index ks at) (slice_index ks i) room there;
      others = λ x none.
          ap (λ (l : List ℕ). slice_index l x) c.set.ensures
          ∙ get_or-set_other units (slice_index ks at) x 0x44 0 (λ same. none at (omega arith) (sym same))
          ∙ c.loop-k.invariant.others x (λ i less. none i (omega (arith, less)));
    }

pub returns : goal.returns
returns c =
    let ks = c.args.ks.now in
    let all : length ks ≤ c.loop-k.k-index = search rules in
    let within : c.loop-k.k-index ≤ length ks = search rules in
    record {
      size = c.loop-k.invariant.size;
      marked = λ x among.
          let is : slice_index ks among.0 ≡ x = sym (get_or_default_zero ks among.0 x among.1) ∙ among.2 in
          ap (λ (n : ℕ). slice_index c.loop-k.units n) (sym is) ∙ c.loop-k.invariant.marked among.0 (omega (arith, among.1, all));
      others = λ x out. c.loop-k.invariant.others x (λ i less is.
          let below : i < length ks = omega (arith, less, within) in
          out (i, below, get_or_default_zero ks i x below ∙ is));
    }
