use Rattle.std.proofs.Common.{rules, ◌≡◌, ◌⊎◌, ◌+◌, ◌<◌, ◌≤◌, length, slice_index, ap, inl, inr, ⊎_elim, ◌∙◌, arith}
use Rattle.std.proofs.Math.Nat.{eq-or-lt_of_le}
use Rattle.std.proofs.lemmas.Grind.{get_or_default_zero}
use Rattle.bench.specs.declared.Dev.TheVariants.{Journal}
use Rattle.bench.proofs.DiskLemmas.{torn_more}
use Rattle.copy_journal.proofs.PieceLemmas.{is_mark, mark_there}
use Rattle.copy_journal.proofs.marks.mark_units.Goals as goal

pub returns-in_err-write_at-clause-moves : goal.returns-in_err-write_at-clause-moves
returns-in_err-write_at-clause-moves g c told =
    let inside : c.loop-k.k-index < length c.args.ks.now = search rules in
    torn_more (c.loop-k.invariant.torn told) c.write_at.ensures.touches (λ k low high. is_mark c.args.ks.now c.loop-k.k-index k inside low high)

pub loop-k-preserved : goal.loop-k-preserved
loop-k-preserved g c =
    let ks = c.args.ks.now in
    let at = c.loop-k.k-index in
    let reads = λ (told : g.B.Bench.told). (g.B.Bench.disk c.loop-k.bench).reads Journal in
    let inside : at < length ks = search rules in
    let room = λ (told : g.B.Bench.told). let within = (c.requires.inside told) at 0 inside in let size = c.loop-k.invariant.size told in let in_it : 80 + slice_index ks at < length (reads told) = omega (arith, within, size) in in_it in
    record {
      attached = search rules;
      size = search rules;
      torn = λ told. torn_more (c.loop-k.invariant.torn told) c.write_at.ensures.touches (λ k low high. is_mark ks at k inside low high);
      marked = λ told i below.
          let place = 80 + slice_index ks i in
          let upto : i ≤ at = omega (arith, below) in
          let there : (place ≡ 80 + slice_index ks at) ⊎ (slice_index (reads told) place ≡ 0x44) = ⊎_elim (λ same. inl (ap (λ n. 80 + slice_index ks n) same)) (λ before. inr (c.loop-k.invariant.marked told i before)) (eq-or-lt_of_le upto) in
          ap (λ r. slice_index r place) (c.in_ok-write_at.ensures.wrote told) ∙ mark_there (reads told) (80 + slice_index ks at) 0x44 place (room told) there;
      bill = search rules;
      same_names = search rules;
    }

pub returns-clause-marked : goal.returns-clause-marked
returns-clause-marked g c told k d below =
    let ks = c.args.ks.now in
    let all : length ks ≤ c.loop-k.k-index = search rules in
    let before : k < c.loop-k.k-index = omega (arith, below, all) in
    let reads = (g.B.Bench.disk c.sync.new.self).reads Journal in
    ap (λ n. slice_index reads (80 + n)) (get_or_default_zero ks k d below) ∙ ap (λ (f : _). slice_index (f Journal) (80 + slice_index ks k)) c.sync.ensures.looked.reads ∙ c.loop-k.invariant.marked told k before
