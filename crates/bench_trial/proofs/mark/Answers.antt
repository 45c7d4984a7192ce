use Rattle.std.proofs.Common.{rules, ◌≡◌, ◌⊎◌, ◌+◌, ◌<◌, ◌≤◌, length, slice_index, ap, inl, inr, ⊎_elim, ◌∙◌, arith}
use Rattle.std.proofs.Math.Nat.{eq-or-lt_of_le}
use Rattle.std.proofs.lemmas.Grind.{get_or_default_zero}
use Rattle.bench.specs.declared.Dev.TheVariants.{Journal}
use Rattle.bench.proofs.DiskLemmas.{torn_more}
use Rattle.bench_trial.proofs.Marks.{is_mark, mark_there}
use Rattle.bench_trial.proofs.mark.Goals as goal

pub returns-in_err-write_at-clause-torn : goal.returns-in_err-write_at-clause-torn
returns-in_err-write_at-clause-torn g c told =
    let inside : c.loop-unit.unit-index < length c.args.units.now = search rules in
    torn_more (c.loop-unit.invariant.torn told) c.write_at.ensures.touches (λ k low high. is_mark c.args.units.now c.loop-unit.unit-index k inside low high)

pub loop-unit-preserved : goal.loop-unit-preserved
loop-unit-preserved g c =
    let units = c.args.units.now in
    let at = c.loop-unit.unit-index in
    let reads = λ (told : g.B.Bench.told). (g.B.Bench.disk c.loop-unit.bench).reads Journal in
    let inside : at < length units = search rules in
    let room = λ (told : g.B.Bench.told). let within = (c.requires.inside told) at 0 inside in let size = c.loop-unit.invariant.size told in let in_it : 80 + slice_index units at < length (reads told) = omega (arith, within, size) in in_it in
    record {
      attached = search rules;
      size = search rules;
      torn = λ told. torn_more (c.loop-unit.invariant.torn told) c.write_at.ensures.touches (λ k low high. is_mark units at k inside low high);
      marked = λ told i below.
          let place = 80 + slice_index units i in
          let upto : i ≤ at = omega (arith, below) in
          let there : (place ≡ 80 + slice_index units at) ⊎ (slice_index (reads told) place ≡ 0x44) = ⊎_elim (λ same. inl (ap (λ n. 80 + slice_index units n) same)) (λ before. inr (c.loop-unit.invariant.marked told i before)) (eq-or-lt_of_le upto) in
          ap (λ r. slice_index r place) (c.in_ok-write_at.ensures.wrote told) ∙ mark_there (reads told) (80 + slice_index units at) 0x44 place (room told) there;
      bill = search rules;
      same_names = search rules;
    }

pub returns-clause-marked : goal.returns-clause-marked
returns-clause-marked g c told k d below =
    let units = c.args.units.now in
    let all : length units ≤ c.loop-unit.unit-index = search rules in
    let before : k < c.loop-unit.unit-index = omega (arith, below, all) in
    let reads = (g.B.Bench.disk c.sync.new.self).reads Journal in
    ap (λ n. slice_index reads (80 + n)) (get_or_default_zero units k d below) ∙ ap (λ (f : _). slice_index (f Journal) (80 + slice_index units k)) c.sync.ensures.looked.reads ∙ c.loop-unit.invariant.marked told k before
