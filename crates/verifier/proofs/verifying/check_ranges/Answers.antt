use Rattle.std.proofs.Common.{◌≡◌, ◌+◌, ◌<◌, ℕ, List, length, get_or, Some, None, rules, ap, sym, ◌∙◌, arith}
use Rattle.bench.specs.declared.Dev.{Dev}
use Rattle.bench.specs.declared.Dev.TheVariants.{Target}
use Rattle.bench.proofs.DiskLemmas.{looked_then}
use Rattle.bench.proofs.MeterLemmas.{same_names_then}
use Rattle.block_map.specs.declared.maps.Range.{Range}
use Rattle.verifier.proofs.Checked.{cost_none, cost_some, cost_stop, counted_none, counted_some, own_none, own_some}
use Rattle.verifier.proofs.verifying.check_ranges.Goals as goal

pub returns-in_err-check_range-clause-bill : goal.returns-in_err-check_range-clause-bill
returns-in_err-check_range-clause-bill g c =
    let e : Range = record { first = 0; last = 0; digest = None } in
    cost_stop c.args.map.now c.loop-k.k e (search rules) c.loop-k.invariant.bill (c.check_range.ensures.bill e)

pub loop-k-preserved-in_default : goal.loop-k-preserved-in_default
loop-k-preserved-in_default g c =
    let m = c.args.map.now in
    let k = c.loop-k.k in
    let e : Range = record { first = 0; last = 0; digest = None } in
    let there : k < length m.ranges = search rules in
    let none : (get_or m.ranges k e).digest ≡ None = search rules in
    record {
      attached = c.loop-k.invariant.attached;
      room = c.loop-k.invariant.room;
      few = omega (arith, c.loop-k.invariant.few);
      counted = c.loop-k.invariant.counted ∙ sym (counted_none m.ranges k e there none);
      each = λ told. own_none m _ k e there none (c.loop-k.invariant.each told);
      looked = c.loop-k.invariant.looked;
      stays = c.loop-k.invariant.stays;
      bill = cost_none m k e there c.loop-k.invariant.bill;
      same_names = c.loop-k.invariant.same_names;
    }

pub loop-k-preserved : goal.loop-k-preserved
loop-k-preserved g c =
    let m = c.args.map.now in
    let k = c.loop-k.k in
    let want = c.in-Some.want in
    let e : Range = record { first = 0; last = 0; digest = None } in
    let there : k < length m.ranges = search rules in
    let some : (get_or m.ranges k e).digest ≡ Some want = search rules in
    let disk = g.B.Bench.disk in
    let same : (disk c.loop-k.bench).reads Target ≡ (disk c.args.bench.now).reads Target =
    ap (λ (reads : Dev → List ℕ). reads Target) c.loop-k.invariant.looked.reads in
    let own = c.in_ok-check_range.ensures.same in
    record {
      attached = search rules;
      room = search rules;
      few = omega (arith, c.loop-k.invariant.few);
      counted = ap (λ n. n + 1) c.loop-k.invariant.counted ∙ sym (counted_some m.ranges k e want there some);
      each = λ told. own_some m _ _ k e want there some same (own told e) (c.loop-k.invariant.each told);
      looked = looked_then c.loop-k.invariant.looked c.check_range.ensures.looked;
      stays = λ each image was. c.check_range.ensures.stays each image (c.loop-k.invariant.stays each image was);
      bill = cost_some m k e there c.loop-k.invariant.bill (c.check_range.ensures.bill e);
      same_names = same_names_then c.loop-k.invariant.same_names c.check_range.ensures.same_names;
    }
