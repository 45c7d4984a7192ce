use Rattle.std.proofs.Common.{◌≡◌, ◌<◌, ◌+◌, ℕ, true, false, IsTrue, Option, length, rules, ◌∙◌, sym, subst}
use Rattle.bench_devices.specs.declared.record.Entry.{Entry}
use Rattle.bench_devices.specs.declared.record.Kind.TheVariants.{Wrote}
use Rattle.bench.specs.declared.Dev.TheVariants.{Target}
use Rattle.bench.specs.Meter.{Both}
use Rattle.bench_devices.proofs.TearPlaces.{IsPlace, place_here, place_not_here}
use Rattle.bench_devices.proofs.record.place_of.Goals as goal
use Rattle.bench_devices.proofs.record.place_of.Goals.{then-covers, else-covers}

abbrev none : Entry
none = record { dev = Target; kind = Wrote; at = 0; from = 0; len = 0 }

pub loop-k-preserved : goal.loop-k-preserved
loop-k-preserved c =
    let settled : Both ℕ = record { target = c.args.choice.target; journal = c.args.choice.journal } in
    let bytes = c.args.bytes.now in
    let entries = c.args.entries.now in
    let below : c.loop-k.k < length entries = search rules in
    elim c.if-covers.branch [
      | then-covers w ↦
          let is : IsTrue c.covers.result = search rules in
          let inside = c.covers.ensures.inside is in
          let on : c.covers.result ≡ true = search rules in
          let here = place_here settled c.args.dev c.args.at bytes entries c.loop-k.k none c.requires.within c.requires.apart below inside.0 inside.1 (λ found. sym (c.covers.ensures.exact found) ∙ on) in
          subst (λ (p : Option ℕ). IsPlace settled c.args.dev c.args.at bytes entries (c.loop-k.k + 1) p) (sym w.place-is) here
      | else-covers w ↦
          let off : c.covers.result ≡ false = search rules in
          let before = place_not_here settled c.args.dev c.args.at bytes entries c.loop-k.k none c.loop-k.place below c.loop-k.invariant (λ found. sym (c.covers.ensures.exact found) ∙ off) in
          subst (λ (p : Option ℕ). IsPlace settled c.args.dev c.args.at bytes entries (c.loop-k.k + 1) p) (sym w.place-is) before
    ]
