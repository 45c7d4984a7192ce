use Rattle.std.proofs.Common.{ℕ, ap, ◌∙◌, slice_set}
use Rattle.std.proofs.lemmas.List.{take_more}
use Rattle.gpt_table.proofs.NameUnits.{units_next}
use Rattle.gpt_table.proofs.names.name_units.Goals as goal

pub loop-k-preserved : goal.loop-k-preserved
loop-k-preserved c =
    ap (λ (b : ℕ). slice_set c.loop-k.units c.loop-k.k b) c.from.ensures
    ∙ units_next c.args.text.now c.loop-k.k c.loop-k.units _ c.loop-k-test.true c.requires c.loop-k.invariant (take_more c.args.text.now c.loop-k.k 0 c.loop-k-test.true)
