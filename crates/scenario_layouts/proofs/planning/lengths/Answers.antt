use Rattle.std.proofs.Common.{rules, arith, ◌≡◌, ℕ, ◌+◌, List, [], ◌∷◌, ◌++◌, length, subst, sym}
use Rattle.std.proofs.lemmas.Grind.{common_steps}
use Rattle.scenario_layouts.proofs.Lengths.{lengths_more}
use Rattle.scenario_layouts.proofs.planning.lengths.Goals as goal

pub loop-source-preserved : goal.loop-source-preserved
loop-source-preserved c =
    let grown : c.push.new.self ≡ c.loop-source.lens ++ c.in_ok-length_of.field-0 ∷ [] = c.in_ok-push.ensures.ok in
    let many : length c.loop-source.lens ≡ c.loop-source.source-index = c.loop-source.invariant.many in
    record {
      many = subst (λ (xs : List ℕ). length xs ≡ c.loop-source.source-index + 1) (sym grown) (search (arith, many, common_steps));
      lengths = lengths_more c.args.sources.now c.loop-source.source-index c.source-item.result c.loop-source.lens c.push.new.self c.in_ok-length_of.field-0 (search rules) c.loop-source.invariant.lengths (search rules) grown;
    }
