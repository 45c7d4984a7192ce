use Rattle.std.proofs.Common.{rules}
use Rattle.image_jobs.proofs.LineLemmas.{all_printed, image_more}
use Rattle.image_jobs.proofs.printing.print_images.Goals as goal

pub loop-place-preserved : goal.loop-place-preserved
loop-place-preserved g c = record {
  steady = search rules;
  lines =
      image_more c.args.graph.now c.args.images.now c.args.sizes.now c.loop-place.place c.full_at.result.now _ _ _
      (search rules) (search rules) c.full_at.ensures c.loop-place.invariant.lines c.in_ok-print_image.ensures.printed;
}

pub returns-clause-printed : goal.returns-clause-printed
returns-clause-printed g c =
    all_printed c.args.graph.now c.args.images.now c.args.sizes.now c.loop-place.place _ _ (search rules) (search rules)
    c.loop-place.invariant.lines
