use Rattle.std.proofs.Common.{length, refl, rules}
use Rattle.image_jobs.proofs.LineLemmas.{images_front, images_printed, report_printed}
use Rattle.image_jobs.proofs.printing.print_built.Goals as goal

pub returns-in_err-print_images-clause-prints : goal.returns-in_err-print_images-clause-prints
returns-in_err-print_images-clause-prints g c = record {
  front =
      images_front c.args.graph.now c.as_slice.result.now c.args.sizes.now _ _ c.as_slice.ensures
      c.in_err-print_images.ensures.front;
  whole = λ steady. absurd (steady (search rules));
}

pub returns-in_err-print_count-clause-prints : goal.returns-in_err-print_count-clause-prints
returns-in_err-print_count-clause-prints g c = record {
  front =
      images_printed c.args.graph.now c.as_slice.result.now c.args.sizes.now _ _ _ c.as_slice.ensures
      c.in_ok-print_images.ensures.printed c.in_err-print_count.ensures.err;
  whole = λ steady. absurd (steady (search rules));
}

pub returns-clause-prints : goal.returns-clause-prints
returns-clause-prints g c =
    report_printed c.args.graph.now c.as_slice.result.now c.args.sizes.now (length c.args.sizes.now) _ _ _ _ _ c.as_slice.ensures
    refl c.in_ok-print_images.ensures.printed c.in_ok-print_count.ensures.printed
