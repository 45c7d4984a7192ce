use Rattle.std.proofs.lemmas.Slice.Zip.{AllZip-long}
use Rattle.image_plan.proofs.placing.on_disk.Goals as goal

pub place-requires-clause-lens : goal.place-requires-clause-lens
place-requires-clause-lens c = AllZip-long _ c.args.spec.now.sources c.args.lens.now c.requires.lengths
