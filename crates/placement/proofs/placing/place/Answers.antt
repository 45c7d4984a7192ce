use Rattle.placement.proofs.Settled.{stood_so}
use Rattle.placement.proofs.placing.place.Goals as goal

pub finish-requires : goal.finish-requires
finish-requires c =
    stood_so c.args.spec.now c.args.lens.now c.frame_of-frame.result c.in_ok-placed.placed
    c.requires.spec c.requires.kind c.frame_of-frame.ensures.frame c.frame_of-frame.ensures.within
    (rw c.in_ok-terms.ensures.terms at c.in_ok-terms.ensures.names)
    (rw c.in_ok-terms.ensures.terms at c.in_ok-terms.ensures.holes)
    (rw (c.as_slice.ensures, c.in_ok-terms.ensures.terms) at c.in_ok-placed.ensures.ok)
