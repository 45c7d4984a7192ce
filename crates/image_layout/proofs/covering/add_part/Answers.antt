use Rattle.image_layout.proofs.Gaining.{gains_part}
use Rattle.image_layout.proofs.covering.add_part.Goals as goal

pub returns-clause-ok : goal.returns-clause-ok
returns-clause-ok c =
    gains_part c.args.part.now c.args.cover.now c.add_between.new.cover c.requires.file
    (rw (c.reach.ensures, c.as_slice.ensures) at c.in_ok-add_between.ensures.ok)
