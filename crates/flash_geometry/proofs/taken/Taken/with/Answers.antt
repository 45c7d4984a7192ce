use Rattle.flash_geometry.proofs.Spans.{taken_more}
use Rattle.flash_geometry.proofs.taken.Taken.with.Goals as goal

pub invariant_of-result : goal.invariant_of-result
invariant_of-result c =
    let more = taken_more c.self.inside.spans.items c.self.inside.cover c.add.new.self c.self.inside.last c.args.span c.self.invariant c.in_ok-add.ensures.ok c.requires in
    rw (c.in_ok-push.ensures.items, c.max.ensures) more
