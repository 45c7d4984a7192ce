use Rattle.std.proofs.Common.{◌≤◌, ◌-◌, ◌*◌, ◌/◌, ◌^◌, arith}
use Rattle.std.specs.Int.{next_multiple_of}
use Rattle.base_fields.proofs.Multiples.{fits_below, least_multiple}
use Rattle.base_fields.proofs.numbers.round_up.Goals as goal

pub next_multiple_of-requires-clause-fits : goal.next_multiple_of-requires-clause-fits
next_multiple_of-requires-clause-fits c =
    let below : next_multiple_of c.args.n c.args.to ≤ (2 ^ 64 - 1) / c.args.to * c.args.to = fits_below c.args.n c.args.to _ c.requires.nonzero c.requires.fits in
    omega arith

pub returns-clause-least : goal.returns-clause-least
returns-clause-least c = least_multiple c.args.n c.args.to _ c.requires.nonzero c.next_multiple_of.ensures.lower_bound c.next_multiple_of.ensures.upper_bound c.next_multiple_of.ensures.multiple
