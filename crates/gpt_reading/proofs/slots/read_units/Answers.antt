use Rattle.std.proofs.Common.{rules, ◌≡◌, length}
use Rattle.gpt_reading.proofs.Bytes.{units_here}
use Rattle.gpt_reading.proofs.slots.read_units.Goals as goal

pub returns : goal.returns
returns c =
    let long : length c.read_u16_into.new.dst ≡ 36 = search rules in
    units_here c.args.bytes.now c.read_u16_into.new.dst c.args.at long c.read_u16_into.ensures
