use Rattle.std.proofs.Common.{refl}
use Rattle.base_fields.proofs.Writes.{front_write}
use Rattle.base_fields.proofs.fields.put_u32.Goals as goal

pub returns : goal.returns
returns c = rw c.write_u32.ensures (front_write c.args.at 4 c.args.room.now _ refl)
