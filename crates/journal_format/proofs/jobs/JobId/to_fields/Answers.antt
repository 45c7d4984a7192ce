use Rattle.std.proofs.Common.{◌≡◌, ◌∙◌, refl, length, arith}
use Rattle.journal_format.proofs.FieldBytes.{fields_joined, front_more, front_none, front_whole}
use Rattle.journal_format.proofs.jobs.JobId.to_fields.Goals as goal

pub returns : goal.returns
returns c =
    let id = c.args.self.now in
    let digest : length id.digest ≡ 32 = omega arith in
    let none = front_none _ refl in
    let one = front_more 0 32 _ _ _ _ none c.put_bytes.ensures digest (omega arith) in
    let two = front_more 32 8 _ _ _ _ one c.put_u64.ensures refl (omega arith) in
    let three = front_more 40 4 _ _ _ _ two c.put_u32.ensures refl (omega arith) in
    let four = front_more 44 4 _ _ _ _ three c.put_u32-2.ensures refl (omega arith) in
    let five = front_more 48 8 _ _ _ _ four c.put_u64-2.ensures refl (omega arith) in
    let six = front_more 56 8 _ _ _ _ five c.put_u64-3.ensures refl (omega arith) in
    front_whole _ _ six ∙ fields_joined id
