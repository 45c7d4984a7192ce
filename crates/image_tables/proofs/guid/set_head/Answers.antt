use Rattle.std.proofs.Common.{◌≡◌, ℕ, ◌<◌, length, rules}
use Rattle.std.specs.List.{slice_index}
use Rattle.image_tables.proofs.Headers.{head_set}
use Rattle.image_tables.proofs.guid.set_head.Goals as goal

pub returns-clause-bytes : goal.returns-clause-bytes
returns-clause-bytes c o inside =
    let all : (i : ℕ) → i < length c.fill.new.self → slice_index c.fill.new.self i ≡ 0 = search rules in
    let within : o < length c.fill.new.self = rw c.fill.ensures.len inside in
    rw c.put_bytes.ensures (head_set c.fill.new.self c.args.head.now o all within)
