use Rattle.bmap_writer.specs.Written.{number_lines}
use Rattle.bmap_writer.proofs.Joined.{four_put, lines_put}
use Rattle.bmap_writer.proofs.parts.put_numbers.Goals as goal

pub returns : goal.returns
returns c =
    let put = four_put c.args.text.now.items c.put_number.new.text.items c.put_number-2.new.text.items
    c.put_number-3.new.text.items
    c.put_mapped.new.text.items _ _ _ _ c.in_ok-put_number.ensures (rw c.from.ensures at c.in_ok-put_number-2.ensures)
    (rw c.block_count.ensures at c.in_ok-put_number-3.ensures) c.in_ok-put_mapped.ensures in
    lines_put c.args.text.now.items c.put_mapped.new.text.items (number_lines c.args.map.now) put
