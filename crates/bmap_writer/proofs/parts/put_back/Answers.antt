use Rattle.std.proofs.Common.{codes, map, [], ◌∷◌}
use Rattle.bmap_writer.specs.Written.{ended, range_line, text_of}
use Rattle.bmap_writer.proofs.Joined.{four_put, frame_put}
use Rattle.bmap_writer.proofs.parts.put_back.Goals as goal

pub returns : goal.returns
returns c =
    let put = four_put c.args.text.now.items c.put_line.new.text.items c.put_ranges.new.text.items
    c.put_line-2.new.text.items
    c.put_line-3.new.text.items (ended (codes "    <BlockMap>")) (text_of (map range_line c.args.ranges.now))
    (ended (codes "    </BlockMap>")) (ended (codes "</bmap>")) c.in_ok-put_line.ensures c.in_ok-put_ranges.ensures
    c.in_ok-put_line-2.ensures c.in_ok-put_line-3.ensures in
    frame_put c.args.text.now.items c.put_line-3.new.text.items (codes "    <BlockMap>" ∷ [])
    (map range_line c.args.ranges.now)
    (codes "    </BlockMap>" ∷ codes "</bmap>" ∷ []) put
