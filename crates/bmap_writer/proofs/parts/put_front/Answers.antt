use Rattle.std.proofs.Common.{codes, [], ◌∷◌}
use Rattle.bmap_writer.specs.Written.{element, ended, number_lines, text_of}
use Rattle.bmap_writer.proofs.Joined.{four_put, frame_put}
use Rattle.bmap_writer.proofs.parts.put_front.Goals as goal

pub returns : goal.returns
returns c =
    let put = four_put c.args.text.now.items c.put_line.new.text.items c.put_line-2.new.text.items
    c.put_numbers.new.text.items
    c.put_element.new.text.items (ended (codes "<?xml version=\"1.0\" ?>")) (ended (codes "<bmap version=\"2.0\">"))
    (text_of (number_lines c.args.map.now)) (ended (element (codes "ChecksumType") (codes "sha256")))
    c.in_ok-put_line.ensures
    c.in_ok-put_line-2.ensures c.in_ok-put_numbers.ensures c.in_ok-put_element.ensures in
    frame_put c.args.text.now.items c.put_element.new.text.items
    (codes "<?xml version=\"1.0\" ?>" ∷ codes "<bmap version=\"2.0\">" ∷ [])
    (number_lines c.args.map.now) (element (codes "ChecksumType") (codes "sha256") ∷ []) put
