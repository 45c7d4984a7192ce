use Rattle.std.proofs.Common.{◌∙◌, ◌++◌, ap, codes}
use Rattle.bmap_writer.specs.Written.{attribute, ended, range_blocks}
use Rattle.bmap_writer.proofs.Joined.{four_put, parts_put}
use Rattle.bmap_writer.proofs.parts.put_range.Goals as goal

pub returns : goal.returns
returns c =
    let put = four_put c.args.text.now.items c.extend_from_slice.new.self.items c.put_attribute.new.text.items
    c.extend_from_slice-2.new.self.items c.put_blocks.new.text.items
    (codes "        <Range") (attribute c.args.range.now.digest)
    (codes "> ") (range_blocks c.args.range.now) c.in_ok-extend_from_slice.ensures.items c.in_ok-put_attribute.ensures
    c.in_ok-extend_from_slice-2.ensures.items c.in_ok-put_blocks.ensures in
    parts_put c.args.text.now.items c.put_line.new.text.items
    (codes "        <Range") (attribute c.args.range.now.digest) (codes "> ")
    (range_blocks c.args.range.now) (codes " </Range>")
    (c.in_ok-put_line.ensures ∙ ap (λ xs. xs ++ ended (codes " </Range>")) put)
