use Rattle.std.proofs.Common.{◌≡◌, ◌∙◌, length, rules}
use Rattle.bmap_writer.proofs.Joined.{held, sum_put}
use Rattle.bmap_writer.proofs.writing.write_bmap.Goals as goal

pub returns : goal.returns
returns c = record {
  written =
      let size : length c.put_sum.new.text ≡ c.put_tail.new.text.len = search rules in
      let kept = c.from_vec.ensures ∙ held c.put_tail.new.text.items c.put_sum.new.text c.put_tail.new.text.len size in
      sum_put c.args.map.now c.put_head.new.text.items c.put_tail.new.text.items c.from_vec.result
      c.len-at.result (search rules) (search rules)
      (search rules) (search rules) (kept ∙ (rw c.deref_mut.ensures.value at c.put_sum.ensures.sum));
}
