use Rattle.std.proofs.Common.{◌≡◌, ◌*◌, ◌<◌, ◌≤◌, List, get_or, length, ap, arith}
use Rattle.std.proofs.Math.Nat.{le-mul_of_pos_right}
use Rattle.block_map.specs.declared.maps.Range.{Range}
use Rattle.block_map.proofs.maps.BlockMap.mapped_count.Goals as goal

pub blocks_in-requires-clause-fits : goal.blocks_in-requires-clause-fits
blocks_in-requires-clause-fits c k d below =
    let many : length c.as_slice.result.now ≡ length c.args.self.now.ranges = ap (λ (l : List Range). length l) c.as_slice.ensures in
    let is : get_or c.as_slice.result.now k d ≡ get_or c.args.self.now.ranges k d = ap (λ (l : List Range). get_or l k d) c.as_slice.ensures in
    let last : (get_or c.as_slice.result.now k d).last ≡ (get_or c.args.self.now.ranges k d).last = ap (λ (r : Range). r.last) is in
    let small : (get_or c.args.self.now.ranges k d).last * c.args.self.now.block < c.args.self.now.size = c.requires.below k d (omega arith) in
    let more : (get_or c.args.self.now.ranges k d).last ≤ (get_or c.args.self.now.ranges k d).last * c.args.self.now.block = le-mul_of_pos_right (get_or c.args.self.now.ranges k d).last (omega (arith, c.requires.block.not_below)) in
    omega (arith, c.requires.size)
