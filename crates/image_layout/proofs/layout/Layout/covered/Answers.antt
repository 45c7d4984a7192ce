use Rattle.std.proofs.Common.{◌≡◌, ap, arith, length}
use Rattle.image_layout.proofs.Coverable.{IsCoverable, coverable}
use Rattle.image_layout.proofs.Gaining.{covers_layout}
use Rattle.image_layout.proofs.layout.Layout.covered.Goals as goal

pub add_whole-requires : goal.add_whole-requires
add_whole-requires c = (coverable c.args.self.now c.requires).size

pub add_guid-requires : goal.add_guid-requires
add_guid-requires c = (coverable c.args.self.now c.requires).guid

pub add_parts-requires : goal.add_parts-requires
add_parts-requires c = rw c.as_slice-2.ensures (coverable c.args.self.now c.requires).parts

pub returns-clause-few : goal.returns-clause-few
returns-clause-few c =
    let it : IsCoverable c.args.self.now = coverable c.args.self.now c.requires in
    let logical = rw c.as_slice.ensures at c.in_ok-add_chain.ensures.few in
    let parts = rw c.as_slice-2.ensures at c.in_ok-add_parts.ensures.few in
    let none : length c.new-cover.result ≡ 0 = ap length c.new-cover.ensures in
    omega (arith, it.logical, it.few)

pub returns-clause-covered : goal.returns-clause-covered
returns-clause-covered c =
    covers_layout c.args.self.now c.new-cover.result c.add_whole.new.cover c.add_record.new.cover c.add_chain.new.cover c.add_guid.new.cover c.add_parts.new.cover
    c.new-cover.ensures c.in_ok-add_whole.ensures.ok c.in_ok-add_record.ensures.ok
    (rw c.as_slice.ensures at c.in_ok-add_chain.ensures.ok) c.in_ok-add_guid.ensures.ok
    (rw c.as_slice-2.ensures at c.in_ok-add_parts.ensures.ok)
