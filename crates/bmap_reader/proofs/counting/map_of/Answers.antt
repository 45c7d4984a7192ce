use Rattle.std.proofs.Common.{length, sym}
use Rattle.bmap_reader.proofs.Maps.{map_keeps, told_holds}
use Rattle.bmap_reader.proofs.counting.map_of.Goals as goal

pub returns-clause-holds : goal.returns-clause-holds
returns-clause-holds c =
    let told = told_holds (length c.args.text.now) c.args.stood c.in-Some.told c.requires (sym c.in-Some.ensures) in
    map_keeps (length c.args.text.now) c.args.text.now c.args.stood c.in-Some.told c.map_told.result c.requires told
    c.map_told.ensures
