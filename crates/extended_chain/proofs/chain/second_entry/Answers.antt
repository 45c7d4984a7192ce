use Rattle.std.proofs.Common.{◌≡◌, arith}
use Rattle.extended_chain.specs.Chain.{logical_of, no_logical}
use Rattle.extended_chain.proofs.Heads.{heads_rise}
use Rattle.extended_chain.proofs.chain.second_entry.Goals as goal

pub link_entry-requires-clause-start : goal.link_entry-requires-clause-start
link_entry-requires-clause-start c =
    let found : c.in-Some.next.now ≡ logical_of c.args.specs.now _ = c.in-Some.ensures.lookup.3.1 no_logical in
    rw found (heads_rise c.args.specs.now _ _ c.requires.ascends (omega arith) c.in-Some.ensures.lookup.3.0)
