use Rattle.std.proofs.Common.{◌≡◌, ◌≤◌, ◌++◌, [], take, drop}
use Rattle.placement_rules.specs.Counts.{AreCounts}
use Rattle.placement_rules.specs.Terms.{terms_from}
use Rattle.placement_rules.proofs.listing.all_terms.Given as goal

abbrev pub invariant-loop-k : goal.invariant-loop-k
invariant-loop-k l = record {
  terms : l.terms ++ terms_from l.spec l.table (take l.k l.parts) (drop l.k l.parts) (drop l.k l.lens) ≡ terms_from l.spec l.table [] l.parts l.lens;
  counts : AreCounts l.table (take l.k l.parts) l.before;
  tabled : l.before.tabled ≤ l.k;
  typed : l.before.typed ≤ l.k;
}
