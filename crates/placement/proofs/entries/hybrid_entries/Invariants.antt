use Rattle.placement.proofs.Listing.{EntriesBy}
use Rattle.placement.proofs.entries.hybrid_entries.Given as goal
use Rattle.table_entries.specs.Entries.{mbr_entry_of}

abbrev pub invariant-loop-k : goal.invariant-loop-k
invariant-loop-k l = EntriesBy (λ s. s.terms.narrow) (λ part s. mbr_entry_of part s.place.at s.place.size) l.parts l.claims l.k l.entries
