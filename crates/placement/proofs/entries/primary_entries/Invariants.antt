use Rattle.placement.proofs.Listing.{EntriesBy}
use Rattle.placement.proofs.entries.primary_entries.Given as goal
use Rattle.placement.specs.Layouts.{is_primary}
use Rattle.table_entries.specs.Entries.{mbr_entry_of}

abbrev pub invariant-loop-k : goal.invariant-loop-k
invariant-loop-k l = EntriesBy (is_primary) (λ part s. mbr_entry_of part s.place.at s.place.size) l.parts l.claims l.k l.entries
