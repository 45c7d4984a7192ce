use Rattle.placement.proofs.Listing.{EntriesBy}
use Rattle.placement.proofs.entries.guid_entries.Given as goal
use Rattle.table_entries.specs.Entries.{gpt_entry_of}

abbrev pub invariant-loop-k : goal.invariant-loop-k
invariant-loop-k l = EntriesBy (λ s. s.terms.tabled) (λ part s. gpt_entry_of l.image part s.place.at s.place.size l.sector) l.parts l.claims l.k l.entries
