use Rattle.placement.proofs.Listing.{EntriesBy}
use Rattle.placement.proofs.entries.logical_specs.Given as goal
use Rattle.std.specs.Prelude.{unwrap_or}
use Rattle.table_entries.specs.Entries.{logical_spec_of}

abbrev pub invariant-loop-k : goal.invariant-loop-k
invariant-loop-k l = EntriesBy (λ s. s.terms.logical) (λ part s. logical_spec_of part (unwrap_or s.place.head 0) s.place.at s.place.size) l.parts l.claims l.k l.specs
