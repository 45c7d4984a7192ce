use Rattle.std.proofs.Common.{◌≡◌, ◌+◌, length}
use Rattle.bmap_grammar.specs.Document.{stood_from}
use Rattle.bmap_grammar.specs.Stood.{nothing}
use Rattle.bmap_reader.specs.Holds.{IsStood}
use Rattle.bmap_reader.proofs.Pieces.{Continues}
use Rattle.bmap_reader.proofs.items.read_items.Given as goal

-- what is left says what the whole text does
abbrev pub invariant-loop-rest : goal.invariant-loop-rest
invariant-loop-rest l = record {
  same : stood_from 0 nothing 0 l.text ≡ stood_from l.at l.stood 0 l.rest;
  on : Continues l.text l.at l.stood l.rest;
  len : l.at + length l.rest ≡ length l.text;
  holds : IsStood (length l.text) l.stood;
}

abbrev pub decreases-loop-rest : goal.decreases-loop-rest
decreases-loop-rest l = length l.rest
