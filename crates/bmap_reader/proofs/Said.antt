-- What a whole text says.
use Rattle.std.proofs.Common.{◌≡◌, ℕ, Result, Ok, Err, IfOk, List, ap, sym, ◌∙◌}
use Rattle.base_fields.specs.Results.{◌>>=◌}
use Rattle.block_map.specs.declared.maps.BlockMap.{BlockMap}
use Rattle.bmap_grammar.specs.Document.{Answers, BmapText, Refuses, map_of, said, stood_from}
use Rattle.bmap_grammar.specs.Stood.{nothing}
use Rattle.bmap_grammar.specs.declared.faults.MapFault.{MapFault}
use Rattle.bmap_grammar.specs.declared.stood.Stood.{Stood}
use Rattle.bmap_reader.specs.Holds.{HasItems}
use Rattle.bmap_reader.proofs.Pieces.{said_by_items}
use Rattle.bmap_reader.proofs.Refusals.{answers_along, answers_same, refuses_bind}

-- a document's map is what its text says
pub bmap_said : (text : List ℕ) (m : BlockMap) → BmapText text m → said text ≡ Ok m
bmap_said text m b = ap (λ r. r >>= map_of text) (said_by_items text b.0 b.1) ∙ b.2

-- where all items stand, the answer is that of the counts and the sum
pub all_said : (text : List ℕ) (s : Stood) (r : Result BlockMap MapFault) → stood_from 0 nothing 0 text ≡ Ok s →
    r ≡ map_of text s → Answers (said text) r
all_said text s r from is = answers_same (said text) r (ap (λ x. x >>= map_of text) from ∙ sym is)

pub none_said : (text : List ℕ) (fault : MapFault) → Refuses (stood_from 0 nothing 0 text) fault →
    Refuses (said text) fault
none_said text fault h = refuses_bind (stood_from 0 nothing 0 text) (map_of text) fault h

pub map_found : (text : List ℕ) (s : Stood) (r : Result BlockMap MapFault) → HasItems text s → r ≡ map_of text s →
    IfOk r (BmapText text)
map_found text s (Ok m) items is = (items.0, items.1, ap (λ x. x >>= map_of text) items.2 ∙ sym is)
map_found text s (Err fault) items is = tt

pub only_map : (text : List ℕ) (r : Result BlockMap MapFault) → Answers (said text) r → (m : BlockMap) →
    BmapText text m → Answers (Ok m) r
only_map text r h m b = answers_along (Ok m) (said text) r (sym (bmap_said text m b)) h
