-- The map that a text says is a map, and the job of a copy is one of its map.
use Rattle.std.proofs.Common.{◌≡◌, ℕ, zero, suc, ◌+◌, ◌-◌, ◌≤◌, List, [], ◌∷◌, Option, None, Some, Result, Ok, arith, sym, subst, refl}
use Rattle.std.specs.Prelude.{IfSome}
use Rattle.base_fields.proofs.Binds.{bind_ok, or_else_ok, refused_ok}
use Rattle.base_fields.specs.Numbers.{IsPowerBetween}
use Rattle.base_fields.specs.Results.{or_else, refused_by}
use Rattle.block_map.specs.Maps.{IsMap}
use Rattle.block_map.specs.declared.maps.BlockMap.{BlockMap}
use Rattle.bmap_grammar.specs.Document.{map_of, map_told, one_then, said, stood_from}
use Rattle.bmap_grammar.specs.Items.{piece_of}
use Rattle.bmap_grammar.specs.Stood.{nothing, said_by, stands}
use Rattle.bmap_grammar.specs.declared.faults.MapFault.{MapFault}
use Rattle.bmap_grammar.specs.declared.faults.MapFault.TheVariants.{BadMap}
use Rattle.bmap_grammar.specs.declared.items.Item.{Item}
use Rattle.bmap_grammar.specs.declared.items.Item.TheVariants as item
use Rattle.bmap_grammar.specs.declared.items.Piece.{Piece}
use Rattle.bmap_grammar.specs.declared.stood.Stood.{Stood}
use Rattle.bmap_grammar.specs.declared.stood.Sum.{Sum}
use Rattle.bmap_lexer.specs.Within.{HasRoom}
use Rattle.bmap_reader.proofs.Holding.{begun_holds, stands_hold}
use Rattle.bmap_reader.proofs.Maps.{map_holds, told_holds}
use Rattle.bmap_reader.specs.Holds.{IsStood}
use Rattle.copier_course.specs.declared.jobs.CopyJob.{CopyJob}
use Rattle.copy_chains.proofs.CopyLemmas.{says_job}
use Rattle.copy_chains.specs.Copies.{IsSaid}
use Rattle.copy_job.specs.Said.{id_of}
use Rattle.copy_job.specs.declared.requests.CopyRequest.{CopyRequest}
use Rattle.copy_states.specs.Jobs.{IsJobOf}
use Rattle.map_source.specs.Faults.{fault_of}
use Rattle.map_source.specs.Said.{source_in, text_said}
use Rattle.map_source.specs.declared.sources.MapSource.{MapSource}
use Rattle.command_laws.specs.Laws.{SaidJobsAreJobs, SaidMapsAreMaps}

-- ---- what has stood in a text holds, with the digits of its sum below some place
abbrev pub HoldsBelowSome : Stood → Type 0
HoldsBelowSome s = (n : ℕ) × IsStood n s

-- how many bytes an item has at least
abbrev pub least_of : Item → ℕ
least_of item.Blank = 0
least_of item.Declaration = 0
least_of item.Start = 0
least_of item.OtherStart = 0
least_of (item.Number f value) = 0
least_of item.ChecksumType = 0
least_of item.OtherType = 0
least_of (item.Checksum place digest) = place + 64
least_of item.MapStart = 0
least_of (item.Range r) = 0
least_of item.MapEnd = 0
least_of item.End = 0

has_room : (i : Item) → HasRoom (least_of i) i
has_room item.Blank = tt
has_room item.Declaration = tt
has_room item.Start = tt
has_room item.OtherStart = tt
has_room (item.Number f value) = tt
has_room item.ChecksumType = tt
has_room item.OtherType = tt
has_room (item.Checksum place digest) = omega arith
has_room item.MapStart = tt
has_room (item.Range r) = tt
has_room item.MapEnd = tt
has_room item.End = tt

wider_sum : (n more : ℕ) (o : Option Sum) → IfSome o (λ m. m.at + 64 ≤ n) → IfSome o (λ m. m.at + 64 ≤ n + more)
wider_sum n more None h = tt
wider_sum n more (Some m) h = omega (arith, h)

wider : (n more : ℕ) (s : Stood) → IsStood n s → IsStood (n + more) s
wider n more s h = record {
  ranges = h.ranges;
  below = h.below;
  few = h.few;
  size = h.size;
  block = h.block;
  sum = wider_sum n more s.sum h.sum;
}

one_holds : (at : ℕ) (s after : Stood) (o : Option Piece) (rest : Stood → ℕ → Result Stood MapFault) → HoldsBelowSome s →
    ((mid : Stood) (left : ℕ) → HoldsBelowSome mid → rest mid left ≡ Ok after → HoldsBelowSome after) →
    one_then at s o rest ≡ Ok after → HoldsBelowSome after
one_holds at s after None rest h go e = absurd (cc)
one_holds at s after (Some p) rest h go e =
    let found : (mid : Stood) × (stands at s p.item ≡ Ok mid) × (rest mid (p.len - 1) ≡ Ok after) =
    bind_ok (stands at s p.item) (λ (mid : Stood). rest mid (p.len - 1)) after e in
    let n = h.0 + (at + least_of p.item) in
    go found.0 (p.len - 1) (
      n,
      stands_hold n at (least_of p.item) s found.0 p.item (has_room p.item) (omega arith)
          (wider h.0 (at + least_of p.item) s h.1) found.1,
    ) found.2

text_holds : (text : List ℕ) (at skip : ℕ) (s after : Stood) → HoldsBelowSome s → stood_from at s skip text ≡ Ok after →
    HoldsBelowSome after
text_holds [] at skip s after h e = let same : s ≡ after = cc in subst HoldsBelowSome same h
text_holds (b ∷ rest) at (suc skip) s after h e = text_holds rest (at + 1) skip s after h e
text_holds (b ∷ rest) at zero s after h e =
    one_holds at s after (piece_of (b ∷ rest)) (λ mid left. stood_from (at + 1) mid left rest) h
    (λ mid left holds there. text_holds rest (at + 1) left mid after holds there) e

-- ---- its map
text_map : (text : List ℕ) (m : BlockMap) → said text ≡ Ok m → IsMap m
text_map text m e =
    let stood = bind_ok (stood_from 0 nothing 0 text) (map_of text) m e in
    let told = bind_ok (or_else (said_by stood.0) (BadMap _)) (map_told text stood.0.ranges) m stood.2 in
    let by : said_by stood.0 ≡ Some told.0 = or_else_ok (said_by stood.0) told.0 _ told.1 in
    let holds : HoldsBelowSome stood.0 = text_holds text 0 0 nothing stood.0 (0, begun_holds 0 nothing refl) stood.1 in
    map_holds holds.0 text stood.0 told.0 m holds.1 (told_holds holds.0 stood.0 told.0 holds.1 by) told.2

pub said_map : SaidMapsAreMaps
said_map file source e =
    let text = bind_ok (text_said file) source_in source e in
    let map : (m : BlockMap) × (refused_by fault_of (said text.0) ≡ Ok m) × (Ok (record { map = m; digest = _ }) ≡ Ok source) =
    bind_ok (refused_by fault_of (said text.0)) _ source text.2 in
    let same : map.0 ≡ source.map = cc in
    subst (λ (m : BlockMap). IsMap m) same (text_map text.0 map.0 (refused_ok fault_of (said text.0) map.0 map.1))

-- ---- the job
is_job : (request : CopyRequest) (source : MapSource) → IsMap source.map → IsPowerBetween 65536 4194304 request.unit →
    IsJobOf (id_of source request.unit) source.map
is_job request source map power = record { map = map; unit = power; size = refl; block = refl; units = refl; ranges = refl }

pub said_job : SaidJobsAreJobs
said_job file request job power said =
    let says : IsSaid file request job = says_job file request job said in
    subst (λ (j : CopyJob). IsJobOf j.id j.map) (sym says.is)
    (is_job request says.source (said_map (file request.map) says.source says.map) power)
