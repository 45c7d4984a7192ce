-- What holds of what has stood goes on holding.
use Rattle.std.proofs.Common.{◌≡◌, ℕ, ◌+◌, ◌-◌, ◌^◌, ◌<◌, ◌≤◌, Bool, true, false, ◌&&◌, not, nat_le, nat_lt, Option, Some, None}
use Rattle.std.proofs.Common.{is_some, Ok, List, [], ◌∷◌, ◌++◌, length, get_or, slice_get, arith, ap, subst, sym, length-append}
use Rattle.std.proofs.lemmas.Bool.{leb-true, ltb-true}
use Rattle.std.proofs.lemmas.List.Elements.{All-append, All-nil}
use Rattle.std.proofs.lemmas.Option.{slice_get-get_or}
use Rattle.base_fields.proofs.Between.{both, power_between_gives}
use Rattle.base_fields.proofs.Binds.{when_ok}
use Rattle.base_fields.specs.Numbers.{is_power_between}
use Rattle.base_fields.specs.Results.{when}
use Rattle.block_map.proofs.Growing.{one, ranges_grow}
use Rattle.block_map.specs.Maps.{Follows, max_ranges}
use Rattle.block_map.specs.declared.maps.Range.{Range}
use Rattle.bmap_grammar.specs.Stood.{blank_behind, block_behind, is_first, is_front, is_inside, is_map, may_block, may_end}
use Rattle.bmap_grammar.specs.Stood.{may_follow, may_size, may_type, next_of, nothing, number_stands, stands}
use Rattle.bmap_grammar.specs.declared.faults.MapFault.TheVariants.{BadMap}
use Rattle.bmap_grammar.specs.declared.items.Field.{Field}
use Rattle.bmap_grammar.specs.declared.items.Field.TheVariants as field
use Rattle.bmap_grammar.specs.declared.items.Item.{Item}
use Rattle.bmap_grammar.specs.declared.items.Item.TheVariants as item
use Rattle.bmap_grammar.specs.declared.stood.Stage.{Stage}
use Rattle.bmap_grammar.specs.declared.stood.Stage.TheVariants.{Nothing, Front, Inside, Map, Behind}
use Rattle.bmap_grammar.specs.declared.stood.Stood.{Stood}
use Rattle.bmap_lexer.specs.Within.{HasRoom}
use Rattle.bmap_reader.specs.Holds.{IsStood}

-- what holds of the ranges and values that have a limit holds whatever else has stood
plain : (n : ℕ) (s : Stood) (stage : Stage) (typed begun : Bool) (blocks mapped : Option ℕ) → IsStood n s →
    IsStood n (record s { stage = stage; typed = typed; begun = begun; blocks = blocks; mapped = mapped })
plain n s stage typed begun blocks mapped h =
    record { ranges = h.ranges; below = h.below; few = h.few; size = h.size; block = h.block; sum = h.sum }

-- a range that may follow
follows : (rs : List Range) (r : Range) → next_of rs ≤ r.first → Follows rs r
follows rs r least d some =
    let there : slice_get rs (length rs - 1) ≡ Some (get_or rs (length rs - 1) d) = slice_get-get_or rs (length rs - 1) d (omega arith) in
    let is : next_of rs ≡ (get_or rs (length rs - 1) d).last + 1 = ap block_behind there in
    omega arith

with_range : (n : ℕ) (s : Stood) (r : Range) → may_follow s.ranges r ≡ true → IsStood n s →
    IsStood n (record s { ranges = s.ranges ++ r ∷ [] })
with_range n s r test h =
    let t1 = both (nat_le (next_of s.ranges) r.first) _ test in
    let t2 = both (nat_le r.first r.last) _ t1.1 in
    let t3 = both (nat_lt r.last (2 ^ 64 - 1)) (nat_lt (length s.ranges) max_ranges) t2.1 in
    let least : next_of s.ranges ≤ r.first = leb-true (next_of s.ranges) r.first t1.0 in
    let order : r.first ≤ r.last = leb-true r.first r.last t2.0 in
    let small : r.last < 2 ^ 64 - 1 = ltb-true r.last (2 ^ 64 - 1) t3.0 in
    let room : length s.ranges < max_ranges = ltb-true (length s.ranges) max_ranges t3.1 in
    record {
      ranges = ranges_grow s.ranges r h.ranges order (follows s.ranges r least);
      below = All-append (λ (q : Range). q.last < 2 ^ 64 - 1) s.ranges (r ∷ []) h.below (one (λ (q : Range). q.last < 2 ^ 64 - 1) r small);
      few = omega (arith, length-append s.ranges (r ∷ []));
      size = h.size;
      block = h.block;
      sum = h.sum;
    }

with_size : (n : ℕ) (s : Stood) (value : ℕ) → may_size s value ≡ true → IsStood n s →
    IsStood n (record s { size = Some value })
with_size n s value test h =
    let t1 = both (is_inside s.stage) _ test in
    let t2 = both (not (is_some s.size)) (nat_le value (2 ^ 43)) t1.1 in
    let small : value ≤ 2 ^ 43 = leb-true value (2 ^ 43) t2.1 in
    record { ranges = h.ranges; below = h.below; few = h.few; size = small; block = h.block; sum = h.sum }

with_block : (n : ℕ) (s : Stood) (value : ℕ) → may_block s value ≡ true → IsStood n s →
    IsStood n (record s { block = Some value })
with_block n s value test h =
    let t1 = both (is_inside s.stage) _ test in
    let t2 = both (not (is_some s.block)) (is_power_between 512 65536 value) t1.1 in
    record {
      ranges = h.ranges;
      below = h.below;
      few = h.few;
      size = h.size;
      block = power_between_gives 512 65536 value t2.1;
      sum = h.sum;
    }

with_sum : (n at place len : ℕ) (digest : List ℕ) (s : Stood) → place + 64 ≤ len → at + len ≤ n → IsStood n s →
    IsStood n (record s { sum = Some (record { at = at + place; digest = digest }) })
with_sum n at place len digest s room lies h =
    let inside : at + place + 64 ≤ n = omega arith in
    record { ranges = h.ranges; below = h.below; few = h.few; size = h.size; block = h.block; sum = inside }

-- what may stand where it is right
then_holds : (n at : ℕ) (test : Bool) (x after : Stood) → (test ≡ true → IsStood n x) →
    when test x (BadMap at) ≡ Ok after → IsStood n after
then_holds n at test x after h e =
    let passed = when_ok test x after (BadMap at) e in
    subst (IsStood n) passed.1 (h passed.0)

number_holds : (n at : ℕ) (s after : Stood) (f : Field) (value : ℕ) → IsStood n s →
    number_stands at s f value ≡ Ok after → IsStood n after
number_holds n at s after field.ImageSize value h e = then_holds n at (may_size s value) _ after (λ t. with_size n s value t h) e
number_holds n at s after field.BlockSize value h e = then_holds n at (may_block s value) _ after (λ t. with_block n s value t h) e
number_holds n at s after field.BlocksCount value h e =
    then_holds n at (is_inside s.stage && not (is_some s.blocks)) _ after
    (λ t. plain n s s.stage s.typed s.begun (Some value) s.mapped h) e
number_holds n at s after field.MappedBlocksCount value h e =
    then_holds n at (is_inside s.stage && not (is_some s.mapped)) _ after
    (λ t. plain n s s.stage s.typed s.begun s.blocks (Some value) h) e

staged : (n : ℕ) (s : Stood) (stage : Stage) → IsStood n s → IsStood n (record s { stage = stage })
staged n s stage h = plain n s stage s.typed s.begun s.blocks s.mapped h

-- behind each item that stands
pub stands_hold : (n at len : ℕ) (s after : Stood) (i : Item) → HasRoom len i → at + len ≤ n → IsStood n s →
    stands at s i ≡ Ok after → IsStood n after
stands_hold n at len s after item.Blank room lies h e =
    then_holds n at true (record s { stage = blank_behind s.stage }) after (λ t. staged n s (blank_behind s.stage) h) e
stands_hold n at len s after item.Declaration room lies h e =
    then_holds n at (is_first s.stage) _ after (λ t. staged n s Front h) e
stands_hold n at len s after item.Start room lies h e =
    then_holds n at (is_front s.stage) _ after (λ t. staged n s Inside h) e
stands_hold n at len s after item.OtherStart room lies h e = absurd (cc)
stands_hold n at len s after (item.Number f value) room lies h e = number_holds n at s after f value h e
stands_hold n at len s after item.ChecksumType room lies h e =
    then_holds n at (may_type s) _ after (λ t. plain n s s.stage true s.begun s.blocks s.mapped h) e
stands_hold n at len s after item.OtherType room lies h e = absurd (cc)
stands_hold n at len s after (item.Checksum place digest) room lies h e =
    then_holds n at (is_inside s.stage && not (is_some s.sum)) _ after
    (λ t. with_sum n at place len digest s room lies h) e
stands_hold n at len s after item.MapStart room lies h e =
    then_holds n at (is_inside s.stage && not s.begun) _ after (λ t. plain n s Map s.typed true s.blocks s.mapped h) e
stands_hold n at len s after (item.Range r) room lies h e =
    then_holds n at (is_map s.stage && may_follow s.ranges r) _ after
    (λ t. with_range n s r (both (is_map s.stage) (may_follow s.ranges r) t).1 h) e
stands_hold n at len s after item.MapEnd room lies h e =
    then_holds n at (is_map s.stage) _ after (λ t. staged n s Inside h) e
stands_hold n at len s after item.End room lies h e =
    then_holds n at (may_end s) _ after (λ t. staged n s Behind h) e

-- before the first item
nothing_holds : (n : ℕ) → IsStood n nothing
nothing_holds n = record {
  ranges = record { filled = All-nil _; ascend = λ i j d before below. absurd (omega arith) };
  below = All-nil _;
  few = omega arith;
  size = tt;
  block = tt;
  sum = tt;
}

pub begun_holds : (n : ℕ) (s : Stood) → s ≡ nothing → IsStood n s
begun_holds n s e = subst (IsStood n) (sym e) (nothing_holds n)
