-- What holds of the map of a text.
use Rattle.std.proofs.Common.{◌≡◌, ℕ, ◌+◌, ◌-◌, ◌*◌, ◌^◌, ◌<◌, ◌≤◌, Bool, true, false, nat_eq, nat_le, Option, Some, None, IfOk, IfSome, if◌then◌else◌}
use Rattle.std.proofs.Common.{Result, Ok, Err, List, length, get_or, slice_get, arith, ap, refl, subst, sym, ◌∙◌}
use Rattle.std.specs.Int.{div_ceil}
use Rattle.std.proofs.lemmas.Bool.{eqb-true, leb-true}
use Rattle.std.proofs.lemmas.Option.{slice_get-get_or}
use Rattle.base_fields.proofs.Binds.{bind_ok, when_ok}
use Rattle.base_fields.specs.Numbers.{IsPowerBetween}
use Rattle.block_map.proofs.Growing.{make}
use Rattle.block_map.proofs.Pieces.{begins_within}
use Rattle.block_map.specs.Maps.{IsMap, blocks_in}
use Rattle.block_map.specs.declared.maps.BlockMap.{BlockMap}
use Rattle.block_map.specs.declared.maps.Range.{Range}
use Rattle.bmap_grammar.specs.Document.{counted, enough_blocks, map_of, map_told, same_count, same_sum, sum_of}
use Rattle.bmap_grammar.specs.Stood.{block_behind, is_behind, next_of, said_by, told_of}
use Rattle.bmap_grammar.specs.Text.{◌>>=◌}
use Rattle.bmap_grammar.specs.declared.faults.MapFault.{MapFault}
use Rattle.bmap_grammar.specs.declared.faults.MapFault.TheVariants.{BadMap}
use Rattle.bmap_grammar.specs.declared.stood.Stood.{Stood}
use Rattle.bmap_grammar.specs.declared.stood.Sum.{Sum}
use Rattle.bmap_grammar.specs.declared.stood.Told.{Told}
use Rattle.bmap_reader.specs.Holds.{IsStood, IsTold}

bind_some : {A B : Type 0} (o : Option A) (f : A → Option B) (y : B) → (o >>= f) ≡ Some y →
    (x : A) × (o ≡ Some x) × (f x ≡ Some y)
bind_some None f y e = absurd (cc)
bind_some (Some x) f y e = (x, refl, e)

same_some : (x y : Told) → Some x ≡ Some y → x ≡ y
same_some x y e = cc

if_some : {A : Type 0} (test : Bool) (o : Option A) (y : A) → (if test then o else None) ≡ Some y → o ≡ Some y
if_some true o y e = e
if_some false o y e = absurd (cc)

-- the values of what has all
pub record Values (s : Stood) (t : Told) : Type 0 where
  pub size : s.size ≡ Some t.size
  pub block : s.block ≡ Some t.block
  pub sum : s.sum ≡ Some t.sum

told_values : (s : Stood) (t : Told) → told_of s ≡ Some t → Values s t
told_values s t e =
    let size = bind_some s.size _ t e in
    let block = bind_some s.block _ t size.2 in
    let blocks = bind_some s.blocks _ t block.2 in
    let mapped = bind_some s.mapped _ t blocks.2 in
    let sum = bind_some s.sum _ t mapped.2 in
    let same = same_some (record { size = size.0; block = block.0; blocks = blocks.0; mapped = mapped.0; sum = sum.0 }) t sum.2 in
    record {
      size = size.1 ∙ ap (λ u. Some u.size) same;
      block = block.1 ∙ ap (λ u. Some u.block) same;
      sum = sum.1 ∙ ap (λ u. Some u.sum) same;
    }

pub said_values : (s : Stood) (t : Told) → said_by s ≡ Some t → Values s t
said_values s t e = told_values s t (if_some (is_behind s.stage) (told_of s) t e)

pub told_holds : (n : ℕ) (s : Stood) (t : Told) → IsStood n s → said_by s ≡ Some t → IsTold n t
told_holds n s t h e =
    let values = said_values s t e in
    record {
      size = subst (λ o. IfSome o (λ v. v ≤ 2 ^ 43)) values.size h.size;
      block = subst (λ o. IfSome o (IsPowerBetween 512 65536)) values.block h.block;
      sum = subst (λ o. IfSome o (λ v. v.at + 64 ≤ n)) values.sum h.sum;
    }

-- where the counts are right, the last range ends within the image
ends_within : (t : Told) (ranges : List Range) (u : Unit {0}) → 0 < t.block → counted t ranges ≡ Ok u → (d : Range) →
    0 < length ranges → (get_or ranges (length ranges - 1) d).last * t.block < t.size
ends_within t ranges u some right d there =
    let all = bind_ok (same_count t.blocks (div_ceil t.size t.block)) _ u right in
    let mapped = bind_ok (same_count t.mapped (blocks_in ranges)) _ u all.2 in
    let count : t.blocks ≡ div_ceil t.size t.block =
    eqb-true t.blocks (div_ceil t.size t.block) (when_ok (nat_eq t.blocks (div_ceil t.size t.block)) _ _ _ all.1).0 in
    let enough : next_of ranges ≤ t.blocks =
    leb-true (next_of ranges) t.blocks (when_ok (nat_le (next_of ranges) t.blocks) _ _ _ mapped.2).0 in
    let last : slice_get ranges (length ranges - 1) ≡ Some (get_or ranges (length ranges - 1) d) =
    slice_get-get_or ranges (length ranges - 1) d (omega arith) in
    let next : next_of ranges ≡ (get_or ranges (length ranges - 1) d).last + 1 = ap block_behind last in
    begins_within t.block t.size (get_or ranges (length ranges - 1) d).last some (omega arith)

pub map_holds : (n : ℕ) (text : List ℕ) (s : Stood) (t : Told) (m : BlockMap) → IsStood n s → IsTold n t →
    map_told text s.ranges t ≡ Ok m → IsMap m
map_holds n text s t m h told e =
    let right = bind_ok (counted t s.ranges) _ m e in
    let summed = bind_ok (same_sum t.sum.digest (sum_of text t.sum.at)) _ m right.2 in
    let same = when_ok true (record { size = t.size; block = t.block; ranges = s.ranges }) m (BadMap 0) summed.2 in
    let some : 0 < t.block = omega (arith, told.block.not_below) in
    subst IsMap same.1
    (make (record { size = t.size; block = t.block; ranges = s.ranges }) h.ranges told.size told.block h.few
    (λ d there. ends_within t s.ranges right.0 some right.1 d there))

-- an answer that is a map's
pub map_keeps : (n : ℕ) (text : List ℕ) (s : Stood) (t : Told) (r : Result BlockMap MapFault) → IsStood n s →
    IsTold n t → r ≡ map_told text s.ranges t → IfOk r (λ m. IsMap m)
map_keeps n text s t (Ok m) h told is = map_holds n text s t m h told (sym is)
map_keeps n text s t (Err fault) h told is = tt
