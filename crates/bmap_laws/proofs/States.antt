-- What has stood behind each line that is written.
use Rattle.std.proofs.Common.{◌≡◌, ℕ, ◌+◌, ◌-◌, ◌^◌, ◌<◌, ◌≤◌, true, List, [], ◌∷◌, ◌++◌, length, Some, Ok, refl, le-leb, lt-ltb}
use Rattle.base_fields.proofs.Between.{power_between_passes}
use Rattle.base_fields.specs.Numbers.{IsPowerBetween, is_power_between}
use Rattle.block_map.specs.Maps.{block_count, blocks_in, max_ranges}
use Rattle.block_map.specs.declared.maps.BlockMap.{BlockMap}
use Rattle.block_map.specs.declared.maps.Range.{Range}
use Rattle.bmap_grammar.specs.Stood.{may_follow, next_of, nothing, stands}
use Rattle.bmap_grammar.specs.declared.items.Field.TheVariants as field
use Rattle.bmap_grammar.specs.declared.items.Item.TheVariants as item
use Rattle.bmap_grammar.specs.declared.stood.Stage.TheVariants.{Front, Inside, Map, Behind}
use Rattle.bmap_grammar.specs.declared.stood.Stood.{Stood}
use Rattle.bmap_laws.proofs.Reading.{spaced_out}

abbrev pub declared_only : Stood
declared_only = record nothing { stage = Front }

abbrev pub started : Stood
started = record nothing { stage = Inside }

abbrev pub with_size : BlockMap → Stood
with_size m = record started { size = Some m.size }

abbrev pub with_block : BlockMap → Stood
with_block m = record (with_size m) { block = Some m.block }

abbrev pub with_count : BlockMap → Stood
with_count m = record (with_block m) { blocks = Some (block_count m) }

abbrev pub with_mapped : BlockMap → Stood
with_mapped m = record (with_count m) { mapped = Some (blocks_in m.ranges) }

abbrev pub with_type : BlockMap → Stood
with_type m = record (with_mapped m) { typed = true }

abbrev pub with_sum : BlockMap → ℕ → List ℕ → Stood
with_sum m place digest = record (with_type m) { sum = Some (record { at = place; digest = digest }) }

abbrev pub in_map : BlockMap → ℕ → List ℕ → List Range → Stood
in_map m place digest ranges = record (with_sum m place digest) { stage = Map; begun = true; ranges = ranges }

abbrev pub behind_map : BlockMap → ℕ → List ℕ → Stood
behind_map m place digest = record (in_map m place digest m.ranges) { stage = Inside }

abbrev pub all_stood : BlockMap → ℕ → List ℕ → Stood
all_stood m place digest = record (in_map m place digest m.ranges) { stage = Behind }

-- ---- what each line adds

pub size_stands : (at : ℕ) (m : BlockMap) → m.size ≤ 2 ^ 43 →
    stands at (spaced_out started) (item.Number field.ImageSize m.size) ≡ Ok (with_size m)
size_stands at m h = rw (le-leb m.size (2 ^ 43) h) refl

pub block_stands : (at : ℕ) (m : BlockMap) → IsPowerBetween 512 65536 m.block →
    stands at (spaced_out (with_size m)) (item.Number field.BlockSize m.block) ≡ Ok (with_block m)
block_stands at m h =
    let passes : is_power_between 512 65536 m.block ≡ true = power_between_passes 512 65536 m.block h in
    rw passes refl

pub count_stands : (at : ℕ) (m : BlockMap) →
    stands at (spaced_out (with_block m)) (item.Number field.BlocksCount (block_count m)) ≡ Ok (with_count m)
count_stands at m = refl

pub mapped_stands : (at : ℕ) (m : BlockMap) →
    stands at (spaced_out (with_count m)) (item.Number field.MappedBlocksCount (blocks_in m.ranges))
    ≡ Ok (with_mapped m)
mapped_stands at m = refl

pub type_stands : (at : ℕ) (m : BlockMap) → stands at (spaced_out (with_mapped m)) item.ChecksumType ≡ Ok (with_type m)
type_stands at m = refl

pub sum_stands : (at : ℕ) (m : BlockMap) (digest : List ℕ) →
    stands at (spaced_out (with_type m)) (item.Checksum 19 digest) ≡ Ok (with_sum m (at + 19) digest)
sum_stands at m digest = refl

pub map_starts : (at : ℕ) (m : BlockMap) (place : ℕ) (digest : List ℕ) →
    stands at (spaced_out (with_sum m place digest)) item.MapStart ≡ Ok (in_map m place digest [])
map_starts at m place digest = refl

follows : (done : List Range) (r : Range) → next_of done ≤ r.first → r.first ≤ r.last → r.last < 2 ^ 64 - 1 →
    length done < max_ranges → may_follow done r ≡ true
follows done r from filled below room =
    rw (
      le-leb (next_of done) r.first from,
      le-leb r.first r.last filled,
      lt-ltb r.last (2 ^ 64 - 1) below,
      lt-ltb (length done) max_ranges room,
    ) refl

pub range_stands : (at : ℕ) (m : BlockMap) (place : ℕ) (digest : List ℕ) (done : List Range) (r : Range) →
    next_of done ≤ r.first → r.first ≤ r.last → r.last < 2 ^ 64 - 1 → length done < max_ranges →
    stands at (spaced_out (in_map m place digest done)) (item.Range r) ≡ Ok (in_map m place digest (done ++ r ∷ []))
range_stands at m place digest done r from filled below room =
    let may : may_follow done r ≡ true = follows done r from filled below room in
    rw may refl

pub map_ends : (at : ℕ) (m : BlockMap) (place : ℕ) (digest : List ℕ) →
    stands at (spaced_out (in_map m place digest m.ranges)) item.MapEnd ≡ Ok (behind_map m place digest)
map_ends at m place digest = refl

pub text_ends : (at : ℕ) (m : BlockMap) (place : ℕ) (digest : List ℕ) →
    stands at (spaced_out (behind_map m place digest)) item.End ≡ Ok (all_stood m place digest)
text_ends at m place digest = refl
