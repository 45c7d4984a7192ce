-- What refuses a flash image, each by a word of its own, and which of these comes first.
use Rattle.std.specs.Prelude.{◌≡◌, ◌≢◌, ℕ, List, [], ◌∷◌, ◌++◌, Option, Some, None, Result, MatchResult, map, nat_lt, option_map, slice_index_or, unwrap_or}
use Rattle.base_fields.specs.Results.{provided}
use Rattle.base_fields.specs.declared.spans.Span.{Span}
use Rattle.conf_keys.specs.declared.conf.PartitionSection.{PartitionSection}
use Rattle.placement_rules.specs.Faults.{◌or◌, most_bytes, off_multiple}
use Rattle.placement_rules.specs.declared.faults.PlaceFault.{PlaceFault}
use Rattle.placement_rules.specs.declared.faults.PlaceFault.TheVariants as fault
use Rattle.flash_geometry.specs.Places.{capacity, last_end, place_of, places, span_end}
use Rattle.flash_geometry.specs.Taken.{first_met}
use Rattle.flash_geometry.specs.declared.geometry.Geometry.{Geometry}

-- ---- what a call answers

-- a fault is the refusal, save where memory was refused
abbrev pub Refuses : Option PlaceFault → PlaceFault → Type 0
Refuses refusal f = f ≢ fault.NoMemory → refusal ≡ Some f

-- a check passes where there is no refusal
abbrev pub Passes : Option PlaceFault → Result (Unit {0}) PlaceFault → Type 0
Passes refusal got = MatchResult got (λ done. refusal ≡ None) (Refuses refusal)

-- ---- numbers

abbrev pub too_far : List ℕ → ℕ → Option PlaceFault
too_far name len = provided (nat_lt most_bytes len) (fault.TooFar name len most_bytes)

abbrev pub not_on_block : Geometry → List ℕ → Option ℕ → Option PlaceFault
not_on_block g name value = option_map (λ n. fault.NotOnBlock name n g.pebsize) (off_multiple value g.pebsize)

abbrev pub too_large : List ℕ → ℕ → ℕ → Option PlaceFault
too_large name has limit = provided (nat_lt limit has) (fault.FileTooLarge name has limit)

abbrev pub past_flash : Geometry → List ℕ → ℕ → Option PlaceFault
past_flash g name end = provided (nat_lt (capacity g) end) (fault.PastFlash name end (capacity g))

-- ---- partitions

abbrev pub names_of : List PartitionSection → List (List ℕ)
names_of parts = map (λ part. part.name) parts

-- the name of the partition of that number
abbrev pub name_at : List PartitionSection → ℕ → List ℕ
name_at parts k = slice_index_or (names_of parts) k []

-- the first of those listed before that has an offset of this one
abbrev pub overlap : List PartitionSection → List Span → List ℕ → Span → Option PlaceFault
overlap parts before name s = option_map (λ k. fault.Overlap name (name_at parts k)) (first_met before s)

-- by the numbers of a partition, before a place is looked for
abbrev pub number_fault : Geometry → PartitionSection → ℕ → Option PlaceFault
number_fault g part len =
    too_far part.name len or not_on_block g part.name part.offset or not_on_block g part.name part.size

-- in its place
abbrev pub place_fault : Geometry → List PartitionSection → List Span → List ℕ → ℕ → Span → Option PlaceFault
place_fault g parts before name len s =
    too_large name len s.len or overlap parts before name s or past_flash g name (span_end s)

-- one of these partitions, by the bytes of all that are listed before it
abbrev pub part_fault : Geometry → List PartitionSection → List Span → PartitionSection → ℕ → Option PlaceFault
part_fault g parts before part len =
    number_fault g part len or place_fault g parts before part.name len (place_of g before part len)

abbrev pub first_fault : Geometry → List PartitionSection → List Span → List PartitionSection → List ℕ → Option PlaceFault
first_fault g parts before (part ∷ rest) (len ∷ lens) =
    part_fault g parts before part len or first_fault g parts (before ++ place_of g before part len ∷ []) rest lens
first_fault g parts before _ _ = None

-- ---- the image

abbrev pub too_small : Option ℕ → ℕ → Option PlaceFault
too_small None needs = None
too_small (Some has) needs = provided (nat_lt has needs) (fault.ImageTooSmall has needs)

-- an image of this `size`, where it has one, with partitions that end there
abbrev pub image_fault : Geometry → List ℕ → Option ℕ → ℕ → Option PlaceFault
image_fault g name size needs =
    not_on_block g name size or past_flash g name (unwrap_or size 0) or too_small size needs

-- ---- the first of all

abbrev pub partition_fault : Geometry → List PartitionSection → List ℕ → Option PlaceFault
partition_fault g parts lens = first_fault g parts [] parts lens

abbrev pub refusal_of : Geometry → List ℕ → Option ℕ → List PartitionSection → List ℕ → Option PlaceFault
refusal_of g name size parts lens =
    partition_fault g parts lens or image_fault g name size (last_end (places g parts lens))
