-- Where the partitions of a flash image stand: each behind all that are listed before it, unless it has an offset.
use Rattle.std.specs.Prelude.{◌≡◌, ℕ, ◌+◌, ◌*◌, ◌^◌, ◌≤◌, List, [], ◌∷◌, ◌++◌, Option, IsSomeAnd, map, unwrap_or}
use Rattle.base_fields.specs.declared.spans.Span.{Span}
use Rattle.conf_keys.specs.declared.conf.FlashSection.{FlashSection}
use Rattle.conf_keys.specs.declared.conf.PartitionSection.{PartitionSection}
use Rattle.placement_rules.specs.Places.{greatest, least_multiple}
use Rattle.flash_geometry.specs.declared.geometry.Geometry.{Geometry}

-- ---- devices

-- at least one erase block of at least one byte, and no more bytes than an image may have
pub record IsGeometry (g : Geometry) : Type 0 where
  pub pebsize : 1 ≤ g.pebsize
  pub numpebs : 1 ≤ g.numpebs
  pub product : g.pebsize * g.numpebs ≤ 2 ^ 43

-- that of a flash section
abbrev pub IsGeometryOf : Option FlashSection → Geometry → Type 0
IsGeometryOf flash g = IsSomeAnd flash (λ f. (g.pebsize ≡ f.pebsize) × (g.numpebs ≡ f.numpebs))

-- the bytes of a device
abbrev pub capacity : Geometry → ℕ
capacity g = g.pebsize * g.numpebs

-- ---- partitions

-- the offset behind the last byte
abbrev pub span_end : Span → ℕ
span_end s = s.at + s.len

abbrev pub last_end : List Span → ℕ
last_end spans = greatest (map span_end spans)

-- a number that is given, else the first boundary of erase blocks that isn't below n
abbrev pub or_block : Geometry → Option ℕ → ℕ → ℕ
or_block g given n = unwrap_or given (least_multiple g.pebsize n)

-- the bytes of a partition, by those of all that are listed before it and by its file's length
abbrev pub place_of : Geometry → List Span → PartitionSection → ℕ → Span
place_of g before part len = record { at = or_block g part.offset (last_end before); len = or_block g part.size len }

abbrev pub places_from : Geometry → List Span → List PartitionSection → List ℕ → List Span
places_from g before (part ∷ parts) (len ∷ lens) =
    place_of g before part len ∷ places_from g (before ++ place_of g before part len ∷ []) parts lens
places_from g before _ _ = []

abbrev pub places : Geometry → List PartitionSection → List ℕ → List Span
places g parts lens = places_from g [] parts lens
