-- How many of some partitions count towards the table, and what the rules look at of the next one.
use Rattle.std.specs.Prelude.{◌≡◌, ℕ, ◌+◌, ◌≤◌, Bool, List, [], ◌∷◌, ◌++◌, filter, length}
use Rattle.base_fields.specs.declared.spans.TableKind.{TableKind}
use Rattle.conf_keys.specs.declared.conf.PartitionSection.{PartitionSection}
use Rattle.image_specs.specs.declared.specs.ImageSpec.{ImageSpec}
use Rattle.placement_rules.specs.Terms.{in_tables, is_nil, is_typed, primaries, terms_of}
use Rattle.placement_rules.specs.declared.listing.Counts.{Counts}
use Rattle.placement_rules.specs.declared.terms.Terms.{Terms}

pub record AreCounts (table : TableKind) (parts : List PartitionSection) (counts : Counts) : Type 0 where
  pub tabled : counts.tabled ≡ length (in_tables table parts)
  pub typed : counts.typed ≡ length (filter (is_typed table) parts)

-- with one partition more
pub record AreCountsBehind (table : TableKind) (part : PartitionSection) (before after : Counts) : Type 0 where
  pub counts : (parts : List PartitionSection) → AreCounts table parts before → AreCounts table (parts ++ part ∷ []) after
  pub tabled : after.tabled ≤ before.tabled + 1
  pub typed : after.typed ≤ before.typed + 1

-- how many partitions of the image's own table are primary
abbrev pub primaries_of : ImageSpec → ℕ
primaries_of spec =
    primaries spec.keys.hd.extended_partition (length (in_tables spec.keys.hd.partition_table_type spec.keys.parts))

-- behind any partitions that count so, and in front of any others
abbrev pub IsTermsBehind : ImageSpec → PartitionSection → Counts → Bool → ℕ → Terms → Type 0
IsTermsBehind spec part counts last len t =
    (before rest : List PartitionSection)
    → AreCounts spec.keys.hd.partition_table_type before counts
    → last ≡ is_nil rest
    → t ≡ terms_of spec spec.keys.hd.partition_table_type before part rest len
