-- The sector size of an image by where the header of its GUID partition table stands.
use Rattle.std.specs.Prelude.{ℕ, ◌+◌, ◌==◌, Bool, ◌&&◌, not, nat_le, List, length, if◌then◌else◌}
use Rattle.base_fields.specs.declared.spans.TableKind.{TableKind}
use Rattle.base_fields.specs.declared.spans.TableKind.TheVariants as table
use Rattle.table_reading.specs.Header.{said, signature}

-- `EFI PART` stands at an offset, wholly in front of the end
abbrev pub begins_header : List ℕ → ℕ → Bool
begins_header bytes at = nat_le (at + 8) (length bytes) && (said bytes at 8 == signature)

-- 4096 where a header stands there and none at 512, else 512
abbrev pub sector_of_header : List ℕ → ℕ
sector_of_header bytes = if not (begins_header bytes 512) && begins_header bytes 4096 then 4096 else 512

-- beside a GUID partition table alone the sector size may be another
abbrev pub sector_of : TableKind → List ℕ → ℕ
sector_of table.Gpt bytes = sector_of_header bytes
sector_of table.Hybrid bytes = sector_of_header bytes
sector_of table.Mbr bytes = 512
sector_of table.Bare bytes = 512
