-- The attribute bits of a partition.
use Rattle.std.specs.Prelude.{ℕ, ◌+◌, ◌^◌, Bool, if◌then◌else◌}
use Rattle.gpt_table.specs.declared.flags.Flags.{Flags}

-- a bit by its number, where it is set
abbrev pub bit : Bool → ℕ → ℕ
bit set k = if set then 2 ^ k else 0

-- bit 2 is legacy BIOS bootable (UEFI 2.10, table 5.8); 60, 62 and 63 are this project's
abbrev pub attributes_of : Flags → ℕ
attributes_of flags = bit flags.bootable 2 + bit flags.read_only 60 + bit flags.hidden 62 + bit flags.no_automount 63
