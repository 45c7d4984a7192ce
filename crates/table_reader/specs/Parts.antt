-- A part of a file.
use Rattle.std.specs.Prelude.{ℕ, ◌+◌, nat_le, List, length, take, drop, Option, None, Some, Result, Ok, Err, if◌then◌else◌}
use Rattle.table_reader.specs.declared.fault.TableFault.{TableFault}
use Rattle.table_reader.specs.declared.fault.TableFault.TheVariants as fault

-- so many bytes of a file from an offset on; where it hasn't them it is too short, and its length says so
abbrev pub part_of : List ℕ → ℕ → ℕ → Result (List ℕ) TableFault
part_of bytes at n = if nat_le (at + n) (length bytes) then Ok (take n (drop at bytes)) else Err (fault.Short (length bytes))

-- what stands, where nothing is wrong with it
abbrev pub unless : {A : Type 0} → Option TableFault → A → Result A TableFault
unless None x = Ok x
unless (Some refusal) x = Err refusal
