-- How the environment's variables are handed on.
use Rattle.std.specs.Prelude.{List, ℕ, String, string_bytes}
use Rattle.std.specs.Global.{Global}
use Rattle.base_fields.specs.declared.names.Pair.{Pair}

-- a variable of the environment: its name and its value
abbrev pub pair_of : String Global × String Global → Pair
pair_of variable = record { name = string_bytes variable.0; value = string_bytes variable.1 }
