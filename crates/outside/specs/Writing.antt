-- What it means to copy a run of bytes of one file into another.
use Rattle.std.specs.Prelude.{◌≡◌, ℕ, List, Some, Result, Ok, Err, IsOkAnd}
use Rattle.base_fields.specs.Fields.{written}
use Rattle.outside.specs.Files.{Tree, bytes_of}
use Rattle.outside.specs.declared.reading.FillFault.{FillFault}
use Rattle.outside.specs.declared.reading.FillFault.TheVariants as fill
use Rattle.outside.specs.declared.writing.TransferFault.{TransferFault}
use Rattle.outside.specs.declared.writing.TransferFault.TheVariants.{Missing, Short, Failed, NoMemory}

-- the wanted bytes stand in the target, which is else as before; or the answer is the wanted refusal, or a call
-- failed or memory was refused
abbrev pub Transfers : Result (List ℕ) FillFault → List ℕ → ℕ → Tree → Tree → Result Unit TransferFault → Type 0
Transfers wanted target to old new (Ok done) = IsOkAnd wanted (λ bytes. new target ≡ Some (written (bytes_of old target) to bytes))
Transfers wanted target to old new (Err Missing) = wanted ≡ Err fill.Missing
Transfers wanted target to old new (Err (Short at)) = wanted ≡ Err (fill.Short at)
Transfers wanted target to old new (Err Failed) = Unit {0}
Transfers wanted target to old new (Err NoMemory) = Unit {0}
