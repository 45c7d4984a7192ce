-- What it means to read a run of bytes of a file.
use Rattle.std.specs.Prelude.{◌≡◌, ℕ, ◌+◌, List, [], length, take, drop, max, nat_le, nat_eq, if◌then◌else◌, Option, Some, None, Result, Ok, Err}
use Rattle.outside.specs.declared.reading.FillFault.{FillFault}
use Rattle.outside.specs.declared.reading.FillFault.TheVariants.{Missing, Short, Failed}

-- the bytes from an offset on, or the first that is needed and lacks
abbrev pub run_of : List ℕ → ℕ → ℕ → Result (List ℕ) FillFault
run_of bytes off n = if nat_le (off + n) (length bytes) then Ok (take n (drop off bytes)) else Err (Short (max off (length bytes)))

-- the same of what stands under a name; no byte is asked for where none is needed
abbrev pub span_of : Option (List ℕ) → ℕ → ℕ → Result (List ℕ) FillFault
span_of None off n = if nat_eq n 0 then Ok [] else Err Missing
span_of (Some bytes) off n = if nat_eq n 0 then Ok [] else run_of bytes off n

-- an answer gives the wanted bytes or the wanted refusal, or a call failed
abbrev pub Fills : Result (List ℕ) FillFault → List ℕ → Result Unit FillFault → Type 0
Fills wanted got (Ok done) = wanted ≡ Ok got
Fills wanted got (Err Failed) = Unit {0}
Fills wanted got (Err Missing) = wanted ≡ Err Missing
Fills wanted got (Err (Short at)) = wanted ≡ Err (Short at)
