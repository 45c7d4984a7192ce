-- Under which names the devices of a scenario may be attached.
use Rattle.std.specs.Prelude.{◌≡◌, ℕ, List, Option, Some}
use Rattle.std.specs.Option.{ForSome}
use Rattle.bench.specs.Meter.{Meter, of_device}
use Rattle.bench.specs.declared.Dev.{Dev}

-- the device has no other name than this word, and no name where there is no word
abbrev pub IsNamedAt : Dev → Option (List ℕ) → Meter → Type 0
IsNamedAt dev word meter = (present : List ℕ) → of_device dev meter.name ≡ Some present → word ≡ Some present

-- the word of a command, where it has one, is the one that is kept
abbrev pub IsKept : Option (List ℕ) → Option (List ℕ) → Type 0
IsKept given kept = ForSome given (λ word. kept ≡ Some word)
