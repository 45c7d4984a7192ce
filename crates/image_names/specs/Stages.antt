-- Stages of the search for a refusal.
use Rattle.std.specs.Prelude.{◌≡◌, ◌≢◌, Option, Some, None, Result, MatchResult}
use Rattle.std.specs.Option.{option_or}
use Rattle.conf_keys.specs.declared.conf.Conf.{Conf}
use Rattle.image_names.specs.declared.fault.GraphFault.{GraphFault}
use Rattle.image_names.specs.declared.fault.GraphFault.TheVariants.{NoMemory}
use Rattle.image_names.specs.Clashes.{section_clash}
use Rattle.image_names.specs.Counts.{no_flash, no_kind, too_many}

-- a stage passes where it has no refusal, else refuses with it, save where memory was refused
abbrev pub Passes : Option GraphFault → Result (Unit {0}) GraphFault → Type 0
Passes wanted got = MatchResult got (λ done. wanted ≡ None) (λ fault. fault ≢ NoMemory → wanted ≡ Some fault)

-- what sections alone are refused for, each over the whole configuration before the next
abbrev pub section_fault : Conf → Option GraphFault
section_fault conf = option_or (too_many conf) (option_or (no_kind conf) (option_or (no_flash conf) (section_clash conf)))
