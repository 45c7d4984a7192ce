-- What an answer of the walk says of the texts, and of the counts of the files.
use Rattle.std.specs.Prelude.{◌≡◌, ℕ, ◌<◌, Result, Ok, Err}
use Rattle.outside.specs.Counts.{Counts, Rose}
use Rattle.conf_texts.specs.declared.fault.WalkFault.{WalkFault}
use Rattle.conf_texts.specs.declared.fault.WalkFault.TheVariants.{Missing, SourceShort, FileFault, NoMemory}

-- a refusal is the wanted one, or a call failed or memory was refused
abbrev pub Refuses : {A : Type 0} → Result A WalkFault → WalkFault → Type 0
Refuses wanted FileFault = Unit {0}
Refuses wanted NoMemory = Unit {0}
Refuses wanted fault = wanted ≡ Err fault

abbrev pub Answers : {A : Type 0} → Result A WalkFault → Result A WalkFault → Type 0
Answers wanted (Ok got) = wanted ≡ Ok got
Answers wanted (Err fault) = Refuses wanted fault

-- a refusal of the files comes only where its count rose
abbrev pub HasCause : Counts → Counts → WalkFault → Type 0
HasCause before now FileFault = Rose before.faults now.faults
HasCause before now (Missing name) = Rose before.absences now.absences
HasCause before now (SourceShort name at) = Rose before.ends now.ends
HasCause before now other = Unit {0}

-- a byte that lacks is one of so many
abbrev pub LacksBelow : ℕ → WalkFault → Type 0
LacksBelow count (SourceShort name at) = at < count
LacksBelow count other = Unit {0}

-- a refusal that has no cause in the files
abbrev pub IsNoFileFault : WalkFault → Type 0
IsNoFileFault FileFault = ⊥
IsNoFileFault (Missing name) = ⊥
IsNoFileFault (SourceShort name at) = ⊥
IsNoFileFault other = Unit {0}
