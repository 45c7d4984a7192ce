-- What shows that no map was read.
use Rattle.std.specs.Prelude.{◌≢◌, Bool, true, false}
use Rattle.bmap_grammar.specs.declared.faults.MapFault.{MapFault}
use Rattle.bmap_grammar.specs.declared.faults.MapFault.TheVariants as text
use Rattle.outside.specs.Counts.{Counts, Rose}
use Rattle.map_source.specs.declared.faults.SourceFault.{SourceFault}
use Rattle.map_source.specs.declared.faults.SourceFault.TheVariants.{Missing, SourceShort, FileFault, NoMemory}
use Rattle.map_source.specs.declared.faults.SourceFault.TheVariants.{BadMap, OtherVersion, OtherDigest}
use Rattle.map_source.specs.declared.faults.SourceFault.TheVariants.{BadCounts, SumDiffers}

-- what is wrong with a text, as what is wrong with the file
abbrev pub fault_of : MapFault → SourceFault
fault_of (text.BadMap place) = BadMap place
fault_of (text.OtherVersion place) = OtherVersion place
fault_of (text.OtherDigest place) = OtherDigest place
fault_of (text.BadCounts want got) = BadCounts want got
fault_of (text.SumDiffers want got) = SumDiffers want got
fault_of text.NoMemory = NoMemory

-- a call failed or memory was refused
abbrev pub is_counted : SourceFault → Bool
is_counted Missing = false
is_counted (SourceShort at) = false
is_counted FileFault = true
is_counted (BadMap place) = false
is_counted (OtherVersion place) = false
is_counted (OtherDigest place) = false
is_counted (BadCounts want got) = false
is_counted (SumDiffers want got) = false
is_counted NoMemory = true

-- by the counts of the files and by two values that differ, told or not
abbrev pub IsShown : Counts → Counts → SourceFault → Type 0
IsShown before now Missing = Rose before.absences now.absences
IsShown before now (SourceShort at) = Rose before.ends now.ends
IsShown before now FileFault = Rose before.faults now.faults
IsShown before now (BadMap place) = Unit {0}
IsShown before now (OtherVersion place) = Unit {0}
IsShown before now (OtherDigest place) = Unit {0}
IsShown before now (BadCounts want got) = want ≢ got
IsShown before now (SumDiffers want got) = want ≢ got
IsShown before now NoMemory = Unit {0}
