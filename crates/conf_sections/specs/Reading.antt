-- What a configuration says, or its first fault, and what an answer says of it and of the counts of the files.
use Rattle.std.specs.Prelude.{◌≡◌, ℕ, List, [], Result, Ok, Err, slice_get, unwrap_or}
use Rattle.base_fields.specs.declared.names.Pair.{Pair}
use Rattle.outside.specs.Counts.{Counts, Rose}
use Rattle.outside.specs.Files.{Tree}
use Rattle.conf_items.specs.declared.items.Place.{Place}
use Rattle.conf_keys.specs.declared.checking.SectionFault.{SectionFault}
use Rattle.conf_keys.specs.declared.checking.SectionFault.TheVariants as section
use Rattle.conf_keys.specs.declared.conf.Conf.{Conf}
use Rattle.base_fields.specs.Results.{◌>>=◌, refused_by}
use Rattle.conf_walk.specs.Walk.{texts_of}
use Rattle.conf_texts.specs.declared.fault.WalkFault.{WalkFault}
use Rattle.conf_texts.specs.declared.fault.WalkFault.TheVariants as walk
use Rattle.conf_walk.specs.declared.walking.Texts.{Texts}
use Rattle.conf_sections.specs.declared.fault.ConfFault.{ConfFault}
use Rattle.conf_sections.specs.declared.fault.ConfFault.TheVariants.{BadText, Unset, DeepInclude, TooLong, Missing, SourceShort, FileFault, UnknownKey, BadValue, NoMemory}
use Rattle.conf_sections.specs.Conf.{conf_of}

-- the fault of the walk
abbrev pub walk_fault : WalkFault → ConfFault
walk_fault (walk.BadText name place) = BadText name place
walk_fault (walk.Unset var) = Unset var
walk_fault (walk.DeepInclude name) = DeepInclude name
walk_fault (walk.TooLong total) = TooLong total
walk_fault (walk.Missing name) = Missing name
walk_fault (walk.SourceShort name at) = SourceShort name at
walk_fault walk.FileFault = FileFault
walk_fault walk.NoMemory = NoMemory

-- the name of the text in which a place is
abbrev pub text_name : List (List ℕ) → Place → List ℕ
text_name names place = unwrap_or (slice_get names place.text) []

-- the fault of a key or a value, with the name of its text
abbrev pub item_fault : List (List ℕ) → SectionFault → ConfFault
item_fault names (section.UnknownKey place) = UnknownKey (text_name names place) place.at
item_fault names (section.BadValue place) = BadValue (text_name names place) place.at
item_fault names section.NoMemory = NoMemory

abbrev pub with_names : List (List ℕ) → Conf → Conf
with_names names conf = record conf { texts = names }

abbrev pub said : Texts → Result Conf ConfFault
said texts = refused_by (item_fault texts.names) (conf_of texts.items) >>= λ conf. Ok (with_names texts.names conf)

-- all texts are read first, and then the keys and values are looked at in order
abbrev pub resolved : List Pair → Tree → List ℕ → Result Conf ConfFault
resolved vars file name = refused_by walk_fault (texts_of vars file name) >>= said

-- a refusal is the wanted one, or a call failed or memory was refused
abbrev pub Refuses : Result Conf ConfFault → ConfFault → Type 0
Refuses wanted FileFault = Unit {0}
Refuses wanted NoMemory = Unit {0}
Refuses wanted fault = wanted ≡ Err fault

abbrev pub Answers : Result Conf ConfFault → Result Conf ConfFault → Type 0
Answers wanted (Ok conf) = wanted ≡ Ok conf
Answers wanted (Err fault) = Refuses wanted fault

-- what a key or a value is refused by, and want of memory: no refusal of the files or the walk
abbrev pub IsOfItems : ConfFault → Type 0
IsOfItems (UnknownKey name place) = Unit {0}
IsOfItems (BadValue name place) = Unit {0}
IsOfItems NoMemory = Unit {0}
IsOfItems other = ⊥

-- a refusal of the files comes only where its count rose
abbrev pub HasCause : Counts → Counts → ConfFault → Type 0
HasCause before now FileFault = Rose before.faults now.faults
HasCause before now (Missing name) = Rose before.absences now.absences
HasCause before now (SourceShort name at) = Rose before.ends now.ends
HasCause before now other = Unit {0}
