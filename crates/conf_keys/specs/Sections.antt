-- The keys of each section, from its items in order: for each key its last value, or the default.
use Rattle.std.specs.Prelude.{ℕ, ◌-◌, ◌*◌, ◌^◌, Bool, true, false, ◌||◌, ◌==◌, nat_lt, List, [], length, Option, Some, None, option_and_then, unwrap_or, Result, Ok, Err, codes, ◌≡◌, ◌≢◌, MatchResult, is_none, if◌then◌else◌}
use Rattle.std.specs.Option.{option_or}
use Rattle.uuid.specs.Text.{parsed}
use Rattle.base_fields.specs.declared.spans.TableKind.{TableKind}
use Rattle.base_fields.specs.declared.spans.TableKind.TheVariants as table
use Rattle.conf_keys.specs.declared.conf.ConfigKeys.{ConfigKeys}
use Rattle.conf_keys.specs.declared.conf.FlashSection.{FlashSection}
use Rattle.conf_keys.specs.declared.conf.HdKeys.{HdKeys}
use Rattle.conf_keys.specs.declared.conf.ImageKeys.{ImageKeys}
use Rattle.conf_keys.specs.declared.conf.PlainKeys.{PlainKeys}
use Rattle.conf_keys.specs.declared.conf.SparseKeys.{SparseKeys}
use Rattle.conf_items.specs.declared.items.Place.{Place}
use Rattle.conf_items.specs.declared.items.Word.{Word}
use Rattle.conf_items.specs.declared.items.Setting.{Setting}
use Rattle.conf_items.specs.declared.outline.InnerItem.{InnerItem}
use Rattle.conf_items.specs.declared.outline.SectionItem.{SectionItem}
use Rattle.conf_keys.specs.declared.settings.Section.{Section}
use Rattle.conf_keys.specs.declared.settings.Section.TheVariants as section
use Rattle.conf_items.specs.declared.items.Head.{Head}
use Rattle.conf_keys.specs.declared.checking.SectionFault.{SectionFault}
use Rattle.conf_keys.specs.declared.checking.SectionFault.TheVariants.{BadValue, NoMemory}
use Rattle.conf_keys.specs.Checking.{first_fault, first_top_fault}
use Rattle.conf_keys.specs.Items.{inner_keys, top_keys}
use Rattle.conf_keys.specs.Settings.{last_of, last_text}
use Rattle.conf_values.specs.Values.{number_between, power_between, sector_of, size_from, table_of, truth_of}

-- ---- faults

-- a section that has no name has its fault there
abbrev pub name_fault : Option Word → Option SectionFault
name_fault None = None
name_fault (Some word) = Some (BadValue word.place)

abbrev pub unnamed_fault : Head → Option SectionFault
unnamed_fault head = name_fault head.name

-- a section that has to have a name, of one character or more
abbrev pub name_lacks : Place → Option Word → Option SectionFault
name_lacks word None = Some (BadValue word)
name_lacks word (Some name) = if length name.text == 0 then Some (BadValue name.place) else None

abbrev pub named_fault : Head → Option SectionFault
named_fault head = name_lacks head.word.place head.name

abbrev pub word_text : Option Word → List ℕ
word_text None = []
word_text (Some word) = word.text

abbrev pub name_text : Head → List ℕ
name_text head = word_text head.name

-- the fault of the head comes first, then that of the first item that has one
abbrev pub section_fault : Option SectionFault → Section → List InnerItem → Option SectionFault
section_fault head whose items = option_or head (first_fault whose items)

abbrev pub top_section_fault : Option SectionFault → Section → List SectionItem → Option SectionFault
top_section_fault head whose items = option_or head (first_top_fault whose items)

abbrev pub answer : {Keys : Type 0} → Option SectionFault → Keys → Result Keys SectionFault
answer None keys = Ok keys
answer (Some fault) keys = Err fault

-- ---- the last value of a key

abbrev pub size_at : ℕ → List ℕ → List Setting → Option ℕ
size_at least key settings = option_and_then (size_from least) (last_text key settings)

abbrev pub number_at : ℕ → ℕ → List ℕ → List Setting → Option ℕ
number_at least most key settings = option_and_then (number_between least most) (last_text key settings)

abbrev pub truth_at : List ℕ → List Setting → Option Bool
truth_at key settings = option_and_then truth_of (last_text key settings)

abbrev pub identifier_at : List ℕ → List Setting → Option (List ℕ)
identifier_at key settings = option_and_then parsed (last_text key settings)

-- ---- hdimage

abbrev pub table_at : List Setting → Option TableKind
table_at settings = option_and_then table_of (last_text (codes "partition-table-type") settings)

-- sectors of 4096 bytes go with a GUID partition table or none
abbrev pub goes_with_wide : Option TableKind → Bool
goes_with_wide (Some table.Gpt) = true
goes_with_wide (Some table.Bare) = true
goes_with_wide _ = false

abbrev pub is_wide : List Setting → Bool
is_wide settings = goes_with_wide (table_at settings)

abbrev pub sector_at : Bool → List Setting → Option ℕ
sector_at wide settings = option_and_then (sector_of wide) (last_text (codes "sector-size") settings)

abbrev pub sector_size_of : List Setting → ℕ
sector_size_of settings = unwrap_or (sector_at (is_wide settings) settings) 512

abbrev pub hd_section : List Setting → Section
hd_section settings = section.Hd (is_wide settings) (sector_size_of settings)

abbrev pub hd_values : List Setting → HdKeys
hd_values settings = record {
  align = size_at 1 (codes "align") settings;
  partition_table_type = unwrap_or (table_at settings) table.Mbr;
  extended_partition = unwrap_or (number_at 0 4 (codes "extended-partition") settings) 0;
  disk_signature = unwrap_or (number_at 0 (2 ^ 32 - 1) (codes "disk-signature") settings) 0;
  disk_uuid = identifier_at (codes "disk-uuid") settings;
  gpt_location = unwrap_or (size_at (2 * sector_size_of settings) (codes "gpt-location") settings) (2 * sector_size_of settings);
  gpt_no_backup = unwrap_or (truth_at (codes "gpt-no-backup") settings) false;
  fill = unwrap_or (truth_at (codes "fill") settings) false;
  sector_size = sector_size_of settings;
}

abbrev pub hd_of : Head → List InnerItem → Result HdKeys SectionFault
hd_of head items = answer
    (section_fault (unnamed_fault head) (hd_section (inner_keys items)) items)
    (hd_values (inner_keys items))

-- ---- sections with texts

-- what was got is what was wanted, save where memory was refused
abbrev pub Answers : {Keys : Type 0} → Result Keys SectionFault → Result Keys SectionFault → Type 0
Answers wanted got = MatchResult got (λ keys. wanted ≡ Ok keys) (λ fault. fault ≢ NoMemory → wanted ≡ Err fault)

abbrev pub config_values : List Setting → ConfigKeys
config_values settings = record {
  inputpath = last_text (codes "inputpath") settings;
  outputpath = last_text (codes "outputpath") settings;
}

abbrev pub config_of : Head → List SectionItem → Result ConfigKeys SectionFault
config_of head items =
    answer (top_section_fault (unnamed_fault head) section.Config items) (config_values (top_keys items))

abbrev pub plain_values : List Setting → PlainKeys
plain_values settings = record { name = last_text (codes "name") settings }

abbrev pub plain_of : Head → List InnerItem → Result PlainKeys SectionFault
plain_of head items =
    answer (section_fault (unnamed_fault head) section.Plain items) (plain_values (inner_keys items))

-- ---- android-sparse

abbrev pub is_lacking : List ℕ → List Setting → Bool
is_lacking key settings = is_none (last_of key settings)

-- a lacking image is a fault at the section's word
abbrev pub sparse_head_fault : Head → List Setting → Option SectionFault
sparse_head_fault head settings =
    if is_lacking (codes "image") settings then Some (BadValue head.word.place) else unnamed_fault head

abbrev pub block_size_at : List Setting → Option ℕ
block_size_at settings = option_and_then (power_between 4096 1048576) (last_text (codes "block-size") settings)

abbrev pub sparse_values : List Setting → SparseKeys
sparse_values settings = record {
  image = last_text (codes "image") settings;
  block_size = unwrap_or (block_size_at settings) 4096;
}

abbrev pub sparse_of : Head → List InnerItem → Result SparseKeys SectionFault
sparse_of head items = answer
    (section_fault (sparse_head_fault head (inner_keys items)) section.Sparse items)
    (sparse_values (inner_keys items))

-- ---- flash at the top

abbrev pub pebsize_at : List Setting → Option ℕ
pebsize_at settings = size_at 1 (codes "pebsize") settings

abbrev pub numpebs_at : List Setting → Option ℕ
numpebs_at settings = number_at 1 (2 ^ 64 - 1) (codes "numpebs") settings

-- a device of more than 2^43 bytes, where both its numbers are valid
abbrev pub is_past : ℕ → ℕ → Bool
is_past size count = nat_lt (2 ^ 43) (size * count)

abbrev pub is_product_past : Option ℕ → Option ℕ → Bool
is_product_past (Some size) (Some count) = is_past size count
is_product_past _ _ = false

abbrev pub is_too_large : List Setting → Bool
is_too_large settings = is_product_past (pebsize_at settings) (numpebs_at settings)

abbrev pub lacks_key : List Setting → Bool
lacks_key settings = is_lacking (codes "pebsize") settings || is_lacking (codes "numpebs") settings

-- what is lacking and what is too large is a fault at the section's word
abbrev pub flash_head_fault : Head → List Setting → Option SectionFault
flash_head_fault head settings =
    if lacks_key settings || is_too_large settings then Some (BadValue head.word.place) else named_fault head

-- both numbers are there where the section has no fault
abbrev pub flash_values : Head → List Setting → FlashSection
flash_values head settings = record {
  name = name_text head;
  pebsize = unwrap_or (pebsize_at settings) 0;
  numpebs = unwrap_or (numpebs_at settings) 0;
}

abbrev pub flash_of : Head → List SectionItem → Result FlashSection SectionFault
flash_of head items = answer
    (top_section_fault (flash_head_fault head (top_keys items)) section.Flash items)
    (flash_values head (top_keys items))

-- ---- image

abbrev pub image_values : List Setting → ImageKeys
image_values settings = record {
  size = size_at 0 (codes "size") settings;
  flashtype = last_text (codes "flashtype") settings;
}
