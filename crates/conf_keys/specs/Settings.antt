-- The keys of each section, and which values they may have.
use Rattle.std.specs.Prelude.{ℕ, ◌-◌, ◌*◌, ◌^◌, Bool, true, false, ◌||◌, List, reverse, find, Option, Some, None, option_and_then, is_some, codes, if◌then◌else◌}
use Rattle.std.specs.Str.{bytes_eq}
use Rattle.uuid.specs.Text.{parsed}
use Rattle.conf_items.specs.declared.items.Value.TheVariants.{One}
use Rattle.conf_items.specs.declared.items.Given.{Given}
use Rattle.conf_items.specs.declared.items.Given.TheVariants as given
use Rattle.conf_items.specs.declared.items.Setting.{Setting}
use Rattle.conf_keys.specs.declared.settings.Section.{Section}
use Rattle.conf_keys.specs.declared.settings.Section.TheVariants as section
use Rattle.conf_keys.specs.declared.settings.Shape.{Shape}
use Rattle.conf_keys.specs.declared.settings.Shape.TheVariants as shape
use Rattle.conf_values.specs.Values.{number_between, power_between, sector_of, size_from, table_of, truth_of, type_of}

-- ---- which keys there are, and what their values may be

-- the key has this spelling
abbrev pub is : List ℕ → List ℕ → Bool
is key spelling = bytes_eq key spelling

abbrev pub config_shape : List ℕ → Option Shape
config_shape key =
    if is key (codes "inputpath") || is key (codes "outputpath") then Some shape.Text
    else Some shape.Anything

abbrev pub flash_shape : List ℕ → Option Shape
flash_shape key =
    if is key (codes "pebsize") then Some (shape.Size 1)
    else if is key (codes "numpebs") then Some (shape.Number 1 (2 ^ 64 - 1))
    else Some shape.Anything

abbrev pub image_shape : List ℕ → Option Shape
image_shape key =
    if is key (codes "size") then Some (shape.Size 0)
    else if is key (codes "flashtype") then Some shape.Text
    else if is key (codes "name") || is key (codes "mountpoint") || is key (codes "srcpath") || is key (codes "empty") || is key (codes "temporary") then Some shape.Anything
    else None

abbrev pub ready_shape : List ℕ → Option Shape
ready_shape key = if is key (codes "exec-pre") || is key (codes "exec-post") then None else Some shape.Anything

abbrev pub hd_shape : Bool → ℕ → List ℕ → Option Shape
hd_shape wide sector key =
    if is key (codes "align") then Some (shape.Size 1)
    else if is key (codes "partition-table-type") then Some shape.Table
    else if is key (codes "extended-partition") then Some (shape.Number 0 4)
    else if is key (codes "disk-signature") then Some (shape.Number 0 (2 ^ 32 - 1))
    else if is key (codes "disk-uuid") then Some shape.Identifier
    else if is key (codes "gpt-location") then Some (shape.Size (2 * sector))
    else if is key (codes "gpt-no-backup") || is key (codes "fill") then Some shape.Truth
    else if is key (codes "sector-size") then Some (shape.Sector wide)
    else None

abbrev pub sparse_shape : List ℕ → Option Shape
sparse_shape key =
    if is key (codes "image") then Some shape.Text
    else if is key (codes "block-size") then Some (shape.Power 4096 1048576)
    else None

abbrev pub plain_shape : List ℕ → Option Shape
plain_shape key = if is key (codes "name") then Some shape.Text else None

abbrev pub partition_flag : List ℕ → Option Shape
partition_flag key =
    if is key (codes "fill") || is key (codes "autoresize") || is key (codes "bootable") then Some shape.Truth
    else if is key (codes "read-only") || is key (codes "hidden") || is key (codes "no-automount") || is key (codes "in-partition-table") then Some shape.Truth
    else None

abbrev pub partition_shape : List ℕ → Option Shape
partition_shape key =
    if is key (codes "offset") || is key (codes "size") then Some (shape.Size 0)
    else if is key (codes "align") then Some (shape.Size 1)
    else if is key (codes "image") then Some shape.Text
    else if is key (codes "partition-type") then Some (shape.Number 1 255)
    else if is key (codes "partition-uuid") then Some shape.Identifier
    else if is key (codes "partition-type-uuid") then Some shape.PartitionType
    else if is key (codes "holes") then Some shape.Holes
    else partition_flag key

abbrev pub shape_of : Section → List ℕ → Option Shape
shape_of section.Config key = config_shape key
shape_of section.Flash key = flash_shape key
shape_of section.Image key = image_shape key
shape_of section.Ready key = ready_shape key
shape_of (section.Hd wide sector) key = hd_shape wide sector key
shape_of section.Device key = None
shape_of section.Sparse key = sparse_shape key
shape_of section.Plain key = plain_shape key
shape_of section.Partition key = partition_shape key

-- a section may stand inside
abbrev pub takes_sections : Section → Bool
takes_sections section.Config = true
takes_sections section.Image = true
takes_sections section.Ready = true
takes_sections _ = false

-- a single value may have this text
abbrev pub fits : Shape → List ℕ → Bool
fits shape.Anything text = true
fits shape.Text text = true
fits (shape.Size least) text = is_some (size_from least text)
fits (shape.Number least most) text = is_some (number_between least most text)
fits (shape.Power least most) text = is_some (power_between least most text)
fits (shape.Sector wide) text = is_some (sector_of wide text)
fits shape.Truth text = is_some (truth_of text)
fits shape.Identifier text = is_some (parsed text)
fits shape.PartitionType text = is_some (type_of text)
fits shape.Table text = is_some (table_of text)
fits shape.Holes text = false

-- ---- the last value of a key

abbrev pub has_key : List ℕ → Setting → Bool
has_key key setting = bytes_eq setting.key.text key

abbrev pub last_of : List ℕ → List Setting → Option Setting
last_of key settings = find (has_key key) (reverse settings)

-- the text of a single value behind =
abbrev pub given_text : Given → Option (List ℕ)
given_text (given.Set (One word)) = Some word.text
given_text _ = None

abbrev pub text_of : Setting → Option (List ℕ)
text_of setting = given_text setting.given

abbrev pub last_text : List ℕ → List Setting → Option (List ℕ)
last_text key settings = option_and_then text_of (last_of key settings)
