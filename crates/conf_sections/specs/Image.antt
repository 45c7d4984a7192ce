-- What an image is, item by item, or its first item that has another key or value.
use Rattle.std.specs.Prelude.{ℕ, Bool, true, false, List, [], ◌∷◌, ◌++◌, None, Result, Ok, codes, if◌then◌else◌}
use Rattle.std.specs.List.{list_any}
use Rattle.std.specs.Str.{bytes_eq}
use Rattle.conf_items.specs.declared.items.Setting.{Setting}
use Rattle.conf_items.specs.declared.outline.SectionItem.{SectionItem}
use Rattle.conf_items.specs.declared.outline.SectionItem.TheVariants as item
use Rattle.conf_items.specs.declared.outline.Subsection.{Subsection}
use Rattle.conf_items.specs.declared.outline.TopSection.{TopSection}
use Rattle.conf_keys.specs.declared.checking.SectionFault.{SectionFault}
use Rattle.conf_keys.specs.declared.conf.ImageSection.{ImageSection}
use Rattle.conf_keys.specs.declared.conf.Kind.{Kind}
use Rattle.conf_keys.specs.declared.conf.Kind.TheVariants as kind
use Rattle.conf_keys.specs.declared.settings.Section.{Section}
use Rattle.conf_keys.specs.declared.settings.Section.TheVariants as section
use Rattle.conf_keys.specs.Checking.{setting_fault}
use Rattle.conf_keys.specs.Items.{top_keys}
use Rattle.conf_keys.specs.Partitions.{partition_of}
use Rattle.conf_keys.specs.Sections.{answer, hd_of, hd_values, image_values, name_text, named_fault, plain_of, plain_values, section_fault, sparse_of, sparse_values, unnamed_fault}
use Rattle.base_fields.specs.Results.{◌>>=◌}
use Rattle.conf_sections.specs.declared.image.Origin.{Origin}
use Rattle.conf_sections.specs.declared.image.Origin.TheVariants.{Made, Ready}

-- what a section of that word, other than `partition`, makes of its image
abbrev pub kind_of : List ℕ → Kind
kind_of word =
    if bytes_eq word (codes "hdimage") then kind.Hd
    else if bytes_eq word (codes "flash") then kind.Flash
    else if bytes_eq word (codes "android-sparse") then kind.Sparse
    else if bytes_eq word (codes "file") then kind.Plain
    else kind.Ready

abbrev pub word_of : Subsection → List ℕ
word_of inner = inner.head.word.text

abbrev pub is_partition : Subsection → Bool
is_partition inner = bytes_eq (word_of inner) (codes "partition")

-- one of the four kinds
abbrev pub is_made : Kind → Bool
is_made kind.Ready = false
is_made _ = true

-- an image is made where it has a section of one of the four kinds
abbrev pub makes : SectionItem → Bool
makes (item.Key setting) = false
makes (item.Section inner) = is_made (kind_of (word_of inner))

abbrev pub is_image_made : List SectionItem → Bool
is_image_made items = list_any makes items

abbrev pub origin_of : List SectionItem → Origin
origin_of items = if is_image_made items then Made else Ready

-- ---- a section inside

-- the image with the keys of a section of that kind, or the section's first fault
abbrev pub keyed : ImageSection → Subsection → Kind → Result ImageSection SectionFault
keyed image inner kind.Hd = hd_of inner.head inner.items >>= λ keys. Ok (record image { hd = keys })
keyed image inner kind.Flash = answer (section_fault (unnamed_fault inner.head) section.Device inner.items) image
keyed image inner kind.Sparse = sparse_of inner.head inner.items >>= λ keys. Ok (record image { sparse = keys })
keyed image inner kind.Plain = plain_of inner.head inner.items >>= λ keys. Ok (record image { plain = keys })
keyed image inner kind.Ready = Ok image

abbrev pub of_kind : Kind → ImageSection → ImageSection
of_kind kind image = record image { kinds = image.kinds ++ kind ∷ [] }

abbrev pub with_kind : ImageSection → Subsection → Kind → Result ImageSection SectionFault
with_kind image inner kind = keyed image inner kind >>= λ after. Ok (of_kind kind after)

abbrev pub with_partition : ImageSection → Subsection → Result ImageSection SectionFault
with_partition image inner = partition_of inner.head inner.items >>= λ keys. Ok (record image { parts = image.parts ++ keys ∷ [] })

abbrev pub with_section : ImageSection → Subsection → Result ImageSection SectionFault
with_section image inner = if is_partition inner then with_partition image inner else with_kind image inner (kind_of (word_of inner))

-- a ready image is read for syntax alone: each section inside counts, unless it is a partition
abbrev pub counted : ImageSection → Subsection → ImageSection
counted image inner = if is_partition inner then image else of_kind kind.Ready image

abbrev pub taken : Origin → ImageSection → Subsection → Result ImageSection SectionFault
taken Made image inner = with_section image inner
taken Ready image inner = Ok (counted image inner)

-- ---- all items in order

abbrev pub keys_of : Origin → Section
keys_of Made = section.Image
keys_of Ready = section.Ready

-- a key of the image itself leaves it as it is, where it has no fault
abbrev pub with_key : Origin → ImageSection → Setting → Result ImageSection SectionFault
with_key origin image setting = answer (setting_fault (keys_of origin) 0 setting) image

abbrev pub with_item : Origin → ImageSection → SectionItem → Result ImageSection SectionFault
with_item origin image (item.Key setting) = with_key origin image setting
with_item origin image (item.Section inner) = taken origin image inner

-- the image with all items, or the first fault
abbrev pub with_items : Origin → List SectionItem → ImageSection → Result ImageSection SectionFault
with_items origin [] image = Ok image
with_items origin (item ∷ rest) image = with_item origin image item >>= with_items origin rest

-- ---- an image

-- nothing but a name, and the defaults of all keys
abbrev pub image_named : List ℕ → ImageSection
image_named name = record {
  name = name;
  kinds = [];
  size = None;
  flashtype = None;
  hd = hd_values [];
  sparse = sparse_values [];
  plain = plain_values [];
  parts = [];
}

-- a made image with its own keys
abbrev pub with_keys : Origin → List Setting → ImageSection → ImageSection
with_keys Made settings image = record image { size = (image_values settings).size; flashtype = (image_values settings).flashtype }
with_keys Ready settings image = image

abbrev pub read_as : Origin → TopSection → Result ImageSection SectionFault
read_as origin top = do
  name ← answer (named_fault top.head) (name_text top.head)
  whole ← with_items origin top.items (image_named name)
  Ok (with_keys origin (top_keys top.items) whole)

abbrev pub image_of : TopSection → Result ImageSection SectionFault
image_of top = read_as (origin_of top.items) top
