-- What the items at the top say together, or the first item that has another key or value.
use Rattle.std.specs.Prelude.{ℕ, Bool, List, [], ◌∷◌, ◌++◌, unwrap_or, Result, Ok, Err, codes, if◌then◌else◌}
use Rattle.std.specs.Str.{bytes_eq}
use Rattle.conf_items.specs.declared.outline.TopItem.{TopItem}
use Rattle.conf_items.specs.declared.outline.TopItem.TheVariants as top
use Rattle.conf_items.specs.declared.outline.TopSection.{TopSection}
use Rattle.conf_keys.specs.declared.checking.SectionFault.{SectionFault}
use Rattle.conf_keys.specs.declared.checking.SectionFault.TheVariants.{UnknownKey}
use Rattle.conf_keys.specs.declared.conf.Conf.{Conf}
use Rattle.conf_keys.specs.declared.conf.ConfigKeys.{ConfigKeys}
use Rattle.conf_keys.specs.Sections.{config_of, flash_of}
use Rattle.base_fields.specs.Results.{◌>>=◌}
use Rattle.conf_sections.specs.Image.{image_of}

-- of several values the last one counts
abbrev pub with_config : Conf → ConfigKeys → Conf
with_config conf keys = record conf { input = unwrap_or keys.inputpath conf.input; output = unwrap_or keys.outputpath conf.output }

abbrev pub is_word : List ℕ → TopSection → Bool
is_word word section = bytes_eq section.head.word.text word

abbrev pub config_section : Conf → TopSection → Result Conf SectionFault
config_section conf section = config_of section.head section.items >>= λ keys. Ok (with_config conf keys)

abbrev pub flash_section : Conf → TopSection → Result Conf SectionFault
flash_section conf section = flash_of section.head section.items >>= λ flash. Ok (record conf { flashes = conf.flashes ++ flash ∷ [] })

abbrev pub image_section : Conf → TopSection → Result Conf SectionFault
image_section conf section = image_of section >>= λ image. Ok (record conf { images = conf.images ++ image ∷ [] })

abbrev pub with_section : Conf → TopSection → Result Conf SectionFault
with_section conf section =
    if is_word (codes "config") section then config_section conf section
    else if is_word (codes "flash") section then flash_section conf section
    else if is_word (codes "image") section then image_section conf section
    else Err (UnknownKey section.head.word.place)

abbrev pub with_item : Conf → TopItem → Result Conf SectionFault
with_item conf (top.Setting setting) = Err (UnknownKey setting.key.place)
with_item conf (top.Section section) = with_section conf section

-- the items in order
abbrev pub with_items : List TopItem → Conf → Result Conf SectionFault
with_items [] conf = Ok conf
with_items (item ∷ rest) conf = with_item conf item >>= with_items rest

abbrev pub nothing_said : Conf
nothing_said = record { input = []; output = []; flashes = []; images = []; texts = [] }

abbrev pub conf_of : List TopItem → Result Conf SectionFault
conf_of items = with_items items nothing_said
