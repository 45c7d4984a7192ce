use Rattle.std.proofs.Common.{◌∙◌, sym, ap, string_bytes}
use Rattle.std.specs.Str.{bytes_eq}
use Rattle.image_names.specs.Names.{number_of}
use Rattle.image_names.proofs.NameLemmas.{position-map}
use Rattle.image_names.proofs.names.Names.number.Goals as goal

pub returns-clause-number : goal.returns-clause-number
returns-clause-number c =
    c.get_index_of.ensures.index
    ∙ sym (position-map (bytes_eq c.args.name.now) string_bytes c.self.inside.set.keys)
    ∙ ap (λ names. number_of names c.args.name.now) c.self.view_is
