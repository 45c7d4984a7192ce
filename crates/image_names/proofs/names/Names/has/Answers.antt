use Rattle.std.proofs.Common.{◌∙◌, sym, ap, string_bytes}
use Rattle.std.specs.Str.{bytes_eq}
use Rattle.image_names.specs.Names.{holds}
use Rattle.image_names.proofs.NameLemmas.{list_any-map}
use Rattle.image_names.proofs.names.Names.has.Goals as goal

pub returns : goal.returns
returns c =
    c.contains.ensures
    ∙ sym (list_any-map (bytes_eq c.args.name.now) string_bytes c.self.inside.set.keys)
    ∙ ap (λ names. holds names c.args.name.now) c.self.view_is
