use Rattle.std.proofs.Common.{◌∙◌, ap, not, map, string_bytes}
use Rattle.image_names.specs.Names.{holds}
use Rattle.image_names.proofs.NameLemmas.{holds_key, names_inserted, same_added}
use Rattle.image_names.proofs.names.Names.add.Goals as goal

pub returns-clause-new : goal.returns-clause-new
returns-clause-new c =
    c.in_ok-insert.ensures.added
    ∙ ap not (holds_key c.self.inside.set.keys c.in_ok-from_str.field-0 c.args.name.now c.in_ok-from_str.ensures.ok ∙ ap (λ names. holds names c.args.name.now) c.self.view_is)

pub returns-clause-names : goal.returns-clause-names
returns-clause-names c =
    ap (map string_bytes) c.in_ok-insert.ensures.keys
    ∙ names_inserted c.self.inside.set.keys c.in_ok-from_str.field-0 c.args.name.now c.args.self.now c.in_ok-insert.field-0 c.in_ok-from_str.ensures.ok c.self.view_is (returns-clause-new c)

pub returns-clause-same : goal.returns-clause-same
returns-clause-same c = same_added c.args.self.now _ c.args.name.now c.in_ok-insert.field-0 (returns-clause-new c) (returns-clause-names c)
