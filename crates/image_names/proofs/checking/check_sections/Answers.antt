use Rattle.std.proofs.Common.{◌≡◌, None, rules}
use Rattle.image_names.specs.Stages.{section_fault}
use Rattle.image_names.proofs.CheckLemmas.{is_checked}
use Rattle.image_names.proofs.checking.check_sections.Goals as goal

pub returns-clause-checked : goal.returns-clause-checked
returns-clause-checked c =
    let none : section_fault c.args.conf.now ≡ None = search rules in
    is_checked c.args.conf.now none
