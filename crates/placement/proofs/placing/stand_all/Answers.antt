use Rattle.std.proofs.Common.{◌≡◌, [], length, sym, ◌∙◌}
use Rattle.placement.proofs.Faults.{is_numbered}
use Rattle.placement.proofs.placing.stand_all.Goals as goal
use Rattle.placement_rules.proofs.Stoods.{stood_length}
use Rattle.placement_rules.specs.Places.{stood_from}
use Rattle.placement_rules.specs.Terms.{holes_of, names_of}

pub named-requires-clause-number : goal.named-requires-clause-number
named-requires-clause-number c =
    let same : length (stood_from c.args.frame.now [] c.args.terms.now (holes_of c.args.spec.now)) ≡ length (names_of c.args.spec.now) =
    stood_length c.args.frame.now [] c.args.terms.now (holes_of c.args.spec.now) (sym c.requires.holes) ∙ c.requires.names in
    (is_numbered c.args.frame.now _ _ c.in-Err-Part.number c.in-Err-Part.fault same (rw c.in-Err-Part.field-0-is at c.in-Err-Part.ensures.err)).number

pub named-requires-clause-known : goal.named-requires-clause-known
named-requires-clause-known c =
    let same : length (stood_from c.args.frame.now [] c.args.terms.now (holes_of c.args.spec.now)) ≡ length (names_of c.args.spec.now) =
    stood_length c.args.frame.now [] c.args.terms.now (holes_of c.args.spec.now) (sym c.requires.holes) ∙ c.requires.names in
    (is_numbered c.args.frame.now _ _ c.in-Err-Part.number c.in-Err-Part.fault same (rw c.in-Err-Part.field-0-is at c.in-Err-Part.ensures.err)).known
