use Rattle.std.specs.Prelude.{IfErr}
use Rattle.std.proofs.Common.{rules, subst}
use Rattle.std.proofs.lemmas.Result.{IfErr-weaker}
use Rattle.base_fields.specs.declared.spans.Span.{Span}
use Rattle.flash_geometry.specs.Faults.{Refuses, number_fault, part_fault, place_fault}
use Rattle.flash_geometry.specs.Places.{place_of}
use Rattle.flash_geometry.proofs.Refusals.{or_later}
use Rattle.flash_geometry.proofs.places.take_place.Goals as goal

pub returns-in_err-place_fault-clause-refused : goal.returns-in_err-place_fault-clause-refused
returns-in_err-place_fault-clause-refused c =
    let refusal = λ (s : Span). place_fault c.args.geometry.now c.args.parts.now c.args.taken c.args.part.now.name c.args.len s in
    let here : Span = place_of c.args.geometry.now c.args.taken c.args.part.now c.args.len in
    let passes : IfErr c.from_residual-in_err-place_fault.result (Refuses (refusal c.place_of-span.result)) = search rules in
    IfErr-weaker c.from_residual-in_err-place_fault.result (Refuses (refusal c.place_of-span.result)) (Refuses (part_fault c.args.geometry.now c.args.parts.now c.args.taken c.args.part.now c.args.len))
    (λ f h. or_later (number_fault c.args.geometry.now c.args.part.now c.args.len) (refusal here) f c.in_ok-number_fault.ensures.passes (subst (λ (s : Span). Refuses (refusal s) f) c.place_of-span.ensures.exact h))
    passes
