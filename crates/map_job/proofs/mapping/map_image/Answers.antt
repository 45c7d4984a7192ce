use Rattle.std.proofs.Common.{◌≡◌, Err, Result, rules, subst, sym}
use Rattle.std.specs.Prelude.{IsOkAnd}
use Rattle.map_job.specs.Mapped.{IsMapped}
use Rattle.map_job.specs.Said.{Image}
use Rattle.map_job.specs.declared.faults.MappingFault.{MappingFault}
use Rattle.map_job.proofs.Chosen.{mapping_is}
use Rattle.map_job.proofs.Refusals.{comes_behind, of_images, refuses_along}
use Rattle.map_job.proofs.mapping.map_image.Goals as goal

pub returns-in_err-mapped-clause-refused : goal.returns-in_err-mapped-clause-refused
returns-in_err-mapped-clause-refused g c = λ told.
    let same : c.from_residual-in_err-mapped.result ≡ Err c.in_err-mapped.field-0.0 = search rules in
    rw same (refuses_along _ _ c.in_err-mapped.field-0.0
    (mapping_is c.args.texts.now c.args.graph.now (g.F.Files.file c.args.files.now) c.args.image.now c.args.out.now
    c.in_ok-number.number c.as_slice.result.now c.index-as_slice-number.result c.in_ok-number.ensures.said
    c.as_slice.ensures c.in_ok-number.ensures.within c.index-as_slice-number.is)
    (c.in_err-mapped.ensures.refused told))

pub returns-in_err-mapped-clause-image : goal.returns-in_err-mapped-clause-image
returns-in_err-mapped-clause-image g c =
    let same : c.from_residual-in_err-mapped.result ≡ Err c.in_err-mapped.field-0.0 = search rules in
    rw same (of_images _ c.in_ok-number.number c.in_err-mapped.field-0.0 c.in_ok-number.ensures.within
    c.in_err-mapped.ensures.image)

pub returns-in_err-mapped-clause-behind : goal.returns-in_err-mapped-clause-behind
returns-in_err-mapped-clause-behind g c =
    let same : c.from_residual-in_err-mapped.result ≡ Err c.in_err-mapped.field-0.0 = search rules in
    rw same (comes_behind _ c.in_ok-number.number c.in_err-mapped.field-0.0 c.in_ok-number.ensures.said
    c.in_err-mapped.ensures.image)

pub returns-clause-made : goal.returns-clause-made
returns-clause-made g c = λ told.
    let file = g.F.Files.file in
    subst (λ (r : Result Image MappingFault). IsOkAnd r
    (λ wanted. IsMapped wanted c.args.block (file c.map_spec.new.files c.args.out.now) c.in_ok-mapped.mapped))
    (sym (mapping_is c.args.texts.now c.args.graph.now (file c.args.files.now) c.args.image.now c.args.out.now
    c.in_ok-number.number c.as_slice.result.now c.index-as_slice-number.result c.in_ok-number.ensures.said
    c.as_slice.ensures c.in_ok-number.ensures.within c.index-as_slice-number.is))
    (c.in_ok-mapped.ensures.made told)
