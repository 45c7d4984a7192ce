use Rattle.std.proofs.Common.{◌≡◌, ℕ, Err, List, rules, subst}
use Rattle.block_map.specs.Maps.{IsMapOf}
use Rattle.outside.specs.Files.{bytes_of}
use Rattle.map_job.specs.Said.{image_said}
use Rattle.map_job.proofs.Whole.{mapped_by}
use Rattle.map_job.proofs.mapping.map_spec.Goals as goal

pub returns-in_err-map-clause-image : goal.returns-in_err-map-clause-image
returns-in_err-map-clause-image g c =
    let same : c.from_residual-in_err-map.result ≡ Err c.in_err-map.field-0.0 = search rules in
    rw same (c.in_err-map.ensures.image)

pub returns-clause-made : goal.returns-clause-made
returns-clause-made g c = λ told.
    let file = g.F.Files.file in
    let measured = c.in_ok-measured.measured in
    let map = c.in_ok-map.map in
    let is =
    subst (λ (name : List ℕ). IsMapOf measured.cover (bytes_of (file c.measure.new.files) name) c.args.block map)
    c.text.ensures (c.in_ok-map.ensures.made told) in
    mapped_by (image_said (file c.args.files.now) c.args.number c.args.spec.now) (file c.args.files.now)
    (file c.measure.new.files) c.args.spec.now.full (file c.write_map.new.files c.args.out.now) measured c.args.block map _
    c.in_ok-measured.ensures.same_files (c.in_ok-measured.ensures.measured told) is c.in_ok-map.ensures.map
    (c.in_ok-write_map.ensures.written told) c.len.ensures c.mapped_count.ensures
