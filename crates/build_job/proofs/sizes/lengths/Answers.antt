use Rattle.std.proofs.Common.{◌≡◌, Err, ap, arith, length, length-append, rules, sym, ◌∙◌}
use Rattle.image_specs.specs.declared.specs.ImageSpec.{ImageSpec}
use Rattle.build_job.specs.Files.{HasFile}
use Rattle.build_job.proofs.Sized.{long_still, sizes_more, there_still}
use Rattle.build_job.proofs.Steps.{holds_at, stands_at}
use Rattle.build_job.proofs.sizes.lengths.Goals as goal

pub returns-in_err-len-clause-unmeasured : goal.returns-in_err-len-clause-unmeasured
returns-in_err-len-clause-unmeasured g c = λ told.
    let graph = c.args.graph.now in
    let file = g.F.Files.file in
    let spec = c.index-specs-image.result in
    let same : c.from_residual.result ≡ Err c.in_err-len.field-0.0 = search rules in
    let stands =
    stands_at graph c.requires.graph _ _ c.loop-image.image-index _ c.index-specs-image.result
    c.as_slice-image-items.ensures c.as_slice-specs.ensures c.loop-image-test.true c.index-specs-image.is in
    let has = holds_at (HasFile (file c.args.files.now)) graph _ _ spec stands (c.requires.there told) in
    rw same (c.in_err-len.ensures.unmeasured told
    (there_still (file c.args.files.now) (file c.loop-image.files) spec.full _ c.loop-image.invariant.same_files
    (ap (λ (s : ImageSpec). s.full) (sym c.index-specs-image.is)) has))

pub returns-in_err-len-clause-image : goal.returns-in_err-len-clause-image
returns-in_err-len-clause-image g c =
    let graph = c.args.graph.now in
    let same : c.from_residual.result ≡ Err c.in_err-len.field-0.0 = search rules in
    let stands =
    stands_at graph c.requires.graph _ _ c.loop-image.image-index _ c.index-specs-image.result
    c.as_slice-image-items.ensures c.as_slice-specs.ensures c.loop-image-test.true c.index-specs-image.is in
    rw same (c.in_err-len.ensures.image (length graph.specs) (rw c.as_slice-image-items.ensures stands.inside))

pub loop-image-preserved : goal.loop-image-preserved
loop-image-preserved g c =
    let graph = c.args.graph.now in
    let file = g.F.Files.file in
    let spec = c.index-specs-image.result in
    let grown = c.in_ok-push.ensures.ok in
    let named = ap (λ (s : ImageSpec). s.full) (sym c.index-specs-image.is) in
    let stands =
    stands_at graph c.requires.graph _ _ c.loop-image.image-index _ c.index-specs-image.result
    c.as_slice-image-items.ensures c.as_slice-specs.ensures c.loop-image-test.true c.index-specs-image.is in
    let still = c.loop-image.invariant.same_files in
    record {
      none_fell = search rules;
      same_files = c.in_ok-len.ensures.same_files ∙ still;
      many = omega (arith, simp length-append at (ap length grown), c.loop-image.invariant.many);
      sizes = λ told.
          let has = holds_at (HasFile (file c.args.files.now)) graph _ _ spec stands (c.requires.there told) in
          let long =
          long_still (file c.args.files.now) (file c.loop-image.files) spec.full _ c.in_ok-len.len still named
          (c.in_ok-len.ensures.exact told
          (there_still (file c.args.files.now) (file c.loop-image.files) spec.full _ still named has)) in
          sizes_more graph (file c.args.files.now) c.loop-image.image-index _ _ spec c.loop-image.sizes
          c.push.new.self c.in_ok-len.len (omega arith) stands (c.loop-image.invariant.sizes told) long grown;
    }
