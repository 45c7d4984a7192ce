use Rattle.std.proofs.Common.{◌≡◌, Err, rules, arith}
use Rattle.region_pool.proofs.Uses.{used_again}
use Rattle.build_job.proofs.Steps.{built_at, children_at, others_at, own_at, stands_at, stopped_at}
use Rattle.build_job.proofs.each.build_each.Goals as goal

pub build_image-requires-clause-own : goal.build_image-requires-clause-own
build_image-requires-clause-own g c =
    let graph = c.args.graph.now in
    own_at graph c.requires.graph c.loop-image.image-index _ c.index-specs-image.result
    (stands_at graph c.requires.graph _ _ c.loop-image.image-index _ c.index-specs-image.result
    c.as_slice-image-items.ensures c.as_slice-specs.ensures c.loop-image-test.true c.index-specs-image.is)

pub build_image-requires-clause-children : goal.build_image-requires-clause-children
build_image-requires-clause-children g c =
    let graph = c.args.graph.now in
    rw c.as_slice-specs.ensures (children_at graph c.requires.graph c.loop-image.image-index _ c.index-specs-image.result
    (stands_at graph c.requires.graph _ _ c.loop-image.image-index _ c.index-specs-image.result
    c.as_slice-image-items.ensures c.as_slice-specs.ensures c.loop-image-test.true c.index-specs-image.is))

pub returns-in_err-build_image-clause-others : goal.returns-in_err-build_image-clause-others
returns-in_err-build_image-clause-others g c =
    let graph = c.args.graph.now in
    others_at graph c.loop-image.image-index _ c.index-specs-image.result _ _ _
    (stands_at graph c.requires.graph _ _ c.loop-image.image-index _ c.index-specs-image.result
    c.as_slice-image-items.ensures c.as_slice-specs.ensures c.loop-image-test.true c.index-specs-image.is)
    c.loop-image.invariant.others c.build_image.ensures.others

pub returns-in_err-build_image-clause-stopped : goal.returns-in_err-build_image-clause-stopped
returns-in_err-build_image-clause-stopped g c = λ told.
    let graph = c.args.graph.now in
    let file = g.F.Files.file in
    let same : c.from_residual.result ≡ Err c.in_err-build_image.field-0.0 = search rules in
    let stands =
    stands_at graph c.requires.graph _ _ c.loop-image.image-index _ c.index-specs-image.result
    c.as_slice-image-items.ensures c.as_slice-specs.ensures c.loop-image-test.true c.index-specs-image.is in
    let refused = rw c.as_slice-specs.ensures at c.in_err-build_image.ensures.refused told in
    rw same (stopped_at graph _ c.loop-image.image-index _ c.index-specs-image.result
    (file c.args.files.now) (file c.loop-image.files) (file c.build_image.new.files) c.in_err-build_image.field-0.0
    c.as_slice-image-items.ensures stands (c.loop-image.invariant.built told) refused
    c.build_image.ensures.others)

pub loop-image-preserved : goal.loop-image-preserved
loop-image-preserved g c =
    let graph = c.args.graph.now in
    let stands =
    stands_at graph c.requires.graph _ _ c.loop-image.image-index _ c.index-specs-image.result
    c.as_slice-image-items.ensures c.as_slice-specs.ensures c.loop-image-test.true c.index-specs-image.is in
    record {
      given_back = used_again _ _ _ c.loop-image.invariant.given_back c.build_image.ensures.given_back;
      none_fell = search rules;
      others =
          others_at graph c.loop-image.image-index _ c.index-specs-image.result _ _ _ stands
          c.loop-image.invariant.others c.build_image.ensures.others;
      built = λ told.
          let next = rw c.as_slice-specs.ensures at c.in_ok-build_image.ensures.built told in
          built_at graph c.loop-image.image-index _ _ c.index-specs-image.result _ _ _ (omega arith) stands
          (c.loop-image.invariant.built told) next;
    }
