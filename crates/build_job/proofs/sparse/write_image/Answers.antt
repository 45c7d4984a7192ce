use Rattle.build_job.proofs.Written.{written_builds}
use Rattle.build_job.proofs.sparse.write_image.Goals as goal

pub returns-in-Ok-write_sparse-clause-built : goal.returns-in-Ok-write_sparse-clause-built
returns-in-Ok-write_sparse-clause-built g c = λ told.
    let file = g.F.Files.file in
    written_builds c.args.specs.now c.args.spec.now c.one_source-source.result.now _ c.in-Ok.len c.in_ok-cover.cover
    (file c.args.files.now) (file c.sparse_length.new.files) (file c.cover_of.new.files) (file c.write_sparse.new.files)
    c.text.result.now c.text-2.result.now c.in-Ok-write_sparse.field-0 c.requires.kind c.one_source-source.ensures
    c.in-Some.is (c.in-Ok.ensures.said told) (c.in_ok-cover.ensures.counts told) c.in-Ok.ensures.same_files
    c.in_ok-cover.ensures.same_files c.text.ensures c.text-2.ensures (c.in-Ok-write_sparse.ensures.writes told)
    c.in-Ok-write_sparse.ensures.others
