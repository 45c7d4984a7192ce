use Rattle.std.proofs.Common.{ℕ, ◌*◌, ◌++◌, List, [], Option, Some, unwrap_or, take, ap, ◌∙◌}
use Rattle.base_fields.specs.Fields.{written}
use Rattle.outside.specs.Files.{bytes_of}
use Rattle.sparse_chunks.specs.Progress.{more_with}
use Rattle.sparse_chunks.proofs.progress.put_more.Goals as goal

pub returns-clause-wrote : goal.returns-clause-wrote
returns-clause-wrote g c told =
    let at = c.args.placed.now.at in
    let all = bytes_of (g.F.Files.file c.args.files.now) c.args.to.now ++ more_with c.args.placed.now.run.content (take (c.args.more * c.args.block) c.args.bytes.now) in
    c.in_ok-write_at.ensures.wrote told
    ∙ ap (λ (o : Option (List ℕ)). Some (written (unwrap_or o []) at c.tag_bytes.result)) (c.in_ok-append_blocks.ensures.wrote told)
    ∙ ap (λ (xs : List ℕ). Some (written all at xs)) c.tag_bytes.ensures
