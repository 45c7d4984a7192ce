use Rattle.std.proofs.Common.{ℕ, List, [], Option, unwrap_or, ◌*◌, subst, rules}
use Rattle.outside.specs.Files.{bytes_of}
use Rattle.sparse_chunks.specs.Progress.{done_after}
use Rattle.sparse_windows.specs.Windows.{HasNeeded}
use Rattle.sparse_writer.specs.Answers.{IsRefusal, IsSoFar}
use Rattle.sparse_writer.proofs.writing.put_blocks.Goals as goal

pub loop-files-preserved : goal.loop-files-preserved
loop-files-preserved g c =
    let cover = c.args.cover.now in
    let block = c.args.block in
    let size = c.args.size in
    let file = g.F.Files.file in
    let to = c.args.to.now in
    let inv = c.loop-files.invariant in
    record {
      progress = search rules;
      within = search rules;
      buffer = search rules;
      none_fell = search rules;
      others = search rules;
      there = search rules;
      so_far = λ told before.
          subst (λ (f : Option (List ℕ)). IsSoFar cover block size f c.loop-files.progress (bytes_of (file c.loop-files.files) to) → IsSoFar cover block size f c.put_stretch.new.progress (bytes_of (file c.put_stretch.new.files) to))
          (inv.others c.args.from.now c.requires.apart) (c.in-Ok.ensures.goes told) (inv.so_far told before);
    }

pub returns-in-Err-clause-goes : goal.returns-in-Err-clause-goes
returns-in-Err-clause-goes g c told before =
    let cover = c.args.cover.now in
    let block = c.args.block in
    let size = c.args.size in
    let inv = c.loop-files.invariant in
    subst (λ (f : Option (List ℕ)). HasNeeded cover block size (done_after c.loop-files.progress.last * block) (unwrap_or f []) → IsRefusal cover block size f c.in-Err.fault)
    (inv.others c.args.from.now c.requires.apart) (c.in-Err.ensures.goes told) (inv.so_far told before).0
