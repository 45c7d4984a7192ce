use Rattle.std.proofs.Common.{◌≡◌, ℕ, ◌*◌, List, [], Option, Some, unwrap_or, ap, subst, sym, ◌∙◌, arith}
use Rattle.outside.specs.Files.{Tree, bytes_of}
use Rattle.std.specs.Int.{div_ceil}
use Rattle.base_fields.specs.Fields.{written}
use Rattle.sparse_text.specs.Text.{IsSparseText, header_text}
use Rattle.sparse_windows.specs.Windows.{HasNeeded, sized}
use Rattle.sparse_writer.proofs.Finished.{all_needed, finished, none_written}
use Rattle.sparse_writer.proofs.writing.write_through.Goals as goal

pub returns-clause-writes : goal.returns-clause-writes
returns-clause-writes g c told =
    let file = g.F.Files.file in
    let cover = c.args.cover.now in
    let block = c.args.block in
    let size = c.args.size in
    let least = c.requires.block.0 in
    let made = c.in_ok-make.ensures.there told in
    let source : file c.make.new.files c.args.from.now ≡ file c.args.files.now c.args.from.now =
    c.in_ok-make.ensures.others c.args.from.now c.requires.apart ∙ ap (λ (t : Tree). t c.args.from.now) c.in_ok-look_for.ensures.same_files in
    let start = none_written (sized size (unwrap_or (file c.make.new.files c.args.from.now) [])) cover block (bytes_of (file c.make.new.files) c.args.to.now) made.1 in
    let end = c.in_ok-put_blocks.ensures.goes told (λ o below needed. absurd (omega (arith, below)), start) in
    let wrote = c.in_ok-put_header.ensures.wrote told in
    let bytes_are = ap (λ (o : Option (List ℕ)). unwrap_or o []) wrote in
    let given = unwrap_or (file c.make.new.files c.args.from.now) [] in
    let same : given ≡ bytes_of (file c.args.files.now) c.args.from.now = ap (λ (o : Option (List ℕ)). unwrap_or o []) source in
    let needed = subst (λ (xs : List ℕ). HasNeeded cover block size size xs) same
    (all_needed cover block size given (omega (arith, least)) (subst (λ (n : ℕ). HasNeeded cover block size (n * block) given) c.in_ok-put_blocks.ensures.done end.0)) in
    let all = written (bytes_of (file c.put_blocks.new.files) c.args.to.now) 0 (header_text block (div_ceil size block) c.put_blocks.new.progress.chunks) in
    let text = subst (λ (xs : List ℕ). IsSparseText (sized size xs) cover block all) same (finished size (bytes_of (file c.put_blocks.new.files) c.args.to.now) given cover block c.put_blocks.new.progress c.in_ok-put_blocks.ensures.done end.1) in
    ((c.in_ok-look_for.ensures.found told, needed), (wrote ∙ ap (λ (xs : List ℕ). Some xs) (sym bytes_are), subst (IsSparseText (sized size (bytes_of (file c.args.files.now) c.args.from.now)) cover block) (sym bytes_are) text))
