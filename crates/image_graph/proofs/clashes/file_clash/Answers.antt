use Rattle.std.proofs.Common.{◌≡◌, ◌∙◌, None, sym, ap, rules}
use Rattle.std.specs.Option.{option_or}
use Rattle.image_graph.specs.Clashes.{file_clash, file_fault, taken}
use Rattle.image_names.specs.Counts.{first_fault}
use Rattle.image_names.specs.Stages.{Passes}
use Rattle.image_names.proofs.ClashLemmas.{passes_same}
use Rattle.image_graph.proofs.FileLemmas.{file_same}
use Rattle.image_graph.proofs.clashes.file_clash.Goals as goal

pub returns-in_err-file_among : goal.returns-in_err-file_among
returns-in_err-file_among c =
    let rest = first_fault (file_fault c.args.texts.now) c.args.specs.now in
    let whole : file_clash c.args.texts.now c.args.specs.now ≡ option_or (first_fault (file_fault c.in_ok-files.files) c.args.specs.now) rest = ap (λ o. option_or o rest) (sym (file_same _ _ c.in_ok-files.ensures c.args.specs.now)) in
    let passes : Passes (option_or (first_fault (file_fault c.in_ok-files.files) c.args.specs.now) rest) c.from_residual-in_err-file_among.result = search rules in
    passes_same _ _ _ whole passes

pub returns-in_err-file_among-2 : goal.returns-in_err-file_among-2
returns-in_err-file_among-2 c =
    let none : first_fault (file_fault (taken c.args.specs.now)) c.args.specs.now ≡ None = sym (file_same _ _ c.in_ok-files.ensures c.args.specs.now) ∙ c.in_ok-file_among.ensures in
    let whole : file_clash c.args.texts.now c.args.specs.now ≡ first_fault (file_fault c.in_ok-texts.texts) c.args.specs.now = ap (λ o. option_or o (first_fault (file_fault c.args.texts.now) c.args.specs.now)) none ∙ sym (file_same _ _ c.in_ok-texts.ensures c.args.specs.now) in
    let passes : Passes (first_fault (file_fault c.in_ok-texts.texts) c.args.specs.now) c.from_residual-in_err-file_among-2.result = search rules in
    passes_same _ _ _ whole passes

pub returns : goal.returns
returns c =
    let none : first_fault (file_fault (taken c.args.specs.now)) c.args.specs.now ≡ None = sym (file_same _ _ c.in_ok-files.ensures c.args.specs.now) ∙ c.in_ok-file_among.ensures in
    ap (λ o. option_or o (first_fault (file_fault c.args.texts.now) c.args.specs.now)) none ∙ sym (file_same _ _ c.in_ok-texts.ensures c.args.specs.now) ∙ c.in_ok-file_among-2.ensures
