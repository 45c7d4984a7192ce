use Rattle.std.proofs.Common.{◌≡◌, ◌∙◌, sym, rules}
use Rattle.image_names.specs.Counts.{first_fault, flash_fault, names_of, no_flash}
use Rattle.image_names.specs.Stages.{Passes}
use Rattle.image_names.proofs.ClashLemmas.{flash_same, passes_same}
use Rattle.image_names.proofs.counts.no_flash.Goals as goal

pub returns-in_err-flash_faults : goal.returns-in_err-flash_faults
returns-in_err-flash_faults c =
    let same : first_fault (flash_fault c.in_ok-names.names) c.as_slice-2.result.now ≡ first_fault (flash_fault (names_of c.as_slice.result.now)) c.as_slice-2.result.now = flash_same _ _ c.in_ok-names.ensures c.as_slice-2.result.now in
    let whole : no_flash c.args.conf.now ≡ first_fault (flash_fault c.in_ok-names.names) c.as_slice-2.result.now = search (rules, sym same) in
    let passes : Passes (first_fault (flash_fault c.in_ok-names.names) c.as_slice-2.result.now) c.from_residual-in_err-flash_faults.result = search rules in
    passes_same _ _ _ whole passes

pub returns : goal.returns
returns c =
    let same : first_fault (flash_fault c.in_ok-names.names) c.as_slice-2.result.now ≡ first_fault (flash_fault (names_of c.as_slice.result.now)) c.as_slice-2.result.now = flash_same _ _ c.in_ok-names.ensures c.as_slice-2.result.now in
    let whole : no_flash c.args.conf.now ≡ first_fault (flash_fault c.in_ok-names.names) c.as_slice-2.result.now = search (rules, sym same) in
    whole ∙ c.in_ok-flash_faults.ensures
